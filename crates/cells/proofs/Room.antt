-- There is a slot for every record: 32 objects with 16 pairs of 8 cells are 4,096 cells.
use Rattle.std.proofs.Common.{◌≡◌, ℕ, zero, suc, ◌+◌, ◌*◌, ◌/◌, ◌%◌, ◌<◌, ◌≤◌, Bool, true, false, ◌&&◌, eqb, sym, refl, ap, ◌∙◌, ⊎_elim, arith}
use Rattle.std.proofs.lemmas.Bool.{cases_Bool, eqb-true, both_ways}
use Rattle.model.specs.Privileges.{bit}
use Rattle.model.specs.Folds.{one_if, any_below, count_below}
use Rattle.model.specs.Places.{place_in_range, principal_at, number}
use Rattle.model.specs.declared.place.Place.{Place}
use Rattle.model.proofs.Counting.{count_all, count_owned, count_same, count_most, count_none, count_sub, any_some, any_witness}
use Rattle.model.proofs.Numbering.{number_in, number_same, at_number, bit_same, bit_below, place_eq}
use Rattle.cells.specs.Kept.{used_in, pairs_in, Ranged, Distinct, Roomy}
use Rattle.cells.proofs.PairCounts.{used_some, of_from, quotient, remainder, range_parts}

-- a row of b after a row of a
count_add : (a b : ℕ) (p : ℕ → Bool) → count_below (a + b) p ≡ count_below b (λ j. p (a + j)) + count_below a p
unfolding count_below
count_add a zero p = let e : a + 0 ≡ a = omega arith in ap (λ (n : ℕ). count_below n p) e ∙ omega arith
count_add a (suc b) p =
    let e : a + suc b ≡ suc (a + b) = omega arith in
    ap (λ (n : ℕ). count_below n p) e ∙ omega (arith, count_add a b p)

-- each of m blocks has at most c
blocks_bound : (m w c : ℕ) (p : ℕ → Bool) → ((i : ℕ) → i < m → count_below w (λ j. p (i * w + j)) ≤ c) → count_below (m * w) p ≤ m * c
unfolding count_below
blocks_bound zero w c p h = let e : 0 * w ≡ 0 = omega arith in let move : count_below (0 * w) p ≡ 0 = ap (λ (n : ℕ). count_below n p) e in omega arith
blocks_bound (suc m) w c p h =
    let here = h m (omega arith) in
    let rest = blocks_bound m w c p (λ i lt. h i (omega arith)) in
    let add = count_add (m * w) w p in
    let e : suc m * w ≡ m * w + w = omega arith in
    let move = ap (λ (n : ℕ). count_below n p) e in
    let f : suc m * c ≡ m * c + c = omega arith in
    omega arith

-- a block with none has 0, and any other at most w
blocks_any : (m w : ℕ) (p : ℕ → Bool) → count_below (m * w) p ≤ w * count_below m (λ i. any_below w (λ j. p (i * w + j)))
unfolding count_below
blocks_any zero w p = let e : 0 * w ≡ 0 = omega arith in let move : count_below (0 * w) p ≡ 0 = ap (λ (n : ℕ). count_below n p) e in omega arith
blocks_any (suc m) w p =
    let q : ℕ → Bool = λ i. any_below w (λ j. p (i * w + j)) in
    let rest = blocks_any m w p in
    let add = count_add (m * w) w p in
    let e : suc m * w ≡ m * w + w = omega arith in
    let move = ap (λ (n : ℕ). count_below n p) e in
    let most = count_most w (λ j. p (m * w + j)) in
    ⊎_elim
    (λ some.
    let one : one_if (q m) ≡ 1 = ap one_if some in
    let f : w * (one_if (q m) + count_below m q) ≡ w + w * count_below m q = ap (λ (d : ℕ). w * (d + count_below m q)) one ∙ omega arith in
    omega arith)
    (λ none.
    let nothing : one_if (q m) ≡ 0 = ap one_if none in
    let nil : count_below w (λ j. p (m * w + j)) ≡ 0 = count_same w (λ j. p (m * w + j)) (λ j. false) (λ j lt. ⊎_elim (λ some. absurd (both_ways (q m) none (any_some w j (λ i. p (m * w + i)) lt some))) (λ h. h) (cases_Bool (p (m * w + j)))) ∙ count_none w in
    let f : w * (one_if (q m) + count_below m q) ≡ w * count_below m q = ap (λ (d : ℕ). w * (d + count_below m q)) nothing ∙ omega arith in
    omega arith)
    (cases_Bool (q m))

-- a number for each place
abbrev key_of : Place → ℕ
key_of a = a.object * 131072 + ((number a.granter * 128 + number a.grantee) * 8 + bit a.privilege)

key_object : (o x d y : ℕ) → x < 131072 → y < 131072 → o * 131072 + x ≡ d * 131072 + y → o ≡ d
key_object o x d y lx ly e = omega arith

key_rest : (o x d y : ℕ) → x < 131072 → y < 131072 → o * 131072 + x ≡ d * 131072 + y → x ≡ y
key_rest o x d y lx ly e = omega arith

key_pair : (k p l q : ℕ) → p < 8 → q < 8 → k * 8 + p ≡ l * 8 + q → k ≡ l
key_pair k p l q lp lq e = omega arith

key_privilege : (k p l q : ℕ) → p < 8 → q < 8 → k * 8 + p ≡ l * 8 + q → p ≡ q
key_privilege k p l q lp lq e = omega arith

pair_first : (g e h f : ℕ) → e < 128 → f < 128 → g * 128 + e ≡ h * 128 + f → g ≡ h
pair_first g e h f p q same = omega arith

pair_second : (g e h f : ℕ) → e < 128 → f < 128 → g * 128 + e ≡ h * 128 + f → e ≡ f
pair_second g e h f p q same = omega arith

below_object : (g e p : ℕ) → g < 128 → e < 128 → p < 8 → (g * 128 + e) * 8 + p < 131072
below_object g e p lg le lp = omega arith

below_all : (o x : ℕ) → o < 32 → x < 131072 → o * 131072 + x < 4194304
below_all o x lo lx = omega arith

key_below : (a : Place) → place_in_range a ≡ true → (number a.granter * 128 + number a.grantee) * 8 + bit a.privilege < 131072
key_below a ranged = let r = range_parts a ranged in below_object (number a.granter) (number a.grantee) (bit a.privilege) (number_in a.granter r.1) (number_in a.grantee r.2) (bit_below a.privilege)

key_same : (a b : Place) → place_in_range a ≡ true → place_in_range b ≡ true → key_of a ≡ key_of b → a ≡ b
key_same a b x y e =
    let ra = range_parts a x in
    let rb = range_parts b y in
    let ea = number_in a.grantee ra.2 in
    let eb = number_in b.grantee rb.2 in
    let rest = key_rest a.object _ b.object _ (key_below a x) (key_below b y) e in
    let pair = key_pair (number a.granter * 128 + number a.grantee) (bit a.privilege) (number b.granter * 128 + number b.grantee) (bit b.privilege) (bit_below a.privilege) (bit_below b.privilege) rest in
    place_eq a b (key_object a.object _ b.object _ (key_below a x) (key_below b y) e)
    (number_same a.granter b.granter ra.1 rb.1 (pair_first (number a.granter) (number a.grantee) (number b.granter) (number b.grantee) ea eb pair))
    (number_same a.grantee b.grantee ra.2 rb.2 (pair_second (number a.granter) (number a.grantee) (number b.granter) (number b.grantee) ea eb pair))
    (bit_same a.privilege b.privilege (key_privilege (number a.granter * 128 + number a.grantee) (bit a.privilege) (number b.granter * 128 + number b.grantee) (bit b.privilege) (bit_below a.privilege) (bit_below b.privilege) rest))

module _ (at : ℕ → Place) (n : ℕ) (ok : Ranged at n) (single : Distinct at n) (room : Roomy at n) where
  keyed : ℕ → Bool
  keyed k = any_below n (λ j. true && eqb (key_of (at j)) k)

  total : count_below 4194304 keyed ≡ n
  unfolding keyed
  total =
      count_owned 4194304 n (λ j. key_of (at j)) (λ _. true)
      (λ j lt _. below_all (at j).object _ (range_parts (at j) (ok j lt)).0 (key_below (at j) (ok j lt)))
      (λ i j li lj _ _ e. single i j (record { first = li; second = lj; same = key_same (at i) (at j) (ok i li) (ok j lj) e }))
      ∙ count_all n (λ _. true) (λ k lt. refl)

  -- a key that is there is of a pair that has a record
  of_pair : (o k p : ℕ) → k < 16384 → p < 8 → keyed (o * 131072 + (k * 8 + p)) ≡ true → used_in at n o (principal_at (k / 128)) (principal_at (k % 128)) ≡ true
  unfolding keyed
  of_pair o k p lk lp h =
      let w = any_witness n (λ j. true && eqb (key_of (at j)) (o * 131072 + (k * 8 + p))) h in
      let a = at w.0 in
      let r = range_parts a (ok w.0 w.1) in
      let key = eqb-true (key_of a) (o * 131072 + (k * 8 + p)) w.2 in
      let la = key_below a (ok w.0 w.1) in
      let lb : k * 8 + p < 131072 = omega arith in
      let le = number_in a.grantee r.2 in
      let pair = key_pair (number a.granter * 128 + number a.grantee) (bit a.privilege) k p (bit_below a.privilege) lp (key_rest a.object _ o _ la lb key) in
      used_some at n w.0 o (principal_at (k / 128)) (principal_at (k % 128)) w.1
      (of_from a o (principal_at (k / 128)) (principal_at (k % 128)) (key_object a.object _ o _ la lb key)
      (sym (at_number a.granter r.1) ∙ ap principal_at (sym (quotient (number a.granter) (number a.grantee) le) ∙ ap (λ (x : ℕ). x / 128) pair))
      (sym (at_number a.grantee r.2) ∙ ap principal_at (sym (remainder (number a.granter) (number a.grantee) le) ∙ ap (λ (x : ℕ). x % 128) pair)))

  at_object : (o : ℕ) → o < 32 → count_below 131072 (λ x. keyed (o * 131072 + x)) ≤ 128
  unfolding pairs_in
  at_object o lo =
      let most = blocks_any 16384 8 (λ x. keyed (o * 131072 + x)) in
      let sub = count_sub 16384 (λ k. any_below 8 (λ p. keyed (o * 131072 + (k * 8 + p)))) (λ k. used_in at n o (principal_at (k / 128)) (principal_at (k % 128)))
      (λ k lk h. let w = any_witness 8 (λ p. keyed (o * 131072 + (k * 8 + p))) h in of_pair o k w.0 lk w.1 w.2) in
      omega (arith, room o lo)

  -- no more than 4,096 records
  pub fits_all : n ≤ 4096
  fits_all = omega (arith, total, blocks_bound 32 131072 128 keyed at_object)
