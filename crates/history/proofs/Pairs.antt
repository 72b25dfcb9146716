-- Pairs in use, where one cell changes.
use Rattle.std.proofs.Common.{◌≡◌, ℕ, zero, suc, ◌+◌, ◌*◌, ◌/◌, ◌%◌, ◌<◌, ◌≤◌, Bool, true, false, ◌⊎◌, sym, refl, ap, ◌∙◌, subst, inl, inr, ⊎_elim, arith, ltb-true, lt-ltb}
use borrow.Author.Tests.{both_ways}
use Rattle.std.proofs.lemmas.Bool.{cases_eq, or_cases, or_left, or_right, cond-true, cond-false}
use Rattle.model.specs.States.{States}
use Rattle.model.specs.Joining.{JoinLaws, joining}
use Rattle.model.specs.Principals.{in_range}
use Rattle.model.specs.Folds.{one_if, count_below}
use Rattle.model.specs.Places.{place, same_place, principal_at, number, privilege_at}
use Rattle.model.specs.Stores.{Cells, put, assigned, in_use, pairs, has_room, no_cells}
use Rattle.model.specs.declared.principal.Principal.{Principal}
use Rattle.model.specs.declared.cell.Cell.{Cell}
use Rattle.model.specs.declared.place.Place.{Place}
use Rattle.model.proofs.Counting.{count_none, count_sub, any_some, any_witness}
use Rattle.model.proofs.Numbering.{number_in, number_at, at_number, cases_place, true_same, differ_place}
use Rattle.model.proofs.Outside.{unassigned_none}

one_if_most : (b : Bool) → one_if b ≤ 1
one_if_most true = omega arith
one_if_most false = omega arith

one_if_sub : (x y : Bool) → (x ≡ true → y ≡ true) → one_if x ≤ one_if y
one_if_sub true true h = omega arith
one_if_sub true false h = absurd (both_ways false refl (h refl))
one_if_sub false true h = omega arith
one_if_sub false false h = omega arith

-- at most one index passes that did not
count_grow : (n a : ℕ) (p q : ℕ → Bool) → ((k : ℕ) → k < n → (k ≡ a → ⊥) → p k ≡ true → q k ≡ true) → count_below n p ≤ count_below n q + 1
unfolding count_below
count_grow zero a p q h = omega arith
count_grow (suc n) a p q h =
    ⊎_elim
    (λ e.
    let here = one_if_most (p n) in
    let rest = count_sub n p q (λ k lt. h k (omega arith) (λ f. omega arith)) in
    omega arith)
    (λ ne.
    let here = one_if_sub (p n) (q n) (h n (omega arith) ne) in
    let rest = count_grow n a p q (λ k lt. h k (omega arith)) in
    omega arith)
    (cases_eq n a)

-- one index passes no more
count_less : (n a : ℕ) (p q : ℕ → Bool) → a < n → ((k : ℕ) → k < n → p k ≡ true → q k ≡ true) → p a ≡ false → q a ≡ true → count_below n p < count_below n q
unfolding count_below
count_less zero a p q lt h x y = absurd (omega arith)
count_less (suc n) a p q lt h x y =
    ⊎_elim
    (λ e.
    let was : one_if (p n) ≡ 0 = ap (λ (k : ℕ). one_if (p k)) e ∙ ap one_if x in
    let is : one_if (q n) ≡ 1 = ap (λ (k : ℕ). one_if (q k)) e ∙ ap one_if y in
    let rest = count_sub n p q (λ k l. h k (omega arith)) in
    omega arith)
    (λ ne.
    let here = one_if_sub (p n) (q n) (h n (omega arith)) in
    let rest = count_less n a p q (omega arith) (λ k l. h k (omega arith)) x y in
    omega arith)
    (cases_eq n a)

-- the number of a pair
abbrev pair_number : Principal → Principal → ℕ
pair_number g e = number g * 128 + number e

pair_below : (g e : Principal) → in_range g ≡ true → in_range e ≡ true → pair_number g e < 16384
pair_below g e x y = let a = number_in g x in let b = number_in e y in omega arith

granter_at : (g e : Principal) → in_range g ≡ true → in_range e ≡ true → principal_at (pair_number g e / 128) ≡ g
granter_at g e x y = let b = number_in e y in let q : pair_number g e / 128 ≡ number g = omega arith in ap principal_at q ∙ at_number g x

grantee_at : (g e : Principal) → in_range g ≡ true → in_range e ≡ true → principal_at (pair_number g e % 128) ≡ e
grantee_at g e x y = let b = number_in e y in let q : pair_number g e % 128 ≡ number e = omega arith in ap principal_at q ∙ at_number e y

-- a pair has one number
number_of_pair : (k : ℕ) (g e : Principal) → k < 16384 → principal_at (k / 128) ≡ g → principal_at (k % 128) ≡ e → k ≡ pair_number g e
number_of_pair k g e lt x y =
    let a : number g ≡ k / 128 = ap number (sym x) ∙ number_at (k / 128) (omega arith) in
    let b : number e ≡ k % 128 = ap number (sym y) ∙ number_at (k % 128) (omega arith) in
    omega arith

module _ {S : Type 0} (st : States S) (laws : JoinLaws (joining st)) where
  pub put_here : (cells : Cells S) (p : Place) (c : Cell S) → put cells p c p ≡ c
  put_here cells p c = cond-true (same_place p p) c (cells p) (true_same p p refl)

  pub put_else : (cells : Cells S) (p : Place) (c : Cell S) (q : Place) → (p ≡ q → ⊥) → put cells p c q ≡ cells q
  put_else cells p c q n = cond-false (same_place p q) c (cells q) (differ_place p q n)

  -- a pair is in use by one of its cells
  pub use_witness : (cells : Cells S) (o : ℕ) (g e : Principal) → in_use (joining st) cells o g e ≡ true → (k : ℕ) × (k < 8) × (assigned (joining st) (cells (place o g e (privilege_at k))).state ≡ true)
  unfolding in_use
  use_witness cells o g e h = any_witness 8 (λ k. assigned (joining st) (cells (place o g e (privilege_at k))).state) h

  pub use_some : (cells : Cells S) (o : ℕ) (g e : Principal) (k : ℕ) → k < 8 → assigned (joining st) (cells (place o g e (privilege_at k))).state ≡ true → in_use (joining st) cells o g e ≡ true
  unfolding in_use
  use_some cells o g e k lt h = any_some 8 k (λ k. assigned (joining st) (cells (place o g e (privilege_at k))).state) lt h

  unassigned_not : (c : Cell S) → c.state ≡ st.unassign → assigned (joining st) c.state ≡ true → ⊥
  unassigned_not c e h = both_ways _ (ap (assigned (joining st)) e ∙ unassigned_none (joining st) laws) h

  -- a write puts at most its own pair in use
  used_after : (cells : Cells S) (p : Place) (c : Cell S) (o : ℕ) (g e : Principal) → in_use (joining st) (put cells p c) o g e ≡ true
      → (in_use (joining st) cells o g e ≡ true) ⊎ ((p.object ≡ o) × (p.granter ≡ g) × (p.grantee ≡ e) × (assigned (joining st) c.state ≡ true))
  used_after cells p c o g e u =
      let h = use_witness (put cells p c) o g e u in
      let q : Place = place o g e (privilege_at h.0) in
      elim (cases_place p q) [
        | inl f ↦ inr (ap (λ z. z.object) f, ap (λ z. z.granter) f, ap (λ z. z.grantee) f, subst (λ d. assigned (joining st) d.state ≡ true) (ap (put cells p c) (sym f) ∙ put_here cells p c) h.2)
        | inr n ↦ inl (use_some cells o g e h.0 h.1 (subst (λ d. assigned (joining st) d.state ≡ true) (put_else cells p c q n) h.2))
      ]

  -- no other pair in use, no more pairs
  pub pairs_sub : (f h : Cells S) (o : ℕ) → ((g e : Principal) → in_use (joining st) f o g e ≡ true → in_use (joining st) h o g e ≡ true) → pairs (joining st) f o ≤ pairs (joining st) h o
  unfolding pairs
  pairs_sub f h o sub =
      count_sub 16384 (λ k. in_use (joining st) f o (principal_at (k / 128)) (principal_at (k % 128))) (λ k. in_use (joining st) h o (principal_at (k / 128)) (principal_at (k % 128)))
      (λ k lt. sub (principal_at (k / 128)) (principal_at (k % 128)))

  -- at most one pair more in use
  pairs_grow : (f h : Cells S) (o : ℕ) (a b : Principal) → ((g e : Principal) → (g ≡ a → e ≡ b → ⊥) → in_use (joining st) f o g e ≡ true → in_use (joining st) h o g e ≡ true) → pairs (joining st) f o ≤ pairs (joining st) h o + 1
  unfolding pairs
  pairs_grow f h o a b sub =
      count_grow 16384 (pair_number a b) (λ k. in_use (joining st) f o (principal_at (k / 128)) (principal_at (k % 128))) (λ k. in_use (joining st) h o (principal_at (k / 128)) (principal_at (k % 128)))
      (λ k lt n. sub (principal_at (k / 128)) (principal_at (k % 128)) (λ x y. n (number_of_pair k a b lt x y)))

  -- a pair that falls out of use gives its room back
  pub pairs_less : (f h : Cells S) (o : ℕ) (a b : Principal) → in_range a ≡ true → in_range b ≡ true → ((g e : Principal) → in_use (joining st) f o g e ≡ true → in_use (joining st) h o g e ≡ true) → in_use (joining st) f o a b ≡ false → in_use (joining st) h o a b ≡ true → pairs (joining st) f o < pairs (joining st) h o
  unfolding pairs
  pairs_less f h o a b ra rb sub x y =
      count_less 16384 (pair_number a b) (λ k. in_use (joining st) f o (principal_at (k / 128)) (principal_at (k % 128))) (λ k. in_use (joining st) h o (principal_at (k / 128)) (principal_at (k % 128)))
      (pair_below a b ra rb) (λ k lt. sub (principal_at (k / 128)) (principal_at (k % 128)))
      ((λ i. in_use (joining st) f o (granter_at a b ra rb i) (grantee_at a b ra rb i)) ∙ x) ((λ i. in_use (joining st) h o (granter_at a b ra rb i) (grantee_at a b ra rb i)) ∙ y)

  -- why there is room
  pub room_cases : (cells : Cells S) (p : Place) (c : Cell S) → has_room (joining st) cells p c ≡ true
      → (c.state ≡ st.unassign) ⊎ ((in_use (joining st) cells p.object p.granter p.grantee ≡ true) ⊎ (pairs (joining st) cells p.object < 16))
  room_cases cells p c h = elim (or_cases _ _ h) [
    | inl x ↦ inl ((laws.told_apart c.state st.unassign).0 x)
    | inr y ↦ inr (elim (or_cases _ _ y) [ inl u ↦ inl u | inr v ↦ inr (ltb-true _ _ v) ])
  ]

  pub room_from : (cells : Cells S) (p : Place) (c : Cell S)
      → (c.state ≡ st.unassign) ⊎ ((in_use (joining st) cells p.object p.granter p.grantee ≡ true) ⊎ (pairs (joining st) cells p.object < 16))
      → has_room (joining st) cells p c ≡ true
  room_from cells p c (inl e) = or_left ((joining st).same c.state st.unassign) _ ((laws.told_apart c.state st.unassign).1 e)
  room_from cells p c (inr (inl u)) =
      or_right ((joining st).same c.state st.unassign) _ (or_left (in_use (joining st) cells p.object p.granter p.grantee) _ u)
  room_from cells p c (inr (inr l)) =
      or_right ((joining st).same c.state st.unassign) _ (or_right (in_use (joining st) cells p.object p.granter p.grantee) _ (lt-ltb _ 16 l))

  -- where there is room, a write keeps within sixteen pairs
  pub pairs_put : (cells : Cells S) (p : Place) (c : Cell S) → ((o : ℕ) → pairs (joining st) cells o ≤ 16) → has_room (joining st) cells p c ≡ true → (o : ℕ) → pairs (joining st) (put cells p c) o ≤ 16
  pairs_put cells p c few room o = go (room_cases cells p c room)
    where
      kept : ((g e : Principal) → (p.object ≡ o) × (p.granter ≡ g) × (p.grantee ≡ e) × (assigned (joining st) c.state ≡ true) → in_use (joining st) cells o g e ≡ true) → pairs (joining st) (put cells p c) o ≤ 16
      kept own =
          let m = pairs_sub (put cells p c) cells o (λ g e u. elim (used_after cells p c o g e u) [ inl x ↦ x | inr x ↦ own g e x ]) in
          let l = few o in
          omega arith

      go : (c.state ≡ st.unassign) ⊎ ((in_use (joining st) cells p.object p.granter p.grantee ≡ true) ⊎ (pairs (joining st) cells p.object < 16)) → pairs (joining st) (put cells p c) o ≤ 16
      go (inl e) = kept (λ g e' x. absurd (unassigned_not c e x.3))
      go (inr (inl u)) = kept (λ g e x. (λ i. in_use (joining st) cells (sym x.0 i) (sym x.1 i) (sym x.2 i)) ∙ u)
      go (inr (inr l)) = elim (cases_eq p.object o) [
        | inl e ↦ (
            let m = pairs_grow (put cells p c) cells o p.granter p.grantee (λ g d n u. elim (used_after cells p c o g d u) [ inl x ↦ x | inr x ↦ absurd (n (sym x.1) (sym x.2)) ]) in
            let k : pairs (joining st) cells o < 16 = subst (λ z. pairs (joining st) cells z < 16) e l in
            omega arith)
        | inr n ↦ kept (λ g d x. absurd (n x.0))
      ]

  -- none is in use where nothing is assigned
  pub no_pairs : (o : ℕ) → pairs (joining st) (no_cells st) o ≤ 16
  unfolding pairs
  no_pairs o =
      let p : ℕ → Bool = λ k. in_use (joining st) (no_cells st) o (principal_at (k / 128)) (principal_at (k % 128)) in
      let m = count_sub 16384 p (λ _. false) (λ k lt u. (let h = use_witness (no_cells st) o _ _ u in absurd (both_ways _ (unassigned_none (joining st) laws) h.2))) in
      let z = count_none 16384 in
      omega arith
