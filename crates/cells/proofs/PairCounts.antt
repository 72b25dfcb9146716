-- Counting the pairs that a list's records have.
use Rattle.std.proofs.Common.{◌≡◌, ℕ, zero, suc, ◌+◌, ◌*◌, ◌/◌, ◌%◌, ◌<◌, ◌≤◌, Bool, true, false, not, ◌&&◌, ◌||◌, eqb, sym, refl, ap, ◌∙◌, ⊎_elim, arith}
use Rattle.std.proofs.lemmas.Bool.{cases_Bool, eqb-true, eq-eqb, and_parts, and_left, and_right, and_from, or_left, not_from_true, not_from_false, ltb-true}
use Rattle.std.proofs.lemmas.Nat.{div-add-mod', mod_below, div_below}
use Rattle.model.specs.Principals.{in_range, object_in_range}
use Rattle.model.specs.Folds.{one_if, any_below, count_below}
use Rattle.model.specs.Places.{place_in_range, same_principal, principal_at, number}
use Rattle.model.specs.declared.principal.Principal.{Principal}
use Rattle.model.specs.declared.place.Place.{Place}
use Rattle.model.proofs.Counting.{count_same, count_flip, count_none, count_sub, any_none, any_some, any_same, any_witness}
use Rattle.model.proofs.Numbering.{number_in, number_at, at_number, principal_same, same_principals}
use Rattle.cells.specs.Kept.{is_of, used_in, pairs_in, first_at, Ranged}

pub of_parts : (a : Place) (o : ℕ) (g e : Principal) → is_of a o g e ≡ true → (a.object ≡ o) × (a.granter ≡ g) × (a.grantee ≡ e)
of_parts a o g e h =
    let x = and_parts (eqb a.object o) (same_principal a.granter g && same_principal a.grantee e) h in
    let y = and_parts (same_principal a.granter g) (same_principal a.grantee e) x.1 in
    (eqb-true a.object o x.0, principal_same a.granter g y.0, principal_same a.grantee e y.1)

pub of_from : (a : Place) (o : ℕ) (g e : Principal) → a.object ≡ o → a.granter ≡ g → a.grantee ≡ e → is_of a o g e ≡ true
of_from a o g e x y z = and_from _ _ (eq-eqb a.object o x) (and_from _ _ (same_principals a.granter g y) (same_principals a.grantee e z))

pub range_parts : (p : Place) → place_in_range p ≡ true → (p.object < 32) × (in_range p.granter ≡ true) × (in_range p.grantee ≡ true)
range_parts p ranged =
    let a = and_parts (object_in_range p.object) (in_range p.granter && in_range p.grantee) ranged in
    let b = and_parts (in_range p.granter) (in_range p.grantee) a.1 in
    (ltb-true p.object 32 a.0, b.0, b.1)

pub quotient : (g e : ℕ) → e < 128 → (g * 128 + e) / 128 ≡ g
quotient g e lt = omega arith

pub remainder : (g e : ℕ) → e < 128 → (g * 128 + e) % 128 ≡ e
remainder g e lt = omega arith

pair_below : (g e : ℕ) → g < 128 → e < 128 → g * 128 + e < 16384
pair_below g e p q = omega arith

module _ (at : ℕ → Place) where
  used_more : (n o : ℕ) (g e : Principal) → used_in at (suc n) o g e ≡ (is_of (at n) o g e || used_in at n o g e)
  unfolding used_in any_below
  used_more n o g e = refl

  pub used_some : (n i o : ℕ) (g e : Principal) → i < n → is_of (at i) o g e ≡ true → used_in at n o g e ≡ true
  unfolding used_in
  used_some n i o g e lt h = any_some n i (λ j. is_of (at j) o g e) lt h

  used_witness : (n o : ℕ) (g e : Principal) → used_in at n o g e ≡ true → (i : ℕ) × (i < n) × (is_of (at i) o g e ≡ true)
  unfolding used_in
  used_witness n o g e h = any_witness n (λ j. is_of (at j) o g e) h

  pub pairs_start : (o : ℕ) → pairs_in at 0 o ≡ 0
  unfolding pairs_in used_in
  pairs_start o = count_same 16384 (λ k. any_below 0 (λ i. is_of (at i) o (principal_at (k / 128)) (principal_at (k % 128)))) (λ k. false) (λ k lt. any_none 0 (λ i. is_of (at i) o (principal_at (k / 128)) (principal_at (k % 128))) (λ i below. absurd (omega arith))) ∙ count_none 16384

  -- one record more adds its pair, if it is the first of it
  pub pairs_step : (n o : ℕ) → in_range (at n).granter ≡ true → in_range (at n).grantee ≡ true → pairs_in at (suc n) o ≡ one_if (first_at at o n) + pairs_in at n o
  unfolding pairs_in
  pairs_step n o rg re =
      let g = (at n).granter in
      let e = (at n).grantee in
      let lg = number_in g rg in
      let le = number_in e re in
      let new : ℕ → Bool = λ k. used_in at (suc n) o (principal_at (k / 128)) (principal_at (k % 128)) in
      let old : ℕ → Bool = λ k. used_in at n o (principal_at (k / 128)) (principal_at (k % 128)) in
      let k0 : ℕ = number g * 128 + number e in
      let granter_at : principal_at (k0 / 128) ≡ g = ap principal_at (quotient (number g) (number e) le) ∙ at_number g rg in
      let grantee_at : principal_at (k0 % 128) ≡ e = ap principal_at (remainder (number g) (number e) le) ∙ at_number e re in
      let apart : (k : ℕ) → is_of (at n) o (principal_at (k / 128)) (principal_at (k % 128)) ≡ false → new k ≡ old k = λ k none. used_more n o (principal_at (k / 128)) (principal_at (k % 128)) ∙ ap (λ (b : Bool). b || old k) none in
      ⊎_elim
      (λ here.
      ⊎_elim
      (λ was.
      let none : one_if (first_at at o n) ≡ 0 = ap one_if (and_right (eqb (at n).object o) (not (used_in at n o g e)) (not_from_true (used_in at n o g e) was)) in
      let same = count_same 16384 new old (λ k lt. ⊎_elim
      (λ own. let m = of_parts (at n) o (principal_at (k / 128)) (principal_at (k % 128)) own in
      used_more n o (principal_at (k / 128)) (principal_at (k % 128)) ∙ or_left (is_of (at n) o (principal_at (k / 128)) (principal_at (k % 128))) (old k) own ∙ sym (ap (λ (x : Principal). used_in at n o x (principal_at (k % 128))) (sym m.1) ∙ ap (λ (x : Principal). used_in at n o g x) (sym m.2) ∙ was))
      (λ none. apart k none)
      (cases_Bool (is_of (at n) o (principal_at (k / 128)) (principal_at (k % 128))))) in
      omega arith)
      (λ fresh.
      let one : one_if (first_at at o n) ≡ 1 = ap one_if (and_from (eqb (at n).object o) (not (used_in at n o g e)) here (not_from_false (used_in at n o g e) fresh)) in
      let flip = count_flip 16384 k0 old new (pair_below (number g) (number e) lg le)
      (ap (λ (x : Principal). used_in at n o x (principal_at (k0 % 128))) granter_at ∙ ap (λ (x : Principal). used_in at n o g x) grantee_at ∙ fresh)
      (used_more n o (principal_at (k0 / 128)) (principal_at (k0 % 128)) ∙ or_left (is_of (at n) o (principal_at (k0 / 128)) (principal_at (k0 % 128))) (old k0) (of_from (at n) o (principal_at (k0 / 128)) (principal_at (k0 % 128)) (eqb-true (at n).object o here) (sym granter_at) (sym grantee_at)))
      (λ k lt ne. sym (apart k (⊎_elim
      (λ own.
      let m = of_parts (at n) o (principal_at (k / 128)) (principal_at (k % 128)) own in
      let ng : number g ≡ k / 128 = ap number m.1 ∙ number_at (k / 128) (div_below k 128 128 (omega arith) (omega arith)) in
      let ne' : number e ≡ k % 128 = ap number m.2 ∙ number_at (k % 128) (mod_below k 128 (omega arith)) in
      absurd (ne (sym (div-add-mod' k 128) ∙ ap (λ (x : ℕ). x * 128 + k % 128) (sym ng) ∙ ap (λ (x : ℕ). number g * 128 + x) (sym ne'))))
      (λ none. none)
      (cases_Bool (is_of (at n) o (principal_at (k / 128)) (principal_at (k % 128))))))) in
      omega arith)
      (cases_Bool (used_in at n o g e)))
      (λ away.
      let none : one_if (first_at at o n) ≡ 0 = ap one_if (and_left (eqb (at n).object o) (not (used_in at n o g e)) away) in
      let same = count_same 16384 new old (λ k lt. apart k (and_left (eqb (at n).object o) _ away)) in
      omega arith)
      (cases_Bool (eqb (at n).object o))

  -- the pairs are as many as the records that are the first of theirs
  pub pairs_counted : (n o : ℕ) → Ranged at n → pairs_in at n o ≡ count_below n (first_at at o)
  unfolding count_below
  pairs_counted zero o ok = pairs_start o
  pairs_counted (suc n) o ok =
      let r = range_parts (at n) (ok n (omega arith)) in
      let step = pairs_step n o r.1 r.2 in
      let rest = pairs_counted n o (λ i lt. ok i (omega arith)) in
      omega arith

pub used_same : (at at' : ℕ → Place) (n o : ℕ) (g e : Principal) → ((i : ℕ) → i < n → at i ≡ at' i) → used_in at n o g e ≡ used_in at' n o g e
unfolding used_in
used_same at at' n o g e h = any_same n (λ i. is_of (at i) o g e) (λ i. is_of (at' i) o g e) (λ i lt. ap (λ (a : Place). is_of a o g e) (h i lt))

pub pairs_same : (at at' : ℕ → Place) (n o : ℕ) → ((i : ℕ) → i < n → at i ≡ at' i) → pairs_in at n o ≡ pairs_in at' n o
unfolding pairs_in
pairs_same at at' n o h = count_same 16384 (λ k. used_in at n o (principal_at (k / 128)) (principal_at (k % 128))) (λ k. used_in at' n o (principal_at (k / 128)) (principal_at (k % 128))) (λ k lt. used_same at at' n o (principal_at (k / 128)) (principal_at (k % 128)) h)

-- fewer records, no more pairs
pub pairs_sub : (at at' : ℕ → Place) (n m o : ℕ) → ((i : ℕ) → i < n → (j : ℕ) × (j < m) × (at i ≡ at' j)) → pairs_in at n o ≤ pairs_in at' m o
unfolding pairs_in
pairs_sub at at' n m o h =
    count_sub 16384 (λ k. used_in at n o (principal_at (k / 128)) (principal_at (k % 128))) (λ k. used_in at' m o (principal_at (k / 128)) (principal_at (k % 128)))
    (λ k lt own.
    let w = used_witness at n o (principal_at (k / 128)) (principal_at (k % 128)) own in
    let v = h w.0 w.1 in
    used_some at' m v.0 o (principal_at (k / 128)) (principal_at (k % 128)) v.1 (ap (λ (a : Place). is_of a o (principal_at (k / 128)) (principal_at (k % 128))) (sym v.2) ∙ w.2))

-- a record's own pair is in use
pub used_at : (at : ℕ → Place) (n i : ℕ) (a : Place) → i < n → at i ≡ a → used_in at n a.object a.granter a.grantee ≡ true
used_at at n i a lt e = used_some at n i a.object a.granter a.grantee lt (of_from (at i) a.object a.granter a.grantee (ap (λ (b : Place). b.object) e) (ap (λ (b : Place). b.granter) e) (ap (λ (b : Place). b.grantee) e))
