-- What the first n records hold at a place.
use Rattle.std.proofs.Common.{◌≡◌, ℕ, zero, suc, ◌<◌, ◌⊎◌, sym, refl, ap, ◌∙◌, inl, inr, ⊎_elim, arith}
use Rattle.std.proofs.lemmas.Bool.{cases_eq, cond-true, cond-false}
use Rattle.model.specs.States.{States}
use Rattle.model.specs.Allowed.{unassigned}
use Rattle.model.specs.Places.{same_place}
use Rattle.model.specs.declared.place.Place.{Place}
use Rattle.model.specs.declared.cell.Cell.{Cell}
use Rattle.model.proofs.Numbering.{cases_place, true_same, differ_place}
use Rattle.cells.specs.Kept.{Distinct}
use Rattle.cells.specs.Listed.{held}

pub search_place : (at : ℕ → Place) (n : ℕ) (p : Place) → ((i : ℕ) × (i < n) × (at i ≡ p)) ⊎ ((i : ℕ) → i < n → at i ≡ p → ⊥)
search_place at zero p = inr (λ i lt. absurd (omega arith))
search_place at (suc n) p =
    ⊎_elim
    (λ e. inl (n, omega arith, e))
    (λ ne. ⊎_elim
    (λ w. inl (w.0, omega (arith, w.1), w.2))
    (λ none. inr (λ i lt e. ⊎_elim (λ f. ne (ap at (sym f) ∙ e)) (λ nf. none i (omega arith) e) (cases_eq i n)))
    (search_place at n p))
    (cases_place (at n) p)

module _ {S : Type 0} (s : States S) (at : ℕ → Place) (val : ℕ → Cell S) where
  pub held_none : (n : ℕ) (p : Place) → ((i : ℕ) → i < n → at i ≡ p → ⊥) → held s at val n p ≡ unassigned s
  unfolding held
  held_none zero p h = refl
  held_none (suc n) p h = cond-false (same_place (at n) p) (val n) (held s at val n p) (differ_place (at n) p (h n (omega arith))) ∙ held_none n p (λ i lt. h i (omega arith))

  held_first : (n i : ℕ) (p : Place) → i < n → at i ≡ p → ((j : ℕ) → j < n → at j ≡ p → j ≡ i) → held s at val n p ≡ val i
  unfolding held
  held_first zero i p lt e single = absurd (omega arith)
  held_first (suc n) i p lt e single =
      ⊎_elim
      (λ f. cond-true (same_place (at n) p) (val n) (held s at val n p) (true_same (at n) p (ap at (sym f) ∙ e)) ∙ ap val (sym f))
      (λ nf. cond-false (same_place (at n) p) (val n) (held s at val n p) (differ_place (at n) p (λ h. nf (sym (single n (omega arith) h)))) ∙ held_first n i p (omega arith) e (λ j below. single j (omega arith)))
      (cases_eq i n)

  pub held_one : (n : ℕ) → Distinct at n → (i : ℕ) (p : Place) → i < n → at i ≡ p → held s at val n p ≡ val i
  held_one n single i p lt e = held_first n i p lt e (λ j lj h. single j i (record { first = lj; second = lt; same = h ∙ sym e }))

-- what two lists hold at a place is the same, if each record of it in one has its like in the other
pub held_kept : {S : Type 0} (s : States S) (at at' : ℕ → Place) (val val' : ℕ → Cell S) (n m : ℕ) → Distinct at n → Distinct at' m → (p : Place)
    → ((j : ℕ) → j < n → at j ≡ p → (k : ℕ) × (k < m) × (at' k ≡ p) × (val' k ≡ val j))
    → ((k : ℕ) → k < m → at' k ≡ p → (j : ℕ) × (j < n) × (at j ≡ p))
    → held s at' val' m p ≡ held s at val n p
held_kept s at at' val val' n m single single' p there back =
    ⊎_elim
    (λ w. let v = there w.0 w.1 w.2 in held_one s at' val' m single' v.0 p v.1 v.2 ∙ v.3 ∙ sym (held_one s at val n single w.0 p w.1 w.2))
    (λ none. held_none s at' val' m p (λ k lk h. let w = back k lk h in none w.0 w.1 w.2) ∙ sym (held_none s at val n p none))
    (search_place at n p)
