-- The join below a bound depends only on which states are joined. From the laws of the join alone.
use Rattle.std.proofs.Common.{◌≡◌, ℕ, zero, suc, ◌+◌, ◌<◌, ◌⊎◌, sym, refl, ap, ◌∙◌, ⊎_elim, arith, rules}
use Rattle.std.proofs.lemmas.Bool.{cases_eq}
use Rattle.model.specs.Joining.{Joining, JoinLaws}
use Rattle.model.specs.Folds.{join_below}

module _ {S : Type 0} (j : Joining S) where
  pub join_more : (n : ℕ) (f : ℕ → S) → join_below j (n + 1) f ≡ j.join (f n) (join_below j n f)
  unfolding join_below
  join_more n f = search rules

  pub join_none : (f : ℕ → S) → join_below j 0 f ≡ j.unassign
  unfolding join_below
  join_none f = refl

  module _ (laws : JoinLaws j) where
    -- the join of all takes in each of them
    takes_in : (n : ℕ) (f : ℕ → S) (k : ℕ) → k < n → j.join (join_below j n f) (f k) ≡ join_below j n f
    unfolding join_below
    takes_in zero f k lt = absurd (omega arith)
    takes_in (suc n) f k lt =
        let x = f n in
        let b = join_below j n f in
        ⊎_elim
        (λ e.
        ap (λ (i : ℕ). j.join (j.join x b) (f i)) e
        ∙ laws.commutative (j.join x b) x
        ∙ sym (laws.associative x x b)
        ∙ ap (λ (y : S). j.join y b) (laws.idempotent x))
        (λ ne. laws.associative x b (f k) ∙ ap (j.join x) (takes_in n f k (omega arith)))
        (cases_eq k n)

    -- and is taken in by what takes in each of them
    taken_in : (n : ℕ) (f : ℕ → S) (r : S) → ((k : ℕ) → k < n → j.join r (f k) ≡ r) → j.join r (join_below j n f) ≡ r
    unfolding join_below
    taken_in zero f r each = laws.neutral_right r
    taken_in (suc n) f r each =
        sym (laws.associative r (f n) (join_below j n f))
        ∙ ap (λ (y : S). j.join y (join_below j n f)) (each n (omega arith))
        ∙ taken_in n f r (λ k lt. each k (omega arith))

    -- each of f is one of h, or unassign
    within : (n m : ℕ) (f h : ℕ → S) → ((k : ℕ) → k < n → (f k ≡ j.unassign) ⊎ ((i : ℕ) × (i < m) × (f k ≡ h i))) → j.join (join_below j m h) (join_below j n f) ≡ join_below j m h
    within n m f h each =
        taken_in n f (join_below j m h)
        (λ k lt. ⊎_elim
        (λ none. ap (j.join (join_below j m h)) none ∙ laws.neutral_right (join_below j m h))
        (λ w. ap (j.join (join_below j m h)) w.2 ∙ takes_in m h w.0 w.1)
        (each k lt))

    pub same_joined : (n m : ℕ) (f h : ℕ → S) → ((k : ℕ) → k < n → (f k ≡ j.unassign) ⊎ ((i : ℕ) × (i < m) × (f k ≡ h i))) → ((i : ℕ) → i < m → (h i ≡ j.unassign) ⊎ ((k : ℕ) × (k < n) × (h i ≡ f k))) → join_below j n f ≡ join_below j m h
    same_joined n m f h there back =
        sym (within m n h f back) ∙ laws.commutative (join_below j n f) (join_below j m h) ∙ within n m f h there

    pub none_joined : (n : ℕ) (f : ℕ → S) → ((k : ℕ) → k < n → f k ≡ j.unassign) → join_below j n f ≡ j.unassign
    unfolding join_below
    none_joined zero f none = refl
    none_joined (suc n) f none =
        ap (λ (x : S). j.join x (join_below j n f)) (none n (omega arith)) ∙ laws.neutral_left (join_below j n f) ∙ none_joined n f (λ k lt. none k (omega arith))
