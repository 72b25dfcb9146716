-- The strongest of some states: there is one only, and it is put together from those of their parts.
use Rattle.std.proofs.Common.{◌≡◌, ℕ, zero, suc, ◌<◌, true, ◌⊎◌, sym, refl, ap, ◌∙◌, subst, inl, inr, ⊎_elim, arith}
use Rattle.std.proofs.lemmas.Bool.{cases_eq}
use Rattle.model.specs.States.{States, Lawful}
use Rattle.model.specs.Joining.{joining, Stronger}
use Rattle.model.specs.Folds.{join_below}
use Rattle.model.proofs.Joins.{join_stronger}
use Rattle.access.specs.Reaching.{Strongest}

-- one of some states, or unassign
abbrev pub OrUnassign : {S : Type 0} → States S → (S → Type 0) → S → Type 0
OrUnassign st P t = P t ⊎ (t ≡ st.unassign)

-- one of the states of f below n
abbrev pub Among : {S : Type 0} → ℕ → (ℕ → S) → S → Type 0
Among n f t = (k : ℕ) × (k < n) × (f k ≡ t)

module _ {S : Type 0} (st : States S) (law : Lawful st) where
  over_each : (P : S → Type 0) (s : S) → ((t : S) → P t → st.overrides s t ≡ true) → (t : S) → OrUnassign st P t → st.overrides s t ≡ true
  over_each P s over t (inl p) = over t p
  over_each P s over t (inr e) = subst (λ x. st.overrides s x ≡ true) (sym e) (law.over_unassign s)

  pub strongest_only : (P : S → Type 0) (a b : S) → Strongest st P a → Strongest st P b → a ≡ b
  strongest_only P a b x y = law.antisymmetric a b (over_each P a x.over b y.one) (over_each P b y.over a x.one)

  -- other words for the same states
  pub strongest_as : (P Q : S → Type 0) (s : S) → ((t : S) → P t → OrUnassign st Q t) → ((t : S) → Q t → OrUnassign st P t) → Strongest st P s → Strongest st Q s
  strongest_as P Q s to from x = record { one = go x.one; over = λ t q. over_each P s x.over t (from t q) }
    where
      go : OrUnassign st P s → OrUnassign st Q s
      go (inl p) = to s p
      go (inr e) = inr e

  pub strongest_same : (P Q : S → Type 0) (s : S) → ((t : S) → P t → Q t) → ((t : S) → Q t → P t) → Strongest st P s → Strongest st Q s
  strongest_same P Q s to from = strongest_as P Q s (λ t p. inl (to t p)) (λ t q. inl (from t q))

  pub strongest_of_none : (P : S → Type 0) (s : S) → s ≡ st.unassign → ((t : S) → P t → ⊥) → Strongest st P s
  strongest_of_none P s e none = record { one = inr e; over = λ t p. absurd (none t p) }

  pub strongest_of_one : (s : S) → Strongest st (λ t. s ≡ t) s
  strongest_of_one s = record { one = inl refl; over = λ t e. subst (λ x. st.overrides s x ≡ true) e (law.reflexive s) }

  pub strongest_of_both : (P Q : S → Type 0) (a b r : S) → Strongest st P a → Strongest st Q b → Stronger st a b r → Strongest st (λ t. P t ⊎ Q t) r
  strongest_of_both P Q a b r x y j = record { one = one j.either; over = over }
    where
      left : OrUnassign st P r → OrUnassign st (λ t. P t ⊎ Q t) r
      left (inl p) = inl (inl p)
      left (inr e) = inr e

      right : OrUnassign st Q r → OrUnassign st (λ t. P t ⊎ Q t) r
      right (inl q) = inl (inr q)
      right (inr e) = inr e

      one : (r ≡ a) ⊎ (r ≡ b) → OrUnassign st (λ t. P t ⊎ Q t) r
      one (inl e) = left (subst (OrUnassign st P) (sym e) x.one)
      one (inr e) = right (subst (OrUnassign st Q) (sym e) y.one)

      over : (t : S) → P t ⊎ Q t → st.overrides r t ≡ true
      over t (inl p) = law.transitive r a t j.over_left (x.over t p)
      over t (inr q) = law.transitive r b t j.over_right (y.over t q)

  pub strongest_of_fold : (n : ℕ) (f : ℕ → S) → Strongest st (Among n f) (join_below (joining st) n f)
  unfolding join_below
  strongest_of_fold zero f = strongest_of_none (Among zero f) _ refl (λ t m. omega (arith, m.1))
  strongest_of_fold (suc n) f =
      strongest_same (λ t. (f n ≡ t) ⊎ Among n f t) (Among (suc n) f) _ to from
      (strongest_of_both (λ t. f n ≡ t) (Among n f) (f n) (join_below (joining st) n f) _ (strongest_of_one (f n)) (strongest_of_fold n f) (join_stronger st law (f n) (join_below (joining st) n f)))
    where
      to : (t : S) → (f n ≡ t) ⊎ Among n f t → Among (suc n) f t
      to t (inl e) = (n, omega arith, e)
      to t (inr m) = (m.0, omega (arith, m.1), m.2)

      from : (t : S) → Among (suc n) f t → (f n ≡ t) ⊎ Among n f t
      from t m = ⊎_elim (λ (e : m.0 ≡ n). inl (ap f (sym e) ∙ m.2)) (λ (ne : m.0 ≡ n → ⊥). inr (m.0, omega (arith, m.1), m.2)) (cases_eq m.0 n)
