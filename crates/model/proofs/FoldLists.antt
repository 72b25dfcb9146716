-- What the first elements of a list answer, and what numbers below a bound do.
use Rattle.std.proofs.Common.{◌≡◌, ℕ, zero, suc, ◌<◌, ◌≤◌, Bool, ◌||◌, List, length, get_or, take, replicate, count_by, fold, sym, refl, ap, ◌∙◌, ⊎_elim, add-one, arith}
use Rattle.std.specs.List.{list_any}
use Rattle.std.proofs.Math.Bool.{or_comm}
use Rattle.std.proofs.lemmas.Bool.{cases_Bool}
use Rattle.std.proofs.lemmas.List.Folds.{list_any_more}
use Rattle.std.proofs.lemmas.List.Sums.{count_by_more_yes, count_by_more_no, fold_more}
use Rattle.model.specs.Joining.{Joining}
use Rattle.model.specs.Folds.{one_if, count_below, any_below, join_below}

module _ {X : Type 0} (p : X → Bool) (xs : List X) (d : X) (q : ℕ → Bool) where
  pub any_front : (n : ℕ) → n ≤ length xs → ((i : ℕ) → i < n → p (get_or xs i d) ≡ q i) → list_any p (take n xs) ≡ any_below n q
  unfolding any_below
  any_front zero le same = refl
  any_front (suc n) le same =
      ap (λ (m : ℕ). list_any p (take m xs)) (sym (add-one n))
      ∙ list_any_more p xs n d (omega arith)
      ∙ or_comm (list_any p (take n xs)) (p (get_or xs n d))
      ∙ ap (λ (b : Bool). b || list_any p (take n xs)) (same n (omega arith))
      ∙ ap (λ (b : Bool). q n || b) (any_front n (omega arith) (λ i lt. same i (omega arith)))

  pub count_front : (n : ℕ) → n ≤ length xs → ((i : ℕ) → i < n → p (get_or xs i d) ≡ q i) → count_by p (take n xs) ≡ count_below n q
  unfolding count_below
  count_front zero le same = refl
  count_front (suc n) le same =
      let rest : count_by p (take n xs) ≡ count_below n q = count_front n (omega arith) (λ i lt. same i (omega arith)) in
      let one : one_if (p (get_or xs n d)) ≡ one_if (q n) = ap one_if (same n (omega arith)) in
      ap (λ (m : ℕ). count_by p (take m xs)) (sym (add-one n))
      ∙ ⊎_elim
      (λ yes. let is : one_if (p (get_or xs n d)) ≡ 1 = ap one_if yes in let more = count_by_more_yes p xs n d (omega arith) yes in omega arith)
      (λ no. let is : one_if (p (get_or xs n d)) ≡ 0 = ap one_if no in let more = count_by_more_no p xs n d (omega arith) no in omega arith)
      (cases_Bool (p (get_or xs n d)))

module _ {X S : Type 0} (j : Joining S) (f : X → S) (xs : List X) (d : X) (h : ℕ → S) where
  pub join_front : (n : ℕ) → n ≤ length xs → ((i : ℕ) → i < n → f (get_or xs i d) ≡ h i) → fold (λ a x. j.join (f x) a) j.unassign (take n xs) ≡ join_below j n h
  unfolding join_below
  join_front zero le same = refl
  join_front (suc n) le same =
      ap (λ (m : ℕ). fold (λ a x. j.join (f x) a) j.unassign (take m xs)) (sym (add-one n))
      ∙ fold_more (λ a x. j.join (f x) a) j.unassign xs n d (omega arith)
      ∙ ap (λ (y : S). j.join y (fold (λ a x. j.join (f x) a) j.unassign (take n xs))) (same n (omega arith))
      ∙ ap (j.join (h n)) (join_front n (omega arith) (λ i lt. same i (omega arith)))

-- a list of one element again and again, read anywhere
pub replicate_at : {X : Type 0} (x : X) (n k : ℕ) → get_or (replicate n x) k x ≡ x
replicate_at x zero k = refl
replicate_at x (suc n) zero = refl
replicate_at x (suc n) (suc k) = replicate_at x n k
