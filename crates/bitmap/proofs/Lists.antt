-- What passes in a list, and what passes below a bound.
use Rattle.std.proofs.Common.{◌≡◌, ℕ, ◌<◌, Bool, true, false, ltb, Decides, List, Some, None, is_some, length, get_or, take, fold, sym, ap, ◌∙◌, ⊎_elim, arith}
use Rattle.std.specs.List.{list_any, list_all, count_by, position, position_or_len, range_with_len}
use Rattle.std.proofs.lemmas.Bool.{cases_Bool, cond-true, cond-false, ltb-true, ltb-false, both_ways}
use Rattle.std.proofs.lemmas.Option.{none-some}
use Rattle.std.proofs.lemmas.List.Folds.{list_all_at}
use Rattle.std.proofs.lemmas.List.FromFn.{get_or-range_with_len, length-range_with_len}
use Rattle.std.proofs.lemmas.List.Sums.{list_all-from_AllPass, fails_before_first, passes_at_first}
use Rattle.std.proofs.Math.Seq.{take-length}
use Rattle.model.specs.Joining.{Joining}
use Rattle.model.specs.Folds.{count_below, any_below, join_below}
use Rattle.model.proofs.Counting.{any_none, any_some}
use Rattle.model.proofs.FoldLists.{any_front, count_front, join_front}

-- a list is its first elements, as many as it has
whole : {X A : Type 0} (xs : List X) (n : ℕ) → length xs ≡ n → (f : List X → A) → f xs ≡ f (take n xs)
whole xs n long f = ap f (sym (take-length xs)) ∙ ap (λ (k : ℕ). f (take k xs)) long

module _ {X : Type 0} (p : X → Bool) (xs : List X) (d : X) where
  -- where there is no first place that passes, none does
  pub position-None : position p xs ≡ None → (i : ℕ) → i < length xs → p (get_or xs i d) ≡ false
  position-None none i lt =
      ⊎_elim
      (λ yes. absurd (none-some (position_or_len p xs) (sym none ∙ cond-true (ltb (position_or_len p xs) (length xs)) (Some (position_or_len p xs)) None yes)))
      (λ no. fails_before_first p xs i d (omega (arith, ltb-false (position_or_len p xs) (length xs) no)))
      (cases_Bool (ltb (position_or_len p xs) (length xs)))

  module _ (n : ℕ) (q : ℕ → Bool) (long : length xs ≡ n) (same : (i : ℕ) → i < n → p (get_or xs i d) ≡ q i) where
    pub list_any_below : list_any p xs ≡ any_below n q
    list_any_below = whole xs n long (list_any p) ∙ any_front p xs d q n (omega arith) same

    pub count_by_below : count_by p xs ≡ count_below n q
    count_by_below = whole xs n long (count_by p) ∙ count_front p xs d q n (omega arith) same

    pub is_some-position : is_some (position p xs) ≡ any_below n q
    is_some-position =
        let at = position_or_len p xs in
        ⊎_elim
        (λ yes. let lt = ltb-true at (length xs) yes in ap is_some (cond-true (ltb at (length xs)) (Some at) None yes) ∙ sym (any_some n at q (omega arith) (sym (same at (omega arith)) ∙ passes_at_first p xs d lt)))
        (λ no. ap is_some (cond-false (ltb at (length xs)) (Some at) None no) ∙ sym (any_none n q (λ i lt. sym (same i lt) ∙ fails_before_first p xs i d (omega (arith, ltb-false at (length xs) no)))))
        (cases_Bool (ltb at (length xs)))

-- a fold by the join
pub fold_below : {X S : Type 0} (j : Joining S) (f : X → S) (xs : List X) (d : X) (n : ℕ) (h : ℕ → S) → length xs ≡ n → ((i : ℕ) → i < n → f (get_or xs i d) ≡ h i) → fold (λ a x. j.join (f x) a) j.unassign xs ≡ join_below j n h
fold_below j f xs d n h long same = whole xs n long (fold (λ a x. j.join (f x) a) j.unassign) ∙ join_front j f xs d h n (omega arith) same

-- the numbers from 0 up to a bound
at_range : (n i d : ℕ) → i < n → get_or (range_with_len 0 n) i d ≡ i
at_range n i d lt = omega (arith, get_or-range_with_len 0 n i d lt)

pub any_range : (n : ℕ) (q : ℕ → Bool) → list_any q (range_with_len 0 n) ≡ any_below n q
any_range n q = list_any_below q (range_with_len 0 n) 0 n q (length-range_with_len 0 n) (λ i lt. ap q (at_range n i 0 lt))

pub all_range : (n : ℕ) (q : ℕ → Bool) (r : Bool) → r ≡ list_all q (range_with_len 0 n) → Decides r ((k : ℕ) → k < n → q k ≡ true)
all_range n q r is =
    let long = length-range_with_len 0 n in (
      λ yes k lt. ⊎_elim (λ e. e) (λ no. absurd (both_ways (list_all q (range_with_len 0 n)) (list_all_at q (range_with_len 0 n) k 0 (omega arith) (ap q (at_range n k 0 lt) ∙ no)) (sym is ∙ yes))) (cases_Bool (q k)),
      λ all. is ∙ list_all-from_AllPass q (range_with_len 0 n) (λ k d lt. let below : k < n = omega arith in ap q (at_range n k d below) ∙ all k below),
    )
