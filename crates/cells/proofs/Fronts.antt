-- What the first n records of a list answer, from what each of them answers.
use Rattle.std.proofs.Common.{◌≡◌, ℕ, zero, suc, ◌<◌, ◌≤◌, Bool, cond, not, ◌&&◌, eqb, ltb, List, [], ◌∷◌, length, take, get_or, Some, None, count_by, MatchOption, sym, refl, ap, ◌∙◌, subst, ⊎_elim, zero-add, arith}
use Rattle.std.specs.List.{list_any, enumerate_from, position_or_len, position}
use Rattle.std.proofs.lemmas.Bool.{both_ways, cases_Bool, eqb-true, and_left, ltb-true, ltb-false}
use Rattle.std.proofs.lemmas.List.{length-take-le, get_or-take, take_all}
use Rattle.std.proofs.lemmas.List.FromFn.{length-enumerate_from, get_or-enumerate_from}
use Rattle.std.proofs.lemmas.List.Sums.{fails_before_first, passes_at_first}
use Rattle.model.specs.Folds.{count_below}
use Rattle.model.specs.Places.{place_in_range, same_place}
use Rattle.model.specs.declared.place.Place.{Place}
use Rattle.model.specs.declared.principal.Principal.{Principal}
use Rattle.model.proofs.FoldLists.{any_front, count_front}
use Rattle.model.proofs.Numbering.{same_true, true_same}
use Rattle.cells.specs.declared.record.CellRecord.{CellRecord}
use Rattle.cells.specs.Kept.{part_at, place_at, nowhere, is_of, used_in, pairs_in, first_of, first_at, Ranged}
use Rattle.cells.proofs.Records.{part_read}
use Rattle.cells.proofs.PairCounts.{pairs_counted, pairs_same}

part_take : {S A : Type 0} (f : CellRecord S → A) (z : A) (xs : List (CellRecord S)) (n i : ℕ) → i < n → part_at f z (take n xs) i ≡ part_at f z xs i
part_take f z xs zero i lt = absurd (omega arith)
part_take f z [] (suc n) i lt = refl
part_take f z (y ∷ ys) (suc n) zero lt = refl
part_take f z (y ∷ ys) (suc n) (suc i) lt = part_take f z ys n i (omega arith)

same_object : (m o : ℕ) (f : ℕ → Bool) → (eqb m o && f m) ≡ (eqb m o && f o)
same_object m o f = ⊎_elim (λ h. ap (λ (x : ℕ). eqb m o && f x) (eqb-true m o h)) (λ h. and_left (eqb m o) (f m) h ∙ sym (and_left (eqb m o) (f o) h)) (cases_Bool (eqb m o))

module _ {S : Type 0} (xs : List (CellRecord S)) (d : CellRecord S) where
  pub place_of : (i : ℕ) → i < length xs → place_at xs i ≡ (get_or xs i d).place
  place_of i lt = sym (part_read (λ r. r.place) nowhere xs i d lt)

  pub used_of_front : (n o : ℕ) (g e : Principal) → n ≤ length xs → list_any (λ r. is_of r.place o g e) (take n xs) ≡ used_in (place_at xs) n o g e
  unfolding used_in
  used_of_front n o g e le = any_front (λ r. is_of r.place o g e) xs d (λ i. is_of (place_at xs i) o g e) n le (λ i lt. ap (λ (a : Place). is_of a o g e) (sym (place_of i (omega arith))))

  -- the first of its pair at an object, by the records before it
  first_is : (i o : ℕ) → i < length xs → first_of xs o (i, (get_or xs i d).place) ≡ first_at (place_at xs) o i
  first_is i o lt =
      let a : Place = (get_or xs i d).place in
      same_object a.object o (λ x. not (list_any (λ r. is_of r.place x a.granter a.grantee) (take i xs)))
      ∙ ap (λ (b : Bool). eqb a.object o && not b) (used_of_front i o a.granter a.grantee (omega arith))
      ∙ ap (λ (b : Place). eqb b.object o && not (used_in (place_at xs) i o b.granter b.grantee)) (sym (place_of i lt))

  pub pairs_counted_in : (o : ℕ) → Ranged (place_at xs) (length xs) → count_by (λ p. first_of xs o (p.0, p.1.place)) (enumerate_from 0 xs) ≡ pairs_in (place_at xs) (length xs) o
  pairs_counted_in o ok =
      let ys : List (ℕ × CellRecord S) = enumerate_from 0 xs in
      let test : ℕ × CellRecord S → Bool = λ p. first_of xs o (p.0, p.1.place) in
      let long : length ys ≡ length xs = length-enumerate_from 0 xs in
      let read : (i : ℕ) → i < length ys → test (get_or ys i (0, d)) ≡ first_at (place_at xs) o i =
      λ i lt. ap test (get_or-enumerate_from 0 xs i (0, d) (omega arith)) ∙ ap (λ (k : ℕ). first_of xs o (k, (get_or xs i d).place)) (zero-add i) ∙ first_is i o (omega arith) in
      ap (count_by test) (sym (take_all (length ys) ys (omega arith)))
      ∙ count_front test ys (0, d) (first_at (place_at xs) o) (length ys) (omega arith) read
      ∙ ap (λ (n : ℕ). count_below n (first_at (place_at xs) o)) long
      ∙ sym (pairs_counted (place_at xs) (length xs) o ok)

module _ {S : Type 0} (xs : List (CellRecord S)) (d : CellRecord S) where
  pub pairs_of_front : (n o : ℕ) → n ≤ length xs → Ranged (place_at xs) n → count_by (λ p. first_of (take n xs) o (p.0, p.1.place)) (enumerate_from 0 (take n xs)) ≡ pairs_in (place_at xs) n o
  pairs_of_front n o le ok =
      let ys : List (CellRecord S) = take n xs in
      let long : length ys ≡ n = length-take-le n xs le in
      let same : (i : ℕ) → i < length ys → place_at ys i ≡ place_at xs i = λ i lt. part_take (λ r. r.place) nowhere xs n i (omega arith) in
      pairs_counted_in ys d o (λ i lt. ap place_in_range (same i lt) ∙ ok i (omega arith))
      ∙ pairs_same (place_at ys) (place_at xs) (length ys) o same
      ∙ ap (λ (m : ℕ). pairs_in (place_at xs) m o) long

  -- a place is found, or no record is of it
  pub found_in_front : (n : ℕ) (p : Place) → n ≤ length xs → (A : Type 0) (Q : ℕ → Type 0) → (((i : ℕ) → i < n → place_at xs i ≡ p → ⊥) → A) → ((i : ℕ) → i < n → place_at xs i ≡ p → Q i) → MatchOption (position (λ r. same_place r.place p) (take n xs)) A Q
  found_in_front n p le A Q none some =
      let test : CellRecord S → Bool = λ r. same_place r.place p in
      let ys : List (CellRecord S) = take n xs in
      let k : ℕ = position_or_len test ys in
      let long : length ys ≡ n = length-take-le n xs le in
      let read : (i : ℕ) → i < n → same_place (place_at xs i) p ≡ test (get_or ys i d) =
      λ i lt. ap (λ (a : Place). same_place a p) (place_of xs d i (omega arith)) ∙ ap test (sym (get_or-take n xs i d lt)) in
      ⊎_elim
      (λ yes.
      let lt : k < length ys = ltb-true k (length ys) yes in
      let below : k < n = omega arith in
      subst (λ (b : Bool). MatchOption (cond b (Some k) None) A Q) (sym yes)
      (some k below (same_true (place_at xs k) p (read k below ∙ passes_at_first test ys d lt))))
      (λ no.
      let past : length ys ≤ k = ltb-false k (length ys) no in
      subst (λ (b : Bool). MatchOption (cond b (Some k) None) A Q) (sym no)
      (none (λ i lt h. let below : i < k = omega arith in both_ways (same_place (place_at xs i) p) (read i lt ∙ fails_before_first test ys i d below) (true_same (place_at xs i) p h))))
      (cases_Bool (ltb k (length ys)))
