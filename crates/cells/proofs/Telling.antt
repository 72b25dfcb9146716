-- What a list's records answer is what its cells answer.
use Rattle.std.proofs.Common.{◌≡◌, ℕ, zero, suc, ◌/◌, ◌%◌, ◌<◌, Bool, true, false, cond, ◌&&◌, eqb, ◌⊎◌, List, [], ◌∷◌, take, get_or, count_by, fold, sym, refl, ap, ◌∙◌, subst, inl, inr, ⊎_elim, arith}
use Rattle.std.specs.List.{list_any, enumerate_from}
use mathlib.Core.Path.{fun_ext}
use Rattle.std.proofs.lemmas.Bool.{cases_Bool, eqb-true, eq-eqb, and_parts, and_from, both_ways, cond-true, cond-false, not_from_false, ltb-true}
use Rattle.model.specs.Principals.{object_in_range}
use Rattle.model.specs.Privileges.{bit}
use Rattle.model.specs.States.{States, Lawful, same, join}
use Rattle.model.specs.Joining.{joining, JoinLaws}
use Rattle.model.specs.Allowed.{Allowed, unassigned}
use Rattle.model.specs.Folds.{any_below, join_below}
use Rattle.model.specs.Places.{place, place_in_range, same_principal, principal_at, privilege_at, number}
use Rattle.model.specs.Stores.{assigned, in_use, pairs, has_option, state_towards, strongest, no_cells, Sound}
use Rattle.model.specs.declared.principal.Principal.{Principal}
use Rattle.model.specs.declared.right.Right.{Right}
use Rattle.model.specs.declared.place.Place.{Place}
use Rattle.model.specs.declared.cell.Cell.{Cell}
use Rattle.model.specs.declared.cell.Orientation.{Orientation}
use Rattle.model.proofs.Joins.{join_laws}
use Rattle.model.proofs.Counting.{any_some, any_iff, count_same}
use Rattle.model.proofs.JoinFolds.{same_joined}
use Rattle.model.proofs.Numbering.{number_in, at_number, bit_below, at_bit, bit_same, principal_same, same_principals, place_eq}
use Rattle.model.proofs.Outside.{towards_none, unassigned_none, unassigned_allowed, answers_outside_lem}
use Rattle.model.proofs.FoldLists.{any_front, join_front}
use Rattle.cells.specs.declared.record.CellRecord.{CellRecord}
use Rattle.cells.specs.Kept.{place_at, nowhere, is_of, used_in, pairs_in, first_of, Kept}
use Rattle.cells.specs.Listed.{cell_of_record, record_of, cell_at, list_cells, is_for, option_by, state_by}
use Rattle.cells.proofs.Records.{part_read, state_cell, record_allowed}
use Rattle.cells.proofs.Found.{search_place, held_none, held_one}
use Rattle.cells.proofs.PairCounts.{of_parts, of_from, range_parts, pairs_start}
use Rattle.cells.proofs.Fronts.{place_of, used_of_front, pairs_of_front}

-- the place where a granter gives a grantee a right
abbrev given : Right → Principal → Principal → Place
given r g e = place r.object g e r.privilege

for_parts : (a : Place) (r : Right) (e : Principal) → is_for a r e ≡ true → (a.object ≡ r.object) × (a.grantee ≡ e) × (a.privilege ≡ r.privilege)
for_parts a r e h =
    let x = and_parts (eqb a.object r.object) (same_principal a.grantee e && eqb (bit a.privilege) (bit r.privilege)) h in
    let y = and_parts (same_principal a.grantee e) (eqb (bit a.privilege) (bit r.privilege)) x.1 in
    (eqb-true a.object r.object x.0, principal_same a.grantee e y.0, bit_same a.privilege r.privilege (eqb-true (bit a.privilege) (bit r.privilege) y.1))

for_from : (a : Place) (r : Right) (g e : Principal) → a ≡ given r g e → is_for a r e ≡ true
for_from a r g e h = and_from _ _ (eq-eqb a.object r.object (ap (λ (b : Place). b.object) h)) (and_from _ _ (same_principals a.grantee e (ap (λ (b : Place). b.grantee) h)) (eq-eqb (bit a.privilege) (bit r.privilege) (ap (λ (b : Place). bit b.privilege) h)))

cell_allowed : {S : Type 0} (s : States S) (law : Lawful s) (xs : List (CellRecord S)) (i : ℕ) → Allowed s (cell_at s xs i)
cell_allowed s law [] i = unassigned_allowed s law
cell_allowed s law (x ∷ xs) zero = record_allowed s law x
cell_allowed s law (x ∷ xs) (suc i) = cell_allowed s law xs i

module _ {S : Type 0} (s : States S) (law : Lawful s) (xs : List (CellRecord S)) (n : ℕ) (kept : Kept s.unassign xs n) where
  laws : JoinLaws (joining s)
  laws = join_laws s law

  -- a question put to each granter is one put to each record
  module _ {A : Type 0} (C : Cell S → A) (z : A) (plain : C (unassigned s) ≡ z) (r : Right) (e : Principal) where
    to_records : (k : ℕ) → k < 128 → (C (list_cells s xs n (given r (principal_at k) e)) ≡ z) ⊎ ((i : ℕ) × (i < n) × (C (list_cells s xs n (given r (principal_at k) e)) ≡ cond (is_for (place_at xs i) r e) (C (cell_at s xs i)) z))
    to_records k lk =
        ⊎_elim
        (λ w. inr (w.0, w.1, ap C (held_one s (place_at xs) (cell_at s xs) n kept.distinct w.0 (given r (principal_at k) e) w.1 w.2) ∙ sym (cond-true (is_for (place_at xs w.0) r e) (C (cell_at s xs w.0)) z (for_from (place_at xs w.0) r (principal_at k) e w.2))))
        (λ none. inl (ap C (held_none s (place_at xs) (cell_at s xs) n (given r (principal_at k) e) none) ∙ plain))
        (search_place (place_at xs) n (given r (principal_at k) e))

    from_records : (i : ℕ) → i < n → (cond (is_for (place_at xs i) r e) (C (cell_at s xs i)) z ≡ z) ⊎ ((k : ℕ) × (k < 128) × (cond (is_for (place_at xs i) r e) (C (cell_at s xs i)) z ≡ C (list_cells s xs n (given r (principal_at k) e))))
    from_records i lt =
        ⊎_elim
        (λ h.
        let w = for_parts (place_at xs i) r e h in
        let range = range_parts (place_at xs i) (kept.ranged i lt) in
        let k = number (place_at xs i).granter in
        inr (k, number_in (place_at xs i).granter range.1, cond-true (is_for (place_at xs i) r e) (C (cell_at s xs i)) z h ∙ sym (ap C (held_one s (place_at xs) (cell_at s xs) n kept.distinct i (given r (principal_at k) e) lt (place_eq (place_at xs i) (given r (principal_at k) e) w.0 (sym (at_number (place_at xs i).granter range.1)) w.1 w.2)))))
        (λ h. inl (cond-false (is_for (place_at xs i) r e) (C (cell_at s xs i)) z h))
        (cases_Bool (is_for (place_at xs i) r e))

  option_is : (r : Right) (e : Principal) → any_below n (λ i. option_by r e (place_at xs i) (cell_at s xs i)) ≡ has_option (list_cells s xs n) r.object r.privilege e
  unfolding has_option
  option_is r e =
      any_iff n 128 (λ i. option_by r e (place_at xs i) (cell_at s xs i)) (λ k. (list_cells s xs n (given r (principal_at k) e)).option)
      (λ i lt h. ⊎_elim (λ none. absurd (both_ways _ none h)) (λ w. any_some 128 w.0 (λ k. (list_cells s xs n (given r (principal_at k) e)).option) w.1 (sym w.2 ∙ h)) (from_records (λ (c : Cell S). c.option) false refl r e i lt))
      (λ k lk h. ⊎_elim (λ none. absurd (both_ways _ none h)) (λ w. any_some n w.0 (λ i. option_by r e (place_at xs i) (cell_at s xs i)) w.1 (sym w.2 ∙ h)) (to_records (λ (c : Cell S). c.option) false refl r e k lk))

  strongest_is : (r : Right) (e : Principal) (t : Orientation) → join_below (joining s) n (λ i. state_by (joining s) r e t (place_at xs i) (cell_at s xs i)) ≡ strongest (joining s) (list_cells s xs n) r.object r.privilege e t
  unfolding strongest
  strongest_is r e t =
      same_joined (joining s) laws n 128 (λ i. state_by (joining s) r e t (place_at xs i) (cell_at s xs i)) (λ k. state_towards (joining s) t (list_cells s xs n (given r (principal_at k) e)))
      (from_records (state_towards (joining s) t) s.unassign (towards_none (joining s) t (unassigned s) refl) r e)
      (to_records (state_towards (joining s) t) s.unassign (towards_none (joining s) t (unassigned s) refl) r e)

  set_in : (i : ℕ) → i < n → same s (cell_at s xs i).state s.unassign ≡ false
  set_in i lt =
      ⊎_elim
      (λ h. absurd (kept.assigned i lt (state_cell s s.unassign xs i (omega (arith, kept.within)) ∙ ((join_laws s law).told_apart (cell_at s xs i).state s.unassign).0 h)))
      (λ h. h)
      (cases_Bool (same s (cell_at s xs i).state s.unassign))

  pub used_told : (o : ℕ) (g e : Principal) → used_in (place_at xs) n o g e ≡ in_use (joining s) (list_cells s xs n) o g e
  unfolding used_in in_use
  used_told o g e =
      any_iff n 8 (λ i. is_of (place_at xs i) o g e) (λ k. assigned (joining s) (list_cells s xs n (place o g e (privilege_at k))).state)
      (λ i lt h.
      let w = of_parts (place_at xs i) o g e h in
      let k = bit (place_at xs i).privilege in
      any_some 8 k (λ q. assigned (joining s) (list_cells s xs n (place o g e (privilege_at q))).state) (bit_below (place_at xs i).privilege)
      (ap (λ (c : Cell S). assigned (joining s) c.state) (held_one s (place_at xs) (cell_at s xs) n kept.distinct i (place o g e (privilege_at k)) lt (place_eq (place_at xs i) (place o g e (privilege_at k)) w.0 w.1 w.2 (sym (at_bit (place_at xs i).privilege)))) ∙ not_from_false _ (set_in i lt)))
      (λ k lk h. ⊎_elim
      (λ w. any_some n w.0 (λ i. is_of (place_at xs i) o g e) w.1 (of_from (place_at xs w.0) o g e (ap (λ (b : Place). b.object) w.2) (ap (λ (b : Place). b.granter) w.2) (ap (λ (b : Place). b.grantee) w.2)))
      (λ none. absurd (both_ways _ (ap (λ (c : Cell S). assigned (joining s) c.state) (held_none s (place_at xs) (cell_at s xs) n (place o g e (privilege_at k)) none) ∙ unassigned_none (joining s) laws) h))
      (search_place (place_at xs) n (place o g e (privilege_at k))))

  pub pairs_told : (o : ℕ) → pairs_in (place_at xs) n o ≡ pairs (joining s) (list_cells s xs n) o
  unfolding pairs_in pairs
  pairs_told o = count_same 16384 (λ k. used_in (place_at xs) n o (principal_at (k / 128)) (principal_at (k % 128))) (λ k. in_use (joining s) (list_cells s xs n) o (principal_at (k / 128)) (principal_at (k % 128))) (λ k lt. used_told o (principal_at (k / 128)) (principal_at (k % 128)))

  -- out of range there is no record
  cells_outside : (p : Place) → place_in_range p ≡ false → list_cells s xs n p ≡ unassigned s
  cells_outside p out = held_none s (place_at xs) (cell_at s xs) n p (λ i lt e. both_ways (place_in_range p) out (ap place_in_range (sym e) ∙ kept.ranged i lt))

  cells_allowed : (p : Place) → Allowed s (list_cells s xs n p)
  cells_allowed p =
      ⊎_elim
      (λ w. subst (Allowed s) (sym (held_one s (place_at xs) (cell_at s xs) n kept.distinct w.0 p w.1 w.2)) (cell_allowed s law xs w.0))
      (λ none. subst (Allowed s) (sym (held_none s (place_at xs) (cell_at s xs) n p none)) (unassigned_allowed s law))
      (search_place (place_at xs) n p)

  -- a record that stands nowhere
  nothing : CellRecord S
  nothing = record_of nowhere (unassigned s)

  cell_of : (i : ℕ) → i < n → cell_at s xs i ≡ cell_of_record s (get_or xs i nothing)
  cell_of i lt = sym (part_read (cell_of_record s) (unassigned s) xs i nothing (omega (arith, kept.within)))

  -- what is read of a record's place and cell
  read_as : {A : Type 0} (f : Place → Cell S → A) (i : ℕ) → i < n → f (place_at xs i) (cell_at s xs i) ≡ f (get_or xs i nothing).place (cell_of_record s (get_or xs i nothing))
  read_as f i lt = ap (λ (a : Place). f a (cell_at s xs i)) (place_of xs nothing i (omega (arith, kept.within))) ∙ ap (f (get_or xs i nothing).place) (cell_of i lt)

  -- what the records that count answer
  pub tell_used : (o : ℕ) (g e : Principal) → list_any (λ r. is_of r.place o g e) (take n xs) ≡ in_use (joining s) (list_cells s xs n) o g e
  tell_used o g e = used_of_front xs nothing n o g e kept.within ∙ used_told o g e

  pub tell_pairs : (o : ℕ) → count_by (λ p. first_of (take n xs) o (p.0, p.1.place)) (enumerate_from 0 (take n xs)) ≡ pairs (joining s) (list_cells s xs n) o
  tell_pairs o = pairs_of_front xs nothing n o kept.within kept.ranged ∙ pairs_told o

  pub tell_option : (r : Right) (e : Principal) → list_any (λ x. option_by r e x.place (cell_of_record s x)) (take n xs) ≡ has_option (list_cells s xs n) r.object r.privilege e
  tell_option r e =
      any_front (λ x. option_by r e x.place (cell_of_record s x)) xs nothing (λ i. option_by r e (place_at xs i) (cell_at s xs i)) n kept.within (λ i lt. sym (read_as (option_by r e) i lt))
      ∙ option_is r e

  pub tell_strongest : (r : Right) (e : Principal) (t : Orientation) → fold (λ x y. join s (state_by (joining s) r e t y.place (cell_of_record s y)) x) s.unassign (take n xs) ≡ strongest (joining s) (list_cells s xs n) r.object r.privilege e t
  tell_strongest r e t =
      join_front (joining s) (λ y. state_by (joining s) r e t y.place (cell_of_record s y)) xs nothing (λ i. state_by (joining s) r e t (place_at xs i) (cell_at s xs i)) n kept.within (λ i lt. sym (read_as (state_by (joining s) r e t) i lt))
      ∙ strongest_is r e t

  pub list_sound : Sound s (list_cells s xs n)
  list_sound = record {
    allowed = cells_allowed;
    outside = cells_outside;
    room = λ o.
        ⊎_elim
        (λ ranged. omega (arith, kept.roomy o (ltb-true o 32 ranged), pairs_told o))
        (λ out. omega (arith, (answers_outside_lem s law (list_cells s xs n) cells_outside).no_pairs o out))
        (cases_Bool (object_in_range o));
  }

-- a new list
pub new_kept : {S : Type 0} (u : S) (xs : List (CellRecord S)) → Kept u xs 0
new_kept u xs = record {
  within = omega arith;
  ample = λ lt. absurd (omega arith);
  assigned = λ i lt. absurd (omega arith);
  ranged = λ i lt. absurd (omega arith);
  distinct = λ i j w. absurd (omega (arith, w.first));
  roomy = λ o lt. omega (arith, pairs_start (place_at xs) o);
}

pub new_ample : {S : Type 0} (s : States S) (law : Lawful s) (m : Bool) (u : S) → u ≡ s.unassign → (m && same s u s.unassign) ≡ m
new_ample s law m u e = ap (λ (b : Bool). m && b) (((join_laws s law).told_apart u s.unassign).1 e) ∙ and_true m
  where
    and_true : (b : Bool) → (b && true) ≡ b
    and_true true = refl
    and_true false = refl

pub new_empty : {S : Type 0} (s : States S) (xs : List (CellRecord S)) (b : Bool) → list_cells s xs (cond b 0 0) ≡ no_cells s
new_empty s xs b = fun_ext (λ p. ap (λ (n : ℕ). list_cells s xs n p) (either b) ∙ held_none s (place_at xs) (cell_at s xs) 0 p (λ i lt. absurd (omega arith)))
  where
    either : (b : Bool) → ◌≡◌ {A = ℕ} (cond b 0 0) 0
    either true = refl
    either false = refl
