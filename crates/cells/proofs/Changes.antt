-- A record that is written over, added at the end, or struck out.
use Rattle.std.proofs.Common.{◌≡◌, ℕ, ◌+◌, ◌-◌, ◌<◌, ◌≤◌, true, false, cond, not, eqb, ltb, Bool, ◌||◌, List, length, set, sym, refl, ap, ◌∙◌, subst, ⊎_elim, add-one, arith, length-set}
use Rattle.std.proofs.lemmas.Bool.{cases_eq, cases_Bool, eqb-true, eq-eqb, ne_eqb, and_parts, cond-true, cond-false, not-true, both_ways, ltb-true}
use Rattle.model.specs.States.{States, Lawful}
use Rattle.model.specs.Allowed.{unassigned}
use Rattle.model.specs.Folds.{one_if}
use Rattle.model.specs.Places.{place_in_range}
use Rattle.model.specs.Stores.{put}
use Rattle.model.specs.declared.place.Place.{Place}
use Rattle.model.specs.declared.cell.Cell.{Cell}
use Rattle.model.proofs.Puts.{put_from}
use Rattle.cells.specs.declared.record.CellRecord.{CellRecord}
use Rattle.cells.specs.Kept.{place_at, state_at, nowhere, used_in, pairs_in, first_at, Assigned, Ranged, Distinct, Roomy, Kept}
use Rattle.cells.specs.Listed.{cell_of_record, cell_at, list_cells}
use Rattle.cells.proofs.Records.{part_same, part_other, state_cell}
use Rattle.cells.proofs.Found.{held_none, held_one, held_kept}
use Rattle.cells.proofs.PairCounts.{used_same, pairs_same, pairs_sub, pairs_step, range_parts}
use Rattle.cells.proofs.Room.{fits_all}

-- the places of n records, and those after record i is set to a
record Written (at at' : ℕ → Place) (n i : ℕ) (a : Place) : Type 0 where
  here : at' i ≡ a
  other : (j : ℕ) → (j ≡ i → ⊥) → at' j ≡ at j
  ok : Ranged at n
  single : Distinct at n
  room : Roomy at n

module _ {at at' : ℕ → Place} {n i : ℕ} {a : Place} (new : Written at at' n i a) where
  module _ (li : i < n) (was : at i ≡ a) where
    over_at : (j : ℕ) → at' j ≡ at j
    over_at j = ⊎_elim (λ e. ap at' e ∙ new.here ∙ sym was ∙ ap at (sym e)) (new.other j) (cases_eq j i)

    over_ranged : Ranged at' n
    over_ranged j lt = subst (λ (p : Place). place_in_range p ≡ true) (sym (over_at j)) (new.ok j lt)

    over_distinct : Distinct at' n
    over_distinct j k w = new.single j k (record { first = w.first; second = w.second; same = sym (over_at j) ∙ w.same ∙ over_at k })

    over_roomy : Roomy at' n
    over_roomy o lo = omega (arith, new.room o lo, pairs_same at' at n o (λ j _. over_at j))

  module _ (end : i ≡ n) (inside : place_in_range a ≡ true) (absent : (j : ℕ) → j < n → at j ≡ a → ⊥) (free : used_in at n a.object a.granter a.grantee ≡ false → pairs_in at n a.object < 16) where
    add_at : (j : ℕ) → j < n → at' j ≡ at j
    add_at j lt = new.other j (λ e. omega arith)

    add_here : at' n ≡ a
    add_here = ap at' (sym end) ∙ new.here

    add_ranged : Ranged at' (n + 1)
    add_ranged j lt = ⊎_elim (λ e. subst (λ (p : Place). place_in_range p ≡ true) (sym (ap at' e ∙ add_here)) inside) (λ ne. subst (λ (p : Place). place_in_range p ≡ true) (sym (add_at j (omega arith))) (new.ok j (omega arith))) (cases_eq j n)

    add_distinct : Distinct at' (n + 1)
    add_distinct j k w =
        let lj = w.first in
        let lk = w.second in
        ⊎_elim
        (λ ej. ⊎_elim
        (λ ek. ej ∙ sym ek)
        (λ nk. let l : k < n = omega arith in absurd (absent k l (sym (add_at k l) ∙ sym w.same ∙ ap at' ej ∙ add_here)))
        (cases_eq k n))
        (λ nj. let l : j < n = omega arith in ⊎_elim
        (λ ek. absurd (absent j l (sym (add_at j l) ∙ w.same ∙ ap at' ek ∙ add_here)))
        (λ nk. let m : k < n = omega arith in new.single j k (record { first = l; second = m; same = sym (add_at j l) ∙ w.same ∙ add_at k m }))
        (cases_eq k n))
        (cases_eq j n)

    add_roomy : Roomy at' (n + 1)
    add_roomy o lo =
        let inside' : place_in_range (at' n) ≡ true = subst (λ (p : Place). place_in_range p ≡ true) (sym add_here) inside in
        let parts = range_parts (at' n) inside' in
        let step = pairs_step at' n o parts.1 parts.2 in
        let move = ap (λ (m : ℕ). pairs_in at' m o) (add-one n) in
        let same = pairs_same at' at n o add_at in
        ⊎_elim
        (λ first.
        let both = and_parts (eqb (at' n).object o) (not (used_in at' n o (at' n).granter (at' n).grantee)) first in
        let is : a.object ≡ o = ap (λ (b : Place). b.object) (sym add_here) ∙ eqb-true (at' n).object o both.0 in
        let unused : used_in at n a.object a.granter a.grantee ≡ false =
        ap (λ (x : ℕ). used_in at n x a.granter a.grantee) is
        ∙ sym (used_same at' at n o a.granter a.grantee add_at)
        ∙ ap (λ (b : Place). used_in at' n o b.granter b.grantee) (sym add_here)
        ∙ not-true (used_in at' n o (at' n).granter (at' n).grantee) both.1 in
        let below : pairs_in at n a.object < 16 = free unused in
        let at_o : pairs_in at n a.object ≡ pairs_in at n o = ap (pairs_in at n) is in
        let one : one_if (first_at at' o n) ≡ 1 = ap one_if first in
        omega arith)
        (λ rest. let none : one_if (first_at at' o n) ≡ 0 = ap one_if rest in omega (arith, new.room o lo))
        (cases_Bool (first_at at' o n))

-- the places after record i is set to the last one, which no longer counts
module _ {at at' : ℕ → Place} {n i : ℕ} (li : i < n) (new : Written at at' n i (at (n - 1))) where
  strike_from : (k : ℕ) → k < n - 1 → (j : ℕ) × (j < n) × (at' k ≡ at j) × (j ≡ i → ⊥)
  strike_from k lt =
      ⊎_elim
      (λ e. (n - 1, omega arith, ap at' e ∙ new.here, λ f. omega arith))
      (λ ne. (k, omega arith, new.other k ne, ne))
      (cases_eq k i)

  strike_ranged : Ranged at' (n - 1)
  strike_ranged k lt = let w = strike_from k lt in subst (λ (p : Place). place_in_range p ≡ true) (sym w.2) (new.ok w.0 w.1)

  strike_distinct : Distinct at' (n - 1)
  strike_distinct j k w =
      let lj = w.first in
      let lk = w.second in
      let last : n - 1 < n = omega arith in
      ⊎_elim
      (λ ej. ⊎_elim
      (λ ek. ej ∙ sym ek)
      (λ nk. let m : k < n = omega arith in let f = new.single k (n - 1) (record { first = m; second = last; same = sym (new.other k nk) ∙ sym w.same ∙ ap at' ej ∙ new.here }) in absurd (omega arith))
      (cases_eq k i))
      (λ nj. let l : j < n = omega arith in ⊎_elim
      (λ ek. let f = new.single j (n - 1) (record { first = l; second = last; same = sym (new.other j nj) ∙ w.same ∙ ap at' ek ∙ new.here }) in absurd (omega arith))
      (λ nk. let m : k < n = omega arith in new.single j k (record { first = l; second = m; same = sym (new.other j nj) ∙ w.same ∙ new.other k nk }))
      (cases_eq k i))
      (cases_eq j i)

  strike_roomy : Roomy at' (n - 1)
  strike_roomy o lo = omega (arith, new.room o lo, pairs_sub at' at (n - 1) n o (λ k lk. let w = strike_from k lk in (w.0, w.1, w.2)))

-- a write that is allowed finds a slot
pub add_fits : (at : ℕ → Place) (n : ℕ) (a : Place) → Ranged at n → Distinct at n → Roomy at n → place_in_range a ≡ true → ((j : ℕ) → j < n → at j ≡ a → ⊥) → (used_in at n a.object a.granter a.grantee ≡ false → pairs_in at n a.object < 16) → n + 1 ≤ 4096
add_fits at n a ok single room inside absent free =
    let at' : ℕ → Place = λ j. cond (eqb j n) a (at j) in
    let here : at' n ≡ a = cond-true (eqb n n) a (at n) (eq-eqb n n refl) in
    let other : (j : ℕ) → (j ≡ n → ⊥) → at' j ≡ at j = λ j ne. cond-false (eqb j n) a (at j) (ne_eqb j n ne) in
    let m : Written at at' n n a = record { here = here; other = other; ok = ok; single = single; room = room } in
    fits_all at' (n + 1) (add_ranged m refl inside absent free) (add_distinct m refl inside absent free) (add_roomy m refl inside absent free)

module _ {S : Type 0} (s : States S) (law : Lawful s) (u : S) (xs : List (CellRecord S)) (n : ℕ) (old : Kept u xs n) (i : ℕ) (r : CellRecord S) (li : i < length xs) where
  new_at : place_at (set xs i r) i ≡ r.place
  new_at = part_same (λ x. x.place) nowhere xs i r li

  rest_at : (j : ℕ) → (j ≡ i → ⊥) → place_at (set xs i r) j ≡ place_at xs j
  rest_at j ne = part_other (λ x. x.place) nowhere xs i r j ne

  moved : Written (place_at xs) (place_at (set xs i r)) n i r.place
  moved = record { here = new_at; other = rest_at; ok = old.ranged; single = old.distinct; room = old.roomy }

  new_cell : cell_at s (set xs i r) i ≡ cell_of_record s r
  new_cell = part_same (cell_of_record s) (unassigned s) xs i r li

  rest_cell : (j : ℕ) → (j ≡ i → ⊥) → cell_at s (set xs i r) j ≡ cell_at s xs j
  rest_cell j ne = part_other (cell_of_record s) (unassigned s) xs i r j ne

  assigned_set : (m : ℕ) → (r.state ≡ u → ⊥) → ((j : ℕ) → j < m → (j ≡ i → ⊥) → j < n) → Assigned u (state_at u (set xs i r)) m
  assigned_set m new below j lt h =
      ⊎_elim
      (λ f. new (sym (ap (state_at u (set xs i r)) f ∙ part_same (λ x. x.state) u xs i r li) ∙ h))
      (λ ne. old.assigned j (below j lt ne) (sym (part_other (λ x. x.state) u xs i r j ne) ∙ h))
      (cases_eq j i)

  same_length : length (set xs i r) ≡ length xs
  same_length = simp length-set

  module _ (new : r.state ≡ u → ⊥) where
    module _ (ln : i < n) (was : place_at xs i ≡ r.place) where
      pub replace_kept : Kept u (set xs i r) n
      replace_kept = record {
        within = omega (arith, old.within, same_length);
        ample = λ lt. omega (arith, old.ample lt, same_length);
        assigned = assigned_set n new (λ j lt _. lt);
        ranged = over_ranged moved ln was;
        distinct = over_distinct moved ln was;
        roomy = over_roomy moved ln was;
      }

      pub replace_cells : list_cells s (set xs i r) n ≡ put (list_cells s xs n) r.place (cell_of_record s r)
      replace_cells =
          put_from (list_cells s xs n) (list_cells s (set xs i r) n) r.place (cell_of_record s r)
          (held_one s (place_at (set xs i r)) (cell_at s (set xs i r)) n replace_kept.distinct i r.place ln new_at ∙ new_cell)
          (λ q else-.
          let every = over_at moved ln was in
          held_kept s (place_at xs) (place_at (set xs i r)) (cell_at s xs) (cell_at s (set xs i r)) n n old.distinct replace_kept.distinct q
          (λ j lj h. (j, lj, every j ∙ h, rest_cell j (λ e. else- (sym h ∙ ap (place_at xs) e ∙ was))))
          (λ k lk h. (k, lk, sym (every k) ∙ h)))

    module _ (full : 4096 ≤ length xs) (end : i ≡ n) (inside : place_in_range r.place ≡ true) (absent : (j : ℕ) → j < n → place_at xs j ≡ r.place → ⊥) (free : used_in (place_at xs) n r.place.object r.place.granter r.place.grantee ≡ false → pairs_in (place_at xs) n r.place.object < 16) where
      pub add_kept : Kept u (set xs i r) (n + 1)
      add_kept = record {
        within = omega (arith, same_length);
        ample = λ lt. omega (arith, same_length);
        assigned = assigned_set (n + 1) new (λ j lt ne. let ne' : j ≡ n → ⊥ = λ f. ne (f ∙ sym end) in omega arith);
        ranged = add_ranged moved end inside absent free;
        distinct = add_distinct moved end inside absent free;
        roomy = add_roomy moved end inside absent free;
      }

      pub add_cells : list_cells s (set xs i r) (n + 1) ≡ put (list_cells s xs n) r.place (cell_of_record s r)
      add_cells =
          put_from (list_cells s xs n) (list_cells s (set xs i r) (n + 1)) r.place (cell_of_record s r)
          (held_one s (place_at (set xs i r)) (cell_at s (set xs i r)) (n + 1) add_kept.distinct i r.place (omega arith) new_at ∙ new_cell)
          (λ q else-.
          held_kept s (place_at xs) (place_at (set xs i r)) (cell_at s xs) (cell_at s (set xs i r)) n (n + 1) old.distinct add_kept.distinct q
          (λ j lj h. let ne : j ≡ i → ⊥ = λ e. omega arith in (j, omega arith, rest_at j ne ∙ h, rest_cell j ne))
          (λ k lk h. let ne : k ≡ i → ⊥ = λ e. else- (sym h ∙ ap (place_at (set xs i r)) e ∙ new_at) in (k, (let ne' : k ≡ n → ⊥ = λ e. ne (e ∙ sym end) in omega arith), sym (rest_at k ne) ∙ h)))

  module _ (ln : i < n) (last : r.place ≡ place_at xs (n - 1)) (last_cell : cell_of_record s r ≡ cell_at s xs (n - 1)) where
    strike_here : place_at (set xs i r) i ≡ place_at xs (n - 1)
    strike_here = new_at ∙ last

    struck : Written (place_at xs) (place_at (set xs i r)) n i (place_at xs (n - 1))
    struck = record { here = strike_here; other = rest_at; ok = old.ranged; single = old.distinct; room = old.roomy }

    within_last : n - 1 < length xs
    within_last = omega (arith, old.within)

    from : (k : ℕ) → k < n - 1 → (j : ℕ) × (j < n) × (place_at (set xs i r) k ≡ place_at xs j) × (j ≡ i → ⊥)
    from = strike_from ln struck

    pub strike_kept : Kept u (set xs i r) (n - 1)
    strike_kept = record {
      within = omega (arith, old.within, same_length);
      ample = λ lt. omega (arith, old.ample (omega arith), same_length);
      assigned = assigned_set (n - 1) (λ h. old.assigned (n - 1) (omega arith) (state_cell s u xs (n - 1) within_last ∙ ap (λ (c : Cell S). c.state) (sym last_cell) ∙ h)) (λ j lt _. omega arith);
      ranged = strike_ranged ln struck;
      distinct = strike_distinct ln struck;
      roomy = strike_roomy ln struck;
    }

    pub strike_cells : (a : Place) → place_at xs i ≡ a → list_cells s (set xs i r) (n - 1) ≡ put (list_cells s xs n) a (unassigned s)
    strike_cells a was =
        put_from (list_cells s xs n) (list_cells s (set xs i r) (n - 1)) a (unassigned s)
        (held_none s (place_at (set xs i r)) (cell_at s (set xs i r)) (n - 1) a
        (λ k lk h. let w = from k lk in w.3 (old.distinct w.0 i (record { first = w.1; second = ln; same = sym w.2 ∙ h ∙ sym was }))))
        (λ q else-.
        held_kept s (place_at xs) (place_at (set xs i r)) (cell_at s xs) (cell_at s (set xs i r)) n (n - 1) old.distinct strike_kept.distinct q
        (λ j lj h.
        let ne : j ≡ i → ⊥ = λ e. else- (sym h ∙ ap (place_at xs) e ∙ was) in
        ⊎_elim
        (λ e. let ni : i ≡ n - 1 → ⊥ = λ f. ne (e ∙ sym f) in (i, omega arith, strike_here ∙ ap (place_at xs) (sym e) ∙ h, new_cell ∙ last_cell ∙ ap (cell_at s xs) (sym e)))
        (λ nj. (j, omega arith, rest_at j ne ∙ h, rest_cell j ne))
        (cases_eq j (n - 1)))
        (λ k lk h. let w = from k lk in (w.0, w.1, sym w.2 ∙ h)))

-- a pair that is not in use fits
pub room_free : (used : Bool) (pairs : ℕ) → (used || ltb pairs 16) ≡ true → used ≡ false → pairs < 16
room_free true pairs h e = absurd (both_ways true e refl)
room_free false pairs h e = ltb-true pairs 16 h
