-- Reading and setting a record of the list.
use Rattle.std.proofs.Common.{◌≡◌, ℕ, zero, suc, ◌<◌, List, [], ◌∷◌, length, get_or, set, refl, arith, rules}
use Rattle.model.specs.States.{States, Lawful}
use Rattle.model.specs.Allowed.{Allowed}
use Rattle.model.specs.declared.cell.Cell.{Cell}
use Rattle.model.specs.declared.place.Place.{Place}
use Rattle.cells.specs.declared.record.CellRecord.{CellRecord}
use Rattle.cells.specs.Kept.{part_at, state_at}
use Rattle.cells.specs.Listed.{cell_of_record, record_of, cell_at}

module _ {S A : Type 0} (f : CellRecord S → A) (z : A) where
  pub part_read : (xs : List (CellRecord S)) (i : ℕ) (d : CellRecord S) → i < length xs → f (get_or xs i d) ≡ part_at f z xs i
  part_read [] i d lt = absurd (omega arith)
  part_read (y ∷ ys) zero d lt = refl
  part_read (y ∷ ys) (suc i) d lt = part_read ys i d (omega arith)

  pub part_same : (xs : List (CellRecord S)) (i : ℕ) (r : CellRecord S) → i < length xs → part_at f z (set xs i r) i ≡ f r
  part_same [] i r lt = absurd (omega arith)
  part_same (y ∷ ys) zero r lt = refl
  part_same (y ∷ ys) (suc i) r lt = part_same ys i r (omega arith)

  pub part_other : (xs : List (CellRecord S)) (i : ℕ) (r : CellRecord S) (j : ℕ) → (j ≡ i → ⊥) → part_at f z (set xs i r) j ≡ part_at f z xs j
  part_other [] i r j ne = refl
  part_other (y ∷ ys) zero r zero ne = absurd (ne refl)
  part_other (y ∷ ys) zero r (suc j) ne = refl
  part_other (y ∷ ys) (suc i) r zero ne = refl
  part_other (y ∷ ys) (suc i) r (suc j) ne = part_other ys i r j (λ h. ne (omega arith))

-- a record's state, read in two ways
pub state_cell : {S : Type 0} (s : States S) (u : S) (xs : List (CellRecord S)) (i : ℕ) → i < length xs → state_at u xs i ≡ (cell_at s xs i).state
state_cell s u [] i lt = absurd (omega arith)
state_cell s u (y ∷ ys) zero lt = refl
state_cell s u (y ∷ ys) (suc i) lt = state_cell s u ys i (omega arith)

-- a record holds an allowed cell, and every allowed cell is read back
pub record_allowed : {S : Type 0} (s : States S) → Lawful s → (r : CellRecord S) → Allowed s (cell_of_record s r)
record_allowed s law r = search rules

pub read_back : {S : Type 0} (s : States S) → Lawful s → (p : Place) (c : Cell S) → Allowed s c → cell_of_record s (record_of p c) ≡ c
read_back s law p c fine = search rules
