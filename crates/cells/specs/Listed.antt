-- What the records of a list hold.
use Rattle.std.specs.Prelude.{ℕ, zero, suc, Bool, true, false, cond, ◌&&◌, List, ◌==◌}
use Rattle.model.specs.States.{States, same}
use Rattle.model.specs.Joining.{Joining}
use Rattle.model.specs.Allowed.{unassigned}
use Rattle.model.specs.Privileges.{bit}
use Rattle.model.specs.Places.{same_place, same_principal}
use Rattle.model.specs.Stores.{Cells, state_towards}
use Rattle.model.specs.declared.principal.Principal.{Principal}
use Rattle.model.specs.declared.right.Right.{Right}
use Rattle.model.specs.declared.place.Place.{Place}
use Rattle.model.specs.declared.cell.Cell.{Cell}
use Rattle.model.specs.declared.cell.Orientation.{Orientation}
use Rattle.model.specs.declared.cell.Orientation.TheVariants.{Up, Down, Neutral}
use Rattle.cells.specs.declared.record.CellRecord.{CellRecord}
use Rattle.cells.specs.Kept.{part_at, place_at}

-- the cell of a record: allowed, whatever stands there
abbrev pub cell_of_record : {S : Type 0} → States S → CellRecord S → Cell S
cell_of_record s r = record {
  state = r.state;
  orientation = cond (s.travels_up r.state) Up (cond r.neutral Neutral Down);
  option = r.option && same s r.state s.granted;
}

abbrev pub is_neutral : Orientation → Bool
is_neutral Up = false
is_neutral Down = false
is_neutral Neutral = true

-- the record of a cell at a place
abbrev pub record_of : {S : Type 0} → Place → Cell S → CellRecord S
record_of p c = record { place = p; state = c.state; neutral = is_neutral c.orientation; option = c.option }

abbrev pub cell_at : {S : Type 0} → States S → List (CellRecord S) → ℕ → Cell S
cell_at s xs = part_at (cell_of_record s) (unassigned s) xs

-- what the first n records hold at a place
unfoldable pub held : {S : Type 0} → States S → (ℕ → Place) → (ℕ → Cell S) → ℕ → Cells S
held s at val zero p = unassigned s
held s at val (suc n) p = cond (same_place (at n) p) (val n) (held s at val n p)

-- the cells of a list's first n records
abbrev pub list_cells : {S : Type 0} → States S → List (CellRecord S) → ℕ → Cells S
list_cells s xs n = held s (place_at xs) (cell_at s xs) n

-- whether a place is of a right and a grantee
abbrev pub is_for : Place → Right → Principal → Bool
is_for a r e = a.object == r.object && (same_principal a.grantee e && bit a.privilege == bit r.privilege)

-- what a record gives a grantee: its option, and its state in an orientation
abbrev pub option_by : {S : Type 0} → Right → Principal → Place → Cell S → Bool
option_by r e a c = cond (is_for a r e) c.option false

abbrev pub state_by : {S : Type 0} → Joining S → Right → Principal → Orientation → Place → Cell S → S
state_by j r e t a c = cond (is_for a r e) (state_towards j t c) j.unassign
