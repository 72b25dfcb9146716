-- A list as one value: what it holds, and what a change leaves of it.
use Rattle.std.specs.Prelude.{◌≡◌, ◌≢◌, ℕ, ◌<◌, ◌≤◌, Bool, true, cond, ◌&&◌, ◌||◌, length, nat_le, nat_lt}
use Rattle.model.specs.States.{States, same}
use Rattle.model.specs.Allowed.{Allowed}
use Rattle.model.specs.Places.{place_in_range}
use Rattle.model.specs.Stores.{Cells}
use Rattle.model.specs.declared.place.Place.{Place}
use Rattle.model.specs.declared.cell.Cell.{Cell}
use Rattle.cells.specs.declared.list.CellList.{CellList}
use Rattle.cells.specs.Kept.{place_at, used_in, pairs_in}
use Rattle.cells.specs.Listed.{list_cells}

-- how many records count: none without the unassign of the scale, and, by `ample`, none without the full memory
abbrev pub counted : {S : Type 0} → States S → CellList S → ℕ
counted s t = cond (same s t.unassign s.unassign) t.len 0

-- the cells that a list holds
abbrev pub cells_of : {S : Type 0} → States S → CellList S → Cells S
cells_of s t = list_cells s t.memory.now (counted s t)

-- lent 4,096 records, and with the unassign of its scale
abbrev pub is_ample : {S : Type 0} → States S → CellList S → Bool
is_ample s t = nat_le 4096 (length t.memory.now) && same s t.unassign s.unassign

-- record i counts, and is the one of a place
pub record IsAt {S : Type 0} (s : States S) (t : CellList S) (p : Place) (i : ℕ) : Type 0 where
  pub counts : i < counted s t
  pub own : place_at t.memory.now i ≡ p

-- no record that counts is of a place
abbrev pub IsAbsent : {S : Type 0} → States S → CellList S → Place → Type 0
IsAbsent s t p = (i : ℕ) → i < counted s t → place_at t.memory.now i ≢ p

-- the pair of a place is in use, or another one fits
abbrev pub has_room : {S : Type 0} → States S → CellList S → Place → Bool
has_room s t p =
    used_in (place_at t.memory.now) (counted s t) p.object p.granter p.grantee
    || nat_lt (pairs_in (place_at t.memory.now) (counted s t) p.object) 16

-- a cell that a list can hold, if its pair has room: it is allowed and not unassign, and its place is in range
pub record IsHoldable {S : Type 0} (s : States S) (t : CellList S) (p : Place) (c : Cell S) : Type 0 where
  pub memory : 4096 ≤ length t.memory.now
  pub unassign : same s t.unassign s.unassign ≡ true
  pub inside : place_in_range p ≡ true
  pub assigned : c.state ≢ s.unassign
  pub allowed : Allowed s c

-- a list after a change holds these cells, in the same memory and with the same unassign
pub record Becomes {S : Type 0} (s : States S) (old new : CellList S) (cells : Cells S) : Type 0 where
  pub holds : cells_of s new ≡ cells
  pub memory : length new.memory.now ≡ length old.memory.now
  pub unassign : new.unassign ≡ old.unassign
