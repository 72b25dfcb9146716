-- The cells of the whole table.
use Rattle.std.specs.Prelude.{ℕ, zero, suc, List, [], ◌∷◌}
use Rattle.scales.specs.declared.five.FiveState.{FiveState}
use Rattle.scales.specs.Five.{five}
use Rattle.model.specs.Stores.{Cells}
use Rattle.bitmap.specs.declared.row.Row.{Row}
use Rattle.bitmap.specs.declared.object_items.ObjectItems.{ObjectItems}
use Rattle.bitmap.specs.Items.{Items, numbered, by_number}
use Rattle.bitmap.specs.Tables.{items_of}

-- the rows of object o
abbrev pub rows_of : List ObjectItems → ℕ → List Row
rows_of [] o = []
rows_of (x ∷ xs) zero = x.rows
rows_of (x ∷ xs) (suc o) = rows_of xs o

abbrev pub items_at : List ObjectItems → ℕ → Items FiveState
items_at xs o = items_of (rows_of xs o)

abbrev pub table_cells : List ObjectItems → Cells FiveState
table_cells xs = by_number (numbered five (items_at xs))
