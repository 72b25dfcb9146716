-- What a history holds at one moment.
use Rattle.std.specs.Prelude.{Bool}
use Rattle.model.specs.States.{States}
use Rattle.model.specs.Graphs.{RoleGraph, new_graph}
use Rattle.model.specs.Stores.{Cells, no_cells}
use Rattle.access.specs.Masters.{Masters, no_masters}

pub record World (S : Type 0) : Type 0 where
  -- store and graph have their full memory
  pub memory : Bool
  -- levels and links
  pub graph : RoleGraph
  -- the type and the owner of each object
  pub masters : Masters
  -- the cell of each object, granter, grantee and privilege
  pub cells : Cells S

-- no roles, links or objects, and unassign everywhere
abbrev pub new_world : {S : Type 0} → States S → Bool → World S
new_world st memory = record { memory = memory; graph = new_graph; masters = no_masters; cells = no_cells st }

abbrev pub with_graph : {S : Type 0} → World S → RoleGraph → World S
with_graph w g = record { memory = w.memory; graph = g; masters = w.masters; cells = w.cells }

abbrev pub with_masters : {S : Type 0} → World S → Masters → World S
with_masters w m = record { memory = w.memory; graph = w.graph; masters = m; cells = w.cells }

abbrev pub with_cells : {S : Type 0} → World S → Cells S → World S
with_cells w c = record { memory = w.memory; graph = w.graph; masters = w.masters; cells = c }
