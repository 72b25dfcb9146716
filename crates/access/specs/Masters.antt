-- What a directory means: the type and the owning user of each object that exists.
use Rattle.std.specs.Prelude.{◌≡◌, ℕ, Bool, cond, not, ◌&&◌, List, is_some, Some, None, Option, ◌==◌, nat_lt, slice_index_or, length}
use Rattle.model.specs.Principals.{object_in_range}
use Rattle.access.specs.declared.master.Master.{Master}

abbrev pub Masters : Type 0
Masters = ℕ → Option Master

-- a directory's entries, one for each object
pub record Table : Type 0 where
  pub entries : List (Option Master)
  pub sized : length entries ≡ 32

-- what a table of entries tells of each number
abbrev pub listed : List (Option Master) → Masters
listed entries = λ o. slice_index_or entries o None

-- no object exists
abbrev pub no_masters : Masters
no_masters = λ _. None

-- an object in range that does not exist takes a type and a user in range
abbrev pub takes_master : Masters → ℕ → Master → Bool
takes_master masters o m = object_in_range o && (nat_lt m.owner 64 && not (is_some (masters o)))

abbrev pub with_master : Masters → ℕ → Master → Masters
with_master masters o m = λ k. cond (o == k) (Some m) (masters k)

-- the user u owns the object o
pub record Owns (masters : Masters) (u o : ℕ) : Type 0 where
  pub master : Master
  pub stands : masters o ≡ Some master
  pub owner : master.owner ≡ u
