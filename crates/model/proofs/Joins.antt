-- The laws of the join, from those of the order.
use Rattle.std.proofs.Common.{rules}
use Rattle.model.specs.States.{States, Lawful, join}
use Rattle.model.specs.Joining.{JoinLaws, joining, Stronger}

pub join_laws : {S : Type 0} (s : States S) → Lawful s → JoinLaws (joining s)
join_laws s l = search rules

pub join_stronger : {S : Type 0} (s : States S) → Lawful s → (x y : S) → Stronger s x y (join s x y)
join_stronger s l x y = search rules
