use Rattle.graphs.proofs.SingleBits.{bit_at-or}
use Rattle.graphs.proofs.role_set.RoleSet.union.Goals as goal

pub returns : goal.returns
returns c j = rw (← c.self.view_is, ← c.other.view_is) (bit_at-or c.self.inside.bits c.other.inside.bits j)
