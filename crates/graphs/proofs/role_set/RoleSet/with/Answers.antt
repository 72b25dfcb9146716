use Rattle.graphs.proofs.SingleBits.{bit_at-with}
use Rattle.graphs.proofs.role_set.RoleSet.with.Goals as goal

pub returns : goal.returns
returns c j = rw (← c.self.view_is) (bit_at-with c.self.inside.bits c.args.role j c.requires)
