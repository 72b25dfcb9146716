use Rattle.graphs.proofs.SingleBits.{bit_at-without}
use Rattle.graphs.proofs.role_set.RoleSet.without.Goals as goal

pub returns : goal.returns
returns c j l = rw (← c.self.view_is) (bit_at-without c.self.inside.bits c.args.role j c.requires l)
