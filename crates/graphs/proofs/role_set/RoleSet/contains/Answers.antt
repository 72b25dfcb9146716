use Rattle.std.proofs.Common.{ap, eqb}
use Rattle.std.proofs.lemmas.Nat.Bits.{shr_and_one}
use Rattle.graphs.specs.Rows.{bit_at}
use Rattle.graphs.proofs.role_set.RoleSet.contains.Goals as goal

pub returns : goal.returns
unfolding bit_at
returns c = rw (← c.self.view_is) (ap (λ n. eqb n 1) (shr_and_one c.self.inside.bits c.args.role))
