use Rattle.access.proofs.StrongestOf.{strongest_of_both}
use Rattle.access.proofs.access.Access.inherited.Goals as goal

pub returns : goal.returns
returns g c = strongest_of_both _ g.met.S.Scale.lawful _ _ _ _ _ c.carried-up.ensures c.carried-down.ensures c.join.ensures.stronger
