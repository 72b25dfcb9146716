use Rattle.access.proofs.StrongestOf.{strongest_of_both}
use Rattle.access.proofs.access.Access.apart_from_roles.Goals as goal

pub returns-in-User : goal.returns-in-User
returns-in-User g c = rw c.in-User.is (strongest_of_both _ g.met.S.Scale.lawful _ _ _ _ _ c.own-assigned.ensures c.as_owner.ensures c.join.ensures.stronger)
