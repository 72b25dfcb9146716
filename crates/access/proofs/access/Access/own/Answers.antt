use Rattle.access.proofs.ReadCells.{in_any_orientation}
use Rattle.access.proofs.access.Access.own.Goals as goal

pub returns : goal.returns
returns g c =
    in_any_orientation _ g.met.S.Scale.lawful _ _ _ _ _ _ _ _ _ c.towards-up.ensures c.towards-down.ensures c.towards-neutral.ensures c.join.ensures.stronger c.join-2.ensures.stronger
