use Rattle.access.proofs.ReadCells.{told_towards}
use Rattle.access.proofs.access.Access.towards.Goals as goal

pub returns : goal.returns
returns g c = told_towards _ _ c.sound.ensures _ _ _ g.met.S.Scale.lawful _ _ c.strongest.ensures
