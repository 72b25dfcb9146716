use Rattle.access.proofs.ReadCells.{told_option}
use Rattle.access.proofs.access.Access.is_optioned.Goals as goal

pub returns : goal.returns
returns g c = told_option _ _ c.sound.ensures _ _ _ _ c.has_option.ensures
