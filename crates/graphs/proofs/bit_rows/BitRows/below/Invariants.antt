use Rattle.graphs.proofs.LevelByLevel.{Found}
use Rattle.graphs.proofs.bit_rows.BitRows.below.Given as goal

abbrev pub invariant-loop-level : goal.invariant-loop-level
invariant-loop-level l = Found l.self.levels.of_roles l.self.rows l.initial.set l.set l.level
