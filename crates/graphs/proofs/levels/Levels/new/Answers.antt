use Rattle.std.proofs.Common.{length, ap}
use Rattle.graphs.proofs.NewGraphs.{no_levels, none_low}
use Rattle.graphs.proofs.levels.Levels.new.Goals as goal

pub invariant_of-result : goal.invariant_of-result
invariant_of-result c = record { sized = ap length c.no_levels.ensures; low = none_low c.no_levels.result c.no_levels.ensures }

pub returns : goal.returns
returns c = no_levels c.no_levels.result c.no_levels.ensures
