use Rattle.std.proofs.Common.{◌≡◌}
use Rattle.wording.proofs.Turns.{Sofar}
use Rattle.wording.proofs.ranges.ranges.Given as goal

abbrev pub invariant-loop-token : goal.invariant-loop-token
invariant-loop-token l = Sofar l.body l.token-iterator.at × (l.token-iterator.body.now ≡ l.body)
