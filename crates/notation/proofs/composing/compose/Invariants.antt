use Rattle.std.proofs.Common.{length, vec_items}
use Rattle.notation.proofs.ComposeLaws.{Going}
use Rattle.notation.proofs.Splitting.{parts}
use Rattle.notation.proofs.composing.compose.Given as goal

abbrev pub invariant-loop-before : goal.invariant-loop-before
invariant-loop-before l = Going l.bodies (parts l.text) (length l.yielded) (vec_items l.out)
