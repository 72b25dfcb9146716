use Rattle.std.proofs.Common.{refl, subst}
use Rattle.words.specs.Words.{WordAt}
use Rattle.wording.proofs.Turns.{start, turn}
use Rattle.wording.proofs.ranges.ranges.Goals as goal

pub loop-token-init : goal.loop-token-init
loop-token-init c = rw c.into_iter-token-iterator.ensures.into_iter_gives (start _, refl)

pub loop-token-preserved : goal.loop-token-preserved
loop-token-preserved c =
    let (sofar, body) = c.loop-token.invariant in
    let (word, moved) = c.in-Some.ensures.steps in
    rw moved (turn _ _ c.in-Some.token sofar (subst (λ bs. WordAt bs c.loop-token.token-iterator.at c.in-Some.token) body word) c.if-is_large.ensures, body)
