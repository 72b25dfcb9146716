use Rattle.words.proofs.Cuts.{past, step}
use Rattle.words.proofs.word_at.Goals as goal

pub returns-in_err-rest : goal.returns-in_err-rest
returns-in_err-rest c = rw c.from_residual.ensures (past _ _ c.in_err-rest.ensures)

pub returns : goal.returns
returns c = let k = c.in_ok-rest.ensures in step _ _ _ c.in_ok-rest.rest.now _ k.0 k.1 (rw (← c.space.ensures) c.unwrap_or-n.ensures) c.classify.ensures
