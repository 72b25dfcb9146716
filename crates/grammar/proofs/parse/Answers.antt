use Rattle.std.proofs.Common.{refl}
use Rattle.std.proofs.lemmas.Result.{err_from_is_err_and}
use Rattle.grammar.proofs.Bodies.{whole_body, no_command}
use Rattle.grammar.proofs.parse.Goals as goal

pub returns-in_err-command : goal.returns-in_err-command
returns-in_err-command c = let p = err_from_is_err_and c.from_residual.result c.from_residual.ensures.1 in rw (p.1, p.2) (no_command c.args.body.now _ c.in_err-command.ensures)

pub returns : goal.returns
returns c = whole_body _ _ _ _ refl c.in_ok-command.ensures c.form.ensures
