use Rattle.model.specs.declared.principal.Principal.TheVariants.{User}
use Rattle.grammar.proofs.parts.UserPart.from_token.Goals as goal

pub returns-in_err-user : goal.returns-in_err-user
returns-in_err-user c = rw c.from_residual.ensures (λ f. c.in_err-user.ensures (User f.0, f.1, f.2))
