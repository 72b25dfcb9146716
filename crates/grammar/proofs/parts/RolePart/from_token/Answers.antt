use Rattle.model.specs.declared.principal.Principal.TheVariants.{Role}
use Rattle.grammar.proofs.parts.RolePart.from_token.Goals as goal

pub returns-in_err-role : goal.returns-in_err-role
returns-in_err-role c = rw c.from_residual.ensures (λ f. c.in_err-role.ensures (Role f.0, f.1, f.2))
