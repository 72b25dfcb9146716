use Rattle.std.proofs.Common.{rules, ltb-true}
use Rattle.model.specs.Graphs.{Above}
use Rattle.access.specs.RoleByRole.{ActsAs}
use Rattle.access.proofs.OverRange.{any_decides}
use Rattle.access.proofs.access.Access.is_under.Goals as goal

pub returns : goal.returns
returns g c =
    let graph = g.G.Graph.meaning c.args.self.now.graph.now in
    let decides = any_decides c.roles.result _ _ _ (λ k. ActsAs graph c.args.principal k × Above graph c.args.role k) c.roles.ensures (λ k h. ltb-true k 64 h.1.reaches.to) c.any.ensures.ran (λ x b q h. (search rules, search rules)) in (
      (λ e. let w = decides.0 e in record { role = w.0; acts = w.1.0; above = w.1.1 }),
      (λ under. decides.1 (under.role, (under.acts, under.above))),
    )
