use Rattle.std.proofs.Common.{rules, ap, ltb-true}
use Rattle.std.proofs.lemmas.Iterator.{first_from_Range}
use Rattle.access.specs.Giving.{Through}
use Rattle.access.proofs.OverRange.{first_below}
use Rattle.access.proofs.access.Access.lowest_role.Goals as goal

pub returns : goal.returns
returns g c =
    let gives = Through (g.G.Graph.meaning c.args.self.now.graph.now) (g.T.Store.cells c.args.self.now.store.now) c.args.user c.args.right.object c.args.right.privilege in
    first_below c.roles.result gives c.find.result (ap (λ s. s.start) c.roles.ensures) (ap (λ s. s.end) c.roles.ensures) (λ k through. ltb-true k 64 through.reaches.to)
    (first_from_Range _ _ _ _ gives (λ k. gives k → ⊥) c.find.ensures.ran (λ x q h. search rules) (λ x q h. (search rules, search rules)))
