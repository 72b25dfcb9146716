use Rattle.std.proofs.Common.{false, refl, inl, rules}
use Rattle.std.proofs.lemmas.Bool.{both_ways}
use Rattle.access.specs.Masters.{listed}
use Rattle.access.proofs.OneGranter.{one_granter, lowest_gives}
use Rattle.access.proofs.access.Access.granter.Goals as goal

pub returns-then-gives_as_itself-clause-only : goal.returns-then-gives_as_itself-clause-only
returns-then-gives_as_itself-clause-only g c =
    let graph = g.G.Graph.meaning c.args.self.now.graph.now in
    let masters = listed c.args.self.now.directory.now.entries in
    let cells = g.T.Store.cells c.args.self.now.store.now in
    λ q h. one_granter graph masters cells c.args.user c.args.right.object c.args.right.privilege q _ h (inl (c.if-gives_as_itself.ensures.0 refl, refl))

pub returns : goal.returns
returns g c =
    let graph = g.G.Graph.meaning c.args.self.now.graph.now in
    let masters = listed c.args.self.now.directory.now.entries in
    let cells = g.T.Store.cells c.args.self.now.store.now in
    let gives = lowest_gives graph masters cells c.args.user c.args.right.object c.args.right.privilege c.lowest_role.result (λ own. both_ways false refl (c.if-gives_as_itself.ensures.1 own)) c.lowest_role.ensures c.map.result (search rules) in
    record { answer = gives; only = λ q h. one_granter graph masters cells c.args.user c.args.right.object c.args.right.privilege q _ h gives }
