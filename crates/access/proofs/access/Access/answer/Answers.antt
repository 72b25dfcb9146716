use Rattle.std.proofs.Common.{ℕ, rules, arith, ap}
use Rattle.std.proofs.lemmas.Grind.{common_steps}
use Rattle.access.specs.Masters.{listed}
use Rattle.access.specs.Reaching.{Reaching, Strongest, IsAnswer}
use Rattle.access.specs.RoleByRole.{SoFar}
use Rattle.access.proofs.OverRange.{fold_keeps}
use Rattle.access.proofs.StrongestOf.{strongest_only}
use Rattle.access.proofs.Acting.{so_far_more, so_far_all}
use Rattle.access.proofs.Travelling.{between_roles}
use Rattle.access.proofs.access.Access.answer.Goals as goal

pub returns : goal.returns
returns g c =
    let st = g.S.Scale.states in
    let law = g.met.S.Scale.lawful in
    let graph = g.G.Graph.meaning c.args.self.now.graph.now in
    let masters = listed c.args.self.now.directory.now.entries in
    let cells = g.T.Store.cells c.args.self.now.store.now in
    let object = c.args.right.object in
    let privilege = c.args.right.privilege in
    let principal = c.args.principal in
    let Best = λ (n : ℕ). Strongest st (SoFar st graph masters cells object privilege principal n) in
    let init : Best 0 c.apart_from_roles.result = grind (arith, common_steps) in
    let best : IsAnswer st graph masters cells object privilege principal c.fold.result =
    so_far_all graph (g.met.G.Graph.sound c.args.self.now.graph.now) st masters cells object privilege law principal _
    (fold_keeps Best _ (λ k a b f best call. (so_far_more st law graph masters cells object privilege principal k a b best (search rules), search rules)) _ _ _ c.fold.ensures.ran 0 64 (ap (λ s. s.start) c.roles.ensures) (ap (λ s. s.end) c.roles.ensures) (omega arith) init) in
    record {
      answer = best;
      only = λ s h. strongest_only st law (Reaching st graph masters cells object privilege principal) s _ h best;
      between = between_roles st law graph masters cells c.sound.ensures;
    }
