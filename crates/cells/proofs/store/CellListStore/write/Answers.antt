use Rattle.std.proofs.Common.{rules, ap, sym, ◌∙◌}
use Rattle.model.specs.Stores.{put}
use Rattle.model.proofs.Joins.{join_laws}
use Rattle.model.proofs.Outside.{allowed_unassigned}
use Rattle.cells.specs.Lists.{cells_of, counted}
use Rattle.cells.proofs.Counted.{counted_kept}
use Rattle.cells.proofs.Telling.{used_told, pairs_told}
use Rattle.cells.proofs.store.CellListStore.write.Goals as goal

pub returns-then-is_unassign-clause-cells : goal.returns-then-is_unassign-clause-cells
returns-then-is_unassign-clause-cells g c =
    let s = g.S.Scale.states in
    let law = g.met.S.Scale.lawful in
    let cell = c.args.cell.now in
    let gone = ((join_laws s law).told_apart cell.state s.unassign).0 (sym c.is_unassign.ensures ∙ c.if-is_unassign.true) in
    c.revoke.ensures.holds
    ∙ ap (put (cells_of s c.args.self.now) c.args.place) (sym (allowed_unassigned s law cell (c.is_allowed.ensures.decides.0 c.if-not-is_allowed.false) gone))

pub returns-clause-told : goal.returns-clause-told
returns-clause-told g c =
    let s = g.S.Scale.states in
    let t = c.args.self.now in
    let kept = counted_kept s t g.met.S.Scale.lawful in
    let p = c.args.place in
    search (rules, used_told s g.met.S.Scale.lawful t.memory.now (counted s t) kept p.object p.granter p.grantee, pairs_told s g.met.S.Scale.lawful t.memory.now (counted s t) kept p.object)
