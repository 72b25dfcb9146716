use Rattle.std.proofs.Common.{sym}
use Rattle.std.proofs.lemmas.Bool.{or_left}
use Rattle.cells.specs.Kept.{place_at, used_in}
use Rattle.cells.specs.Lists.{counted}
use Rattle.cells.proofs.PairCounts.{used_at}
use Rattle.cells.proofs.list.CellList.assign.Goals as goal

pub returns-in-Some-clause-told : goal.returns-in-Some-clause-told
returns-in-Some-clause-told g c =
    let t = c.args.self.now in
    let n = counted g.S.Scale.states t in
    let p = c.args.place in
    let at = c.in-Some.ensures in
    sym (or_left (used_in (place_at t.memory.now) n p.object p.granter p.grantee) _ (used_at (place_at t.memory.now) n c.in-Some.i p at.counts at.own))
