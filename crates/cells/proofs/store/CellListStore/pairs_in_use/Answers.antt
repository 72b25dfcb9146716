use Rattle.std.proofs.Common.{List, count_by, ap, ◌∙◌}
use Rattle.std.specs.List.{enumerate_from}
use Rattle.cells.specs.declared.record.CellRecord.{CellRecord}
use Rattle.cells.specs.Kept.{first_of}
use Rattle.cells.specs.Lists.{counted}
use Rattle.cells.proofs.Counted.{counted_kept}
use Rattle.cells.proofs.Telling.{tell_pairs}
use Rattle.cells.proofs.store.CellListStore.pairs_in_use.Goals as goal

pub returns : goal.returns
returns g c =
    let s = g.S.Scale.states in
    let t = c.args.self.now in
    let kept = counted_kept s t g.met.S.Scale.lawful in
    c.count_pairs.ensures
    ∙ ap (λ (ys : List (CellRecord g.row.S.Denot)). count_by (λ q. first_of ys c.args.object (q.0, q.1.place)) (enumerate_from 0 ys)) c.records.ensures
    ∙ tell_pairs s g.met.S.Scale.lawful t.memory.now (counted s t) kept c.args.object
