use Rattle.cells.specs.Lists.{counted}
use Rattle.cells.proofs.Counted.{counted_kept}
use Rattle.cells.proofs.Telling.{tell_used}
use Rattle.cells.proofs.store.CellListStore.is_pair_in_use.Goals as goal

pub returns : goal.returns
returns g c =
    let s = g.S.Scale.states in
    let t = c.args.self.now in
    let kept = counted_kept s t g.met.S.Scale.lawful in
    cc (tell_used s g.met.S.Scale.lawful t.memory.now (counted s t) kept c.args.object c.args.granter c.args.grantee)
