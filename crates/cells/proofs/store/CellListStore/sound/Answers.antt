use Rattle.cells.specs.Lists.{counted}
use Rattle.cells.proofs.Counted.{counted_kept}
use Rattle.cells.proofs.Telling.{list_sound}
use Rattle.cells.proofs.store.CellListStore.sound.Goals as goal

pub returns : goal.returns
returns g c =
    let s = g.S.Scale.states in
    let t = c.args.self.now in
    let kept = counted_kept s t g.met.S.Scale.lawful in
    list_sound s g.met.S.Scale.lawful t.memory.now (counted s t) kept
