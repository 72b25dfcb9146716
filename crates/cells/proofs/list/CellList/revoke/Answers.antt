use Rattle.std.proofs.Common.{refl}
use Rattle.model.specs.Allowed.{unassigned}
use Rattle.model.proofs.Puts.{put_idle}
use Rattle.cells.specs.Kept.{place_at}
use Rattle.cells.specs.Listed.{cell_at}
use Rattle.cells.specs.Lists.{cells_of, counted}
use Rattle.cells.proofs.Found.{held_none}
use Rattle.cells.proofs.list.CellList.revoke.Goals as goal

pub returns-in_default : goal.returns-in_default
returns-in_default g c =
    let s = g.S.Scale.states in
    let t = c.args.self.now in
    record {
      holds = put_idle (cells_of s t) c.args.place (unassigned s) (held_none s (place_at t.memory.now) (cell_at s t.memory.now) (counted s t) c.args.place c.in_default.ensures);
      memory = refl;
      unassign = refl;
    }
