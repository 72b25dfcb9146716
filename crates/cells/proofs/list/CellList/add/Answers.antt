use Rattle.std.proofs.Common.{◌+◌, ◌<◌, length, refl, ap, ◌∙◌, arith, length-set}
use Rattle.model.specs.Stores.{Cells, put}
use Rattle.cells.specs.Kept.{place_at}
use Rattle.cells.specs.Listed.{list_cells, record_of}
use Rattle.cells.proofs.Records.{read_back}
use Rattle.cells.proofs.Changes.{add_fits, add_kept, add_cells}
use Rattle.cells.proofs.Counted.{of_scale, absent_of, room_of, becomes}
use Rattle.cells.proofs.list.CellList.add.Goals as goal

pub rewrite-requires-clause-inside : goal.rewrite-requires-clause-inside
rewrite-requires-clause-inside g c =
    let s = g.S.Scale.states in
    let t = c.args.self.now in
    let p = c.args.place in
    let can = c.requires.holdable in
    omega (arith, can.memory, add_fits (place_at t.memory.now) t.len p t.kept.ranged t.kept.distinct t.kept.roomy can.inside (absent_of s t can.unassign c.requires.absent) (room_of s t can.unassign p c.requires.room))

pub rewrite-requires-clause-kept : goal.rewrite-requires-clause-kept
rewrite-requires-clause-kept g c =
    let s = g.S.Scale.states in
    let law = g.met.S.Scale.lawful in
    let t = c.args.self.now in
    let p = c.args.place in
    let can = c.requires.holdable in
    rw c.new-slot.ensures
    (add_kept s law t.unassign t.memory.now t.len t.kept t.len (record_of p c.args.cell.now) (rewrite-requires-clause-inside g c) (λ h. can.assigned (h ∙ of_scale s t law can.unassign)) can.memory refl can.inside (absent_of s t can.unassign c.requires.absent) (room_of s t can.unassign p c.requires.room))

pub returns : goal.returns
returns g c =
    let s = g.S.Scale.states in
    let law = g.met.S.Scale.lawful in
    let t = c.args.self.now in
    let p = c.args.place in
    let can = c.requires.holdable in
    let absent = absent_of s t can.unassign c.requires.absent in
    let room = room_of s t can.unassign p c.requires.room in
    let fits = add_fits (place_at t.memory.now) t.len p t.kept.ranged t.kept.distinct t.kept.roomy can.inside absent room in
    let inside : t.len < length t.memory.now = omega (arith, can.memory) in
    becomes s t c.rewrite.new.self _ (t.len + 1) (λ (cells : Cells g.row.S.Denot). put cells p c.args.cell.now) can.unassign c.rewrite.ensures.memory c.rewrite.ensures.count c.rewrite.ensures.unassign (simp length-set)
    (rw c.new-slot.ensures
    (add_cells s law t.unassign t.memory.now t.len t.kept t.len (record_of p c.args.cell.now) inside (λ h. can.assigned (h ∙ of_scale s t law can.unassign)) can.memory refl can.inside absent room
    ∙ ap (put (list_cells s t.memory.now t.len) p) (read_back s law p c.args.cell.now can.allowed)))
