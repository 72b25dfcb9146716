use Rattle.std.proofs.Common.{ap, ◌∙◌, length-set}
use Rattle.model.specs.Stores.{Cells, put}
use Rattle.cells.specs.Listed.{list_cells, record_of}
use Rattle.cells.proofs.Records.{read_back}
use Rattle.cells.proofs.Changes.{replace_kept, replace_cells}
use Rattle.cells.proofs.Counted.{counted_in, of_scale, becomes}
use Rattle.cells.proofs.list.CellList.replace.Goals as goal

pub rewrite-requires-clause-inside : goal.rewrite-requires-clause-inside
rewrite-requires-clause-inside g c = (counted_in g.S.Scale.states c.args.self.now c.requires.own.counts).1

pub rewrite-requires-clause-kept : goal.rewrite-requires-clause-kept
rewrite-requires-clause-kept g c =
    let s = g.S.Scale.states in
    let t = c.args.self.now in
    let at = c.requires.own in
    let can = c.requires.holdable in
    let in- = counted_in s t at.counts in
    rw c.new-slot.ensures
    (replace_kept s g.met.S.Scale.lawful t.unassign t.memory.now t.len t.kept c.args.i (record_of c.args.place c.args.cell.now) in-.1 (λ h. can.assigned (h ∙ of_scale s t g.met.S.Scale.lawful can.unassign)) in-.0 at.own)

pub returns : goal.returns
returns g c =
    let s = g.S.Scale.states in
    let law = g.met.S.Scale.lawful in
    let t = c.args.self.now in
    let p = c.args.place in
    let at = c.requires.own in
    let can = c.requires.holdable in
    let in- = counted_in s t at.counts in
    becomes s t c.rewrite.new.self _ t.len (λ (cells : Cells g.row.S.Denot). put cells p c.args.cell.now) can.unassign c.rewrite.ensures.memory c.rewrite.ensures.count c.rewrite.ensures.unassign (simp length-set)
    (rw c.new-slot.ensures
    (replace_cells s law t.unassign t.memory.now t.len t.kept c.args.i (record_of p c.args.cell.now) in-.1 (λ h. can.assigned (h ∙ of_scale s t law can.unassign)) in-.0 at.own
    ∙ ap (put (list_cells s t.memory.now t.len) p) (read_back s law p c.args.cell.now can.allowed)))
