use Rattle.std.proofs.Common.{◌-◌, ◌<◌, length, get_or, refl, arith, length-set}
use Rattle.model.specs.Allowed.{unassigned}
use Rattle.model.specs.Stores.{Cells, put}
use Rattle.cells.specs.declared.record.CellRecord.{CellRecord}
use Rattle.cells.specs.Kept.{place_at, nowhere}
use Rattle.cells.specs.Listed.{cell_of_record}
use Rattle.cells.proofs.Records.{part_read}
use Rattle.cells.proofs.Changes.{strike_kept, strike_cells}
use Rattle.cells.proofs.Counted.{own_unassign, counted_in, becomes}
use Rattle.cells.proofs.list.CellList.strike.Goals as goal

pub overflow_sub-last : goal.overflow_sub-last
overflow_sub-last g c = omega (arith, (counted_in g.S.Scale.states c.args.self.now c.requires).0)

pub bounds-self-last : goal.bounds-self-last
bounds-self-last g c = omega (arith, (counted_in g.S.Scale.states c.args.self.now c.requires).0, c.args.self.now.kept.within)

pub rewrite-requires-clause-inside : goal.rewrite-requires-clause-inside
rewrite-requires-clause-inside g c = (counted_in g.S.Scale.states c.args.self.now c.requires).1

pub rewrite-requires-clause-kept : goal.rewrite-requires-clause-kept
rewrite-requires-clause-kept g c =
    let s = g.S.Scale.states in
    let t = c.args.self.now in
    let in- = counted_in s t c.requires in
    let last : CellRecord g.row.S.Denot = get_or t.memory.now (t.len - 1) c.index-self-last.result in
    let inside : t.len - 1 < length t.memory.now = omega (arith, in-.0, t.kept.within) in
    strike_kept s g.met.S.Scale.lawful t.unassign t.memory.now t.len t.kept c.args.i last in-.1 in-.0
    (part_read (λ r. r.place) nowhere t.memory.now (t.len - 1) c.index-self-last.result inside)
    (part_read (cell_of_record s) (unassigned s) t.memory.now (t.len - 1) c.index-self-last.result inside)

pub returns : goal.returns
returns g c =
    let s = g.S.Scale.states in
    let t = c.args.self.now in
    let in- = counted_in s t c.requires in
    let last : CellRecord g.row.S.Denot = get_or t.memory.now (t.len - 1) c.index-self-last.result in
    let inside : t.len - 1 < length t.memory.now = omega (arith, in-.0, t.kept.within) in
    let p = place_at t.memory.now c.args.i in
    becomes s t c.rewrite.new.self _ (t.len - 1) (λ (cells : Cells g.row.S.Denot). put cells p (unassigned s)) (own_unassign s t c.requires) c.rewrite.ensures.memory c.rewrite.ensures.count c.rewrite.ensures.unassign (simp length-set)
    (strike_cells s g.met.S.Scale.lawful t.unassign t.memory.now t.len t.kept c.args.i last in-.1 in-.0
    (part_read (λ r. r.place) nowhere t.memory.now (t.len - 1) c.index-self-last.result inside)
    (part_read (cell_of_record s) (unassigned s) t.memory.now (t.len - 1) c.index-self-last.result inside)
    p refl)
