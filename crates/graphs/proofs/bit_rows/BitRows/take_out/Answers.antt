use Rattle.std.proofs.Common.{ap, arith, length-set}
use Rattle.model.proofs.SoundGraphs.{count_without_link}
use Rattle.graphs.specs.Levels.{graph_of}
use Rattle.graphs.specs.Rows.{in_rows}
use Rattle.graphs.specs.Meanings.{rows_graph, rows_sound}
use Rattle.graphs.proofs.LevelTables.{cut_kept}
use Rattle.graphs.proofs.RowTables.{rows_taken_out}
use Rattle.graphs.proofs.bit_rows.BitRows.take_out.Goals as goal

pub overflow_sub-self : goal.overflow_sub-self
overflow_sub-self c =
    let s = c.args.self.now in
    omega (arith, s.kept.counted, count_without_link (rows_graph s) c.args.link.upper c.args.link.lower (rows_sound s) c.requires)

pub invariant_of-self : goal.invariant_of-self
invariant_of-self c =
    let s = c.args.self.now in
    let e = rows_taken_out s c.args.link.upper c.args.link.lower c.row_of.result c.without.result c.row.result c.requires c.row_of.ensures.row c.row.ensures c.without.ensures in
    record { wide = simp length-set s.wide; kept = cut_kept s.levels.of_roles (in_rows s.rows) s.len (rows_sound s) s.kept c.args.link.upper c.args.link.lower _ c.requires e }

pub returns : goal.returns
returns c =
    let s = c.args.self.now in
    ap (graph_of s.levels.of_roles) (rows_taken_out s c.args.link.upper c.args.link.lower c.row_of.result c.without.result c.row.result c.requires c.row_of.ensures.row c.row.ensures c.without.ensures)
