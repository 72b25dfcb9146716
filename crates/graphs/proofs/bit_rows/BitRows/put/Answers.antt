use Rattle.std.proofs.Common.{true, ap, length-set}
use Rattle.graphs.specs.Levels.{graph_of}
use Rattle.graphs.specs.Rows.{in_rows}
use Rattle.graphs.specs.Meanings.{rows_sound}
use Rattle.graphs.proofs.LevelTables.{link_kept}
use Rattle.graphs.proofs.RowTables.{rows_put}
use Rattle.graphs.proofs.bit_rows.BitRows.put.Goals as goal

pub invariant_of-self : goal.invariant_of-self
invariant_of-self c =
    let s = c.args.self.now in
    let e = rows_put s c.args.link.upper c.args.link.lower c.row_of.result c.with.result c.row.result c.requires c.row_of.ensures.row c.row.ensures c.with.ensures in
    record { wide = simp length-set s.wide; kept = link_kept s.levels.of_roles (in_rows s.rows) s.len (rows_sound s) s.kept true c.args.link.upper c.args.link.lower _ c.requires e }

pub returns : goal.returns
returns c =
    let s = c.args.self.now in
    ap (graph_of s.levels.of_roles) (rows_put s c.args.link.upper c.args.link.lower c.row_of.result c.with.result c.row.result c.requires c.row_of.ensures.row c.row.ensures c.with.ensures)
