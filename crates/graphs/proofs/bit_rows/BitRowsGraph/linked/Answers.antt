use Rattle.std.proofs.Common.{◌&&◌, ltb, sym, ap, ◌∙◌}
use Rattle.model.specs.Principals.{in_range}
use Rattle.graphs.specs.Rows.{bit_at}
use Rattle.graphs.proofs.RowTables.{in_table, row_read}
use Rattle.graphs.proofs.bit_rows.BitRowsGraph.linked.Goals as goal

pub returns-then-is_in_range : goal.returns-then-is_in_range
returns-then-is_in_range c =
    let e = ap (λ x. in_range x.upper && ltb x.lower 64) c.new-link.ensures in
    let t = in_table c.args.upper c.args.lower (sym (c.if-is_in_range.ensures ∙ e)) in
    c.contains.ensures ∙ ap (λ x. bit_at x c.args.lower) c.row.ensures ∙ row_read c.args.self.now.rows c.args.upper c.args.lower t.0 t.1
