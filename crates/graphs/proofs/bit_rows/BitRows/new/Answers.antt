use Rattle.std.proofs.Common.{length, ap, ◌∙◌}
use Rattle.graphs.specs.Rows.{in_rows}
use Rattle.graphs.proofs.NewGraphs.{no_rows, none_kept, new_means}
use Rattle.graphs.proofs.bit_rows.BitRows.new.Goals as goal

pub invariant_of-result : goal.invariant_of-result
invariant_of-result c = record { wide = ap length c.no_links.ensures; kept = none_kept _ _ (ap in_rows c.no_links.ensures ∙ no_rows 128) }

pub returns : goal.returns
returns c = new_means c.new.result.of_roles _ c.new.ensures (ap in_rows c.no_links.ensures ∙ no_rows 128)
