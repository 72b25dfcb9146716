use Rattle.std.proofs.Common.{sym, ◌∙◌}
use Rattle.std.proofs.lemmas.Bool.{le-leb}
use Rattle.graph_trials.proofs.side_by_side.rows_and_list_alike.Goals as goal

pub returns : goal.returns
returns c l =
    c.tell_alike.ensures (record { memory = sym (c.new-list.ensures.memory ∙ le-leb 256 _ l); meaning = c.new-rows.ensures ∙ sym c.new-list.ensures.empty })
