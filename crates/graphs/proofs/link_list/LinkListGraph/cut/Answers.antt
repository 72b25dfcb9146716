use Rattle.std.proofs.Common.{sym, ap, ◌∙◌}
use Rattle.std.proofs.lemmas.Bool.{cond-true}
use Rattle.model.specs.Graphs.{without_link}
use Rattle.graphs.specs.Meanings.{list_graph}
use Rattle.graphs.proofs.link_list.LinkListGraph.cut.Goals as goal

pub returns-clause-after : goal.returns-clause-after
returns-clause-after c =
    let g = list_graph c.args.self.now in
    let e = c.in-Some.ensures in
    let stood = e.stands ∙ ap (λ x. g.linked x.upper x.lower) c.new.ensures in
    c.take_out.ensures.after ∙ ap (λ x. without_link g x.upper x.lower) (e.place.1 ∙ c.new.ensures) ∙ sym (cond-true _ _ _ (sym stood))
