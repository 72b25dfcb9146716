use Rattle.std.proofs.Common.{sym, ap, ◌∙◌}
use Rattle.std.proofs.lemmas.Bool.{cond-true}
use Rattle.model.specs.Graphs.{takes_link, with_link}
use Rattle.graphs.specs.Meanings.{list_graph, list_full}
use Rattle.graphs.proofs.link_list.LinkListGraph.add.Goals as goal

pub returns-then-takes-clause-after : goal.returns-then-takes-clause-after
returns-then-takes-clause-after c =
    let s = c.args.self.now in
    let e = c.if-takes.ensures ∙ ap (λ x. takes_link (list_full s) (list_graph s) x.upper x.lower) c.new-link.ensures in
    c.put.ensures.after ∙ ap (λ x. with_link (list_graph s) x.upper x.lower) c.new-link.ensures ∙ sym (cond-true _ _ _ (sym e))
