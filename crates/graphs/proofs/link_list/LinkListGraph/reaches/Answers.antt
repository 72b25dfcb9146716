use Rattle.std.proofs.Common.{sym}
use Rattle.graphs.proofs.RecordLists.{follows_first}
use Rattle.graphs.proofs.link_list.LinkListGraph.reaches.Goals as goal

pub returns : goal.returns
returns c =
    let s = c.args.self.now in (
      (λ e. record { from = sym c.if-not-is_in_range.ensures; to = sym c.if-not-is_in_range-2.ensures; chain = c.follow.ensures.sound e }),
      (λ h. follows_first s.links.now s.len c.args.from c.args.to c.follow.result c.follow.ensures.itself c.follow.ensures.complete h.chain),
    )
