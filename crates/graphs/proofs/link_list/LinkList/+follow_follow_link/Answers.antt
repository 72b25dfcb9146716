use Rattle.std.proofs.Common.{◌≡◌, ◌-◌, ap, arith, rules}
use Rattle.model.specs.Graphs.{via, level_of}
use Rattle.model.proofs.Chains.{stay_at}
use Rattle.graphs.specs.Levels.{level_in}
use Rattle.graphs.specs.Records.{link, at_place}
use Rattle.graphs.proofs.RecordLists.{held_at, follows_first, falls_less}
use Rattle.graphs.proofs.link_list.LinkList.+follow_follow_link.Goals as goal

pub follow-returns-then-is_one-clause-sound : goal.follow-returns-then-is_one-clause-sound
follow-returns-then-is_one-clause-sound t c =
    let same : c.args.from ≡ c.args.to = search rules in λ _. stay_at _ _ same

pub follow-follow_link-requires : goal.follow-follow_link-requires
follow-follow_link-requires t c =
    let s = c.args.self.now in
    let x = at_place s.links.now (c.args.left - 1) in
    let e : x.upper ≡ c.args.from = search rules in
    let h = held_at s.links.now s.len (c.args.left - 1) c.args.from x.lower (omega arith) (ap (λ p. link p x.lower) e) in
    let d = falls_less (level_in s.levels.of_roles x.lower) (level_of (level_in s.levels.of_roles) c.args.from) (s.kept.falling c.args.from x.lower h) in
    (omega (arith, d, c.decreases), omega arith)

pub follow-returns-then-follow_link-clause-sound : goal.follow-returns-then-follow_link-clause-sound
follow-returns-then-follow_link-clause-sound t c =
    let s = c.args.self.now in
    let x = at_place s.links.now (c.args.left - 1) in
    let e : x.upper ≡ c.args.from = search rules in
    let h = held_at s.links.now s.len (c.args.left - 1) c.args.from x.lower (omega arith) (ap (λ p. link p x.lower) e) in
    λ _. via c.args.from c.args.to x.lower h (c.follow_link.ensures.sound c.if-follow_link.true)

pub follow_link-returns-clause-complete : goal.follow_link-returns-clause-complete
follow_link-returns-clause-complete t c =
    let s = c.args.self.now in
    follows_first s.links.now s.len _ c.args.to c.follow.result c.follow.ensures.itself (λ k l. c.follow.ensures.complete k (omega arith))
