use Rattle.std.proofs.Common.{◌≡◌, ◌≢◌, rules, take}
use borrow.Author.Tests.{tests}
use Rattle.std.proofs.lemmas.Iterator.{YieldsList-from_slice, IsFirst-from_position}
use Rattle.graphs.specs.declared.link.Link.{Link}
use Rattle.graphs.proofs.RecordLists.{position_held}
use Rattle.graphs.proofs.link_list.LinkList.position.Goals as goal

pub returns-clause-stands : goal.returns-clause-stands
returns-clause-stands c =
    let s = c.args.self.now in
    position_held s.links.now s.len c.args.link c.position.result s.fits
    (IsFirst-from_position _ _ c.position.result (λ (x : Link). x ≡ c.args.link) (λ (x : Link). x ≢ c.args.link) c.position.ensures.ran (YieldsList-from_slice (take s.len s.links.now) cc) (λ x q k. search (rules, tests)) (λ x q k. search (rules, tests)))
