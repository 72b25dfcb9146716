use Rattle.std.proofs.Common.{◌+◌, ◌*◌, unwrap_or}
use Rattle.model.specs.Graphs.{level_of}
use Rattle.graphs.specs.Levels.{level_in}
use Rattle.graphs.specs.Records.{at_place}
use Rattle.graphs.proofs.link_list.LinkList.+follow_follow_link.Given as goal

-- the pair (level, links left to try): a level is worth 258, more than 256 links and the step through one
abbrev pub decreases-follow : goal.decreases-follow
decreases-follow l = unwrap_or (level_of (level_in l.self.now.levels.of_roles) l.from) 0 * 258 + l.left

abbrev pub decreases-follow_link : goal.decreases-follow_link
decreases-follow_link l = unwrap_or (level_in l.self.now.levels.of_roles (at_place l.self.now.links.now l.place).lower) 0 * 258 + 257
