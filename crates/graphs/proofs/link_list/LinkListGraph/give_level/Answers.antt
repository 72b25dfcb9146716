use Rattle.graphs.specs.Records.{held}
use Rattle.graphs.specs.Meanings.{list_sound}
use Rattle.graphs.proofs.LevelTables.{given_kept}
use Rattle.graphs.proofs.link_list.LinkListGraph.give_level.Goals as goal

pub invariant_of-self : goal.invariant_of-self
invariant_of-self c =
    let s = c.args.self.now in
    let h = held s.links.now s.len in
    record { fits = s.fits; kept = given_kept s.levels.of_roles c.give.new.self.of_roles h s.len c.args.role c.args.level (list_sound s) s.kept (c.give.ensures.after h); distinct = s.distinct }

pub returns-clause-answer : goal.returns-clause-answer
returns-clause-answer c = let s = c.args.self.now in c.give.ensures.answer (held s.links.now s.len)
