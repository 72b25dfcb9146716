use Rattle.graphs.specs.Rows.{in_rows}
use Rattle.graphs.specs.Meanings.{rows_sound}
use Rattle.graphs.proofs.LevelTables.{given_kept}
use Rattle.graphs.proofs.bit_rows.BitRowsGraph.give_level.Goals as goal

pub invariant_of-self : goal.invariant_of-self
invariant_of-self c =
    let s = c.args.self.now in
    record { wide = s.wide; kept = given_kept s.levels.of_roles c.give.new.self.of_roles (in_rows s.rows) s.len c.args.role c.args.level (rows_sound s) s.kept (c.give.ensures.after (in_rows s.rows)) }

pub returns-clause-answer : goal.returns-clause-answer
returns-clause-answer c = c.give.ensures.answer (in_rows c.args.self.now.rows)
