-- The laws, together.
use Rattle.model.specs.States.{States, Lawful}
use Rattle.access.proofs.Travelling.{between_roles}
use Rattle.history.specs.World.{new_world}
use Rattle.history.specs.Laws.{Laws}
use Rattle.history.proofs.Runs.{one_run, unchanged}
use Rattle.history.proofs.LastSets.{last_assigned}
use Rattle.history.proofs.Registering.{registered}
use Rattle.history.proofs.Sound.{run_sound, new_sound}
use Rattle.history.proofs.Strongest.{strongest_answers, keeps_world}
use Rattle.history.proofs.Withdrawn.{leaves_no_trace}

pub laws_hold : {S : Type 0} (st : States S) → Lawful st → Laws st
laws_hold st law = record {
  one = one_run st law;
  unchanged = unchanged st law;
  keeps = keeps_world st law;
  runs = λ memory ts w r. record {
    last = last_assigned st law memory ts w r;
    registered = registered st law memory ts w r;
    strongest = strongest_answers st law memory ts w r;
    withdrawn = leaves_no_trace st law memory ts w r;
    between = (let s = run_sound st law (new_world st memory) ts w (new_sound st law memory) r in between_roles st law w.graph w.masters w.cells s.cells);
  };
}
