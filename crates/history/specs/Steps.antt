-- What each record is answered, and what stands after it.
use Rattle.std.specs.Prelude.{◌≡◌, ℕ, ◌⊎◌, List, [], ◌∷◌, Some, Ok, Err, Result}
use Rattle.model.specs.States.{States}
use Rattle.model.specs.Graphs.{with_level, with_link, without_link}
use Rattle.model.specs.Places.{place}
use Rattle.model.specs.Stores.{put}
use Rattle.model.specs.declared.principal.Principal.{Principal}
use Rattle.model.specs.declared.privilege.Privilege.{Privilege}
use Rattle.model.specs.declared.cell.Cell.{Cell}
use Rattle.access.specs.Masters.{with_master}
use Rattle.access.specs.Reaching.{IsAnswer}
use Rattle.reading.specs.Questions.{AllYes, FirstNo}
use Rattle.reading.specs.Cut.{Entry}
use Rattle.wording.specs.declared.fault.WordingFault.{WordingFault}
use Rattle.standing.specs.Faults.{number_of}
use Rattle.standing.specs.declared.fault.StandingFault.{StandingFault}
use Rattle.standing.specs.declared.fault.StandingFault.TheVariants.{Wording}
use Rattle.standing.specs.declared.report.Report.{Report}
use Rattle.standing.specs.declared.report.Report.TheVariants.{Done, DoneBy, State}
use Rattle.history.specs.World.{World, with_graph, with_masters, with_cells}
use Rattle.history.specs.Deeds.{Assignment, Deed, unsaid, make_role, make_object, add_link, cut_link, assign, check, Asks}
use Rattle.history.specs.Asking.{Granter, questions}

-- a report, or a refusal with its number, layer and place
abbrev pub Answer : Type 0 → Type 0
Answer S = Result (Report S) StandingFault

-- an accepted assignment sets the cell of its object, granter, grantee and privilege
pub record Assigns {S : Type 0} (w : World S) (x : Assignment S) (a : Answer S) (v : World S) : Type 0 where
  pub granter : Principal
  pub cell : Cell S
  pub gives : Granter w x granter
  pub states : x.cell ≡ Some cell
  pub told : a ≡ Ok (DoneBy granter)
  pub after : v ≡ with_cells w (put w.cells (place x.object granter x.grantee x.privilege) cell)

-- CHECK is answered the principal's state, and changes nothing
pub record Tells {S : Type 0} (st : States S) (w : World S) (o : ℕ) (p : Privilege) (q : Principal) (a : Answer S) (v : World S) : Type 0 where
  pub state : S
  pub is_answer : IsAnswer st w.graph w.masters w.cells o p q state
  pub told : a ≡ Ok (State state)
  pub after : v ≡ w

-- what an accepted record is answered, and what stands after it
abbrev pub Effect : {S : Type 0} → States S → World S → Deed S → Answer S → World S → Type 0
Effect st w (unsaid f) a v = ⊥
Effect st w (make_role u r n) a v = (a ≡ Ok Done) × (v ≡ with_graph w (with_level w.graph r n))
Effect st w (make_object u o m) a v = (a ≡ Ok Done) × (v ≡ with_masters w (with_master w.masters o m))
Effect st w (add_link u q r) a v = (a ≡ Ok Done) × (v ≡ with_graph w (with_link w.graph q r))
Effect st w (cut_link u q r) a v = (a ≡ Ok Done) × (v ≡ with_graph w (without_link w.graph q r))
Effect st w (assign x) a v = Assigns w x a v
Effect st w (check o p q) a v = Tells st w o p q a v

-- the fault of a lower layer is carried whole
abbrev pub Carries : {S : Type 0} → Deed S → StandingFault → Type 0
Carries d why = (f : WordingFault) → why ≡ Wording f → d ≡ unsaid f

-- the first no is the refusal's number, and a refused record changes nothing
pub record Refuses {S : Type 0} (st : States S) (w : World S) (d : Deed S) (a : Answer S) (v : World S) : Type 0 where
  pub why : StandingFault
  pub first : FirstNo (questions st w d) (number_of why)
  pub whole : Carries d why
  pub told : a ≡ Err why
  pub after : v ≡ w

pub record Accepts {S : Type 0} (st : States S) (w : World S) (d : Deed S) (a : Answer S) (v : World S) : Type 0 where
  pub yes : AllYes (questions st w d)
  pub effect : Effect st w d a v

abbrev pub Does : {S : Type 0} → States S → World S → Deed S → Answer S → World S → Type 0
Does st w d a v = Refuses st w d a v ⊎ Accepts st w d a v

-- one record, its answer, and the world after it
pub record Step {S : Type 0} (st : States S) (w : World S) (e : Entry) (a : Answer S) (v : World S) : Type 0 where
  pub asked : Deed S
  pub asks : Asks st e.what asked
  pub does : Does st w asked a v

-- a record with its answer
pub record Turn (S : Type 0) : Type 0 where
  pub entry : Entry
  pub answer : Answer S

-- records, each answered in the world that the ones before left
abbrev pub Run : {S : Type 0} → States S → World S → List (Turn S) → World S → Type 0
Run st w [] v = v ≡ w
Run {S} st w (t ∷ ts) v = (u : World S) × Step st w t.entry t.answer u × Run st u ts v
