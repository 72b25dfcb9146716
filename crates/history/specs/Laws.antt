-- What holds of every history.
use Rattle.std.specs.Prelude.{◌≡◌, ℕ, Bool, List, [], ◌∷◌, ◌++◌, map, Ok, Err}
use Rattle.model.specs.States.{States}
use Rattle.model.specs.declared.principal.Principal.{Principal}
use Rattle.model.specs.declared.privilege.Privilege.{Privilege}
use Rattle.access.specs.Reaching.{IsAnswer}
use Rattle.access.specs.Between.{BetweenRoles}
use Rattle.reading.specs.Cut.{Entry}
use Rattle.standing.specs.declared.fault.StandingFault.{StandingFault}
use Rattle.standing.specs.declared.report.Report.TheVariants.{Done, DoneBy, State}
use Rattle.history.specs.World.{World, new_world}
use Rattle.history.specs.Deeds.{Asks, check}
use Rattle.history.specs.Steps.{Answer, Step, Turn, Run}
use Rattle.history.specs.Lasting.{LastAssigned, Registered}
use Rattle.history.specs.Withdrawing.{LeavesNoTrace}

abbrev pub entries : {S : Type 0} → List (Turn S) → List Entry
entries = map (λ t. t.entry)

-- the records determine the answers and the world
abbrev pub OneRun : {S : Type 0} → States S → Type 0
OneRun {S} st =
    (w : World S) (xs ys : List (Turn S)) (u v : World S) → Run st w xs u → Run st w ys v
    → entries xs ≡ entries ys → (xs ≡ ys) × (u ≡ v)

-- each accepted CHECK was answered a state that reaches the principal at that moment, or unassign, and that overrides all that reach it
abbrev pub StrongestAnswers : {S : Type 0} → States S → Bool → List (Turn S) → Type 0
StrongestAnswers {S} st memory ts =
    (before : List (Turn S)) (t : Turn S) (after : List (Turn S)) (o : ℕ) (p : Privilege) (q : Principal) (s : S)
    → ts ≡ before ++ (t ∷ after) → Asks st t.entry.what (check o p q) → t.answer ≡ Ok (State s)
    → (w : World S) → Run st (new_world st memory) before w
    → IsAnswer st w.graph w.masters w.cells o p q s

-- a refused record and a CHECK leave the world as it was
pub record Unchanged {S : Type 0} (st : States S) : Type 0 where
  pub refused : (w v : World S) (e : Entry) (f : StandingFault) → Step st w e (Err f) v → v ≡ w
  pub checked : (w v : World S) (e : Entry) (s : S) → Step st w e (Ok (State s)) v → v ≡ w

-- an answer after which nothing has changed: a refusal, or a state
abbrev pub ChangesNothing : {S : Type 0} → Answer S → Type 0
ChangesNothing (Err f) = Unit {0}
ChangesNothing (Ok Done) = ⊥
ChangesNothing (Ok (DoneBy g)) = ⊥
ChangesNothing (Ok (State s)) = Unit {0}

-- the records after such an answer find the world that it found
abbrev pub KeepsWorld : {S : Type 0} → States S → World S → List (Turn S) → Type 0
KeepsWorld {S} st w ts =
    (before : List (Turn S)) (t : Turn S) (after : List (Turn S)) → ts ≡ before ++ (t ∷ after) → ChangesNothing t.answer
    → (u : World S) → Run st w before u → Run st w (before ++ (t ∷ [])) u

-- what holds of each run from a new world
pub record RunLaws {S : Type 0} (st : States S) (memory : Bool) (ts : List (Turn S)) (w : World S) : Type 0 where
  pub last : LastAssigned st ts w
  pub registered : Registered st ts w
  pub strongest : StrongestAnswers st memory ts
  pub withdrawn : LeavesNoTrace st memory ts
  pub between : BetweenRoles st w.graph w.masters w.cells

pub record Laws {S : Type 0} (st : States S) : Type 0 where
  pub one : OneRun st
  pub unchanged : Unchanged st
  pub keeps : (w : World S) (ts : List (Turn S)) (v : World S) → Run st w ts v → KeepsWorld st w ts
  pub runs : (memory : Bool) (ts : List (Turn S)) (w : World S) → Run st (new_world st memory) ts w → RunLaws st memory ts w
