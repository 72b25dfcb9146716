-- Leaving out an assignment and its REVOKE.
use Rattle.std.specs.Prelude.{◌≡◌, ℕ, Bool, false, List, ◌∷◌, ◌++◌, map, Ok, Err, Result, ◌≢◌}
use mathlib.Core.List.{Memᴰ}
use Rattle.model.specs.States.{States}
use Rattle.model.specs.Allowed.{unassigned}
use Rattle.model.specs.declared.cell.Cell.{Cell}
use Rattle.model.specs.declared.place.Place.{Place}
use Rattle.reading.specs.Records.{Frame}
use Rattle.reading.specs.Cut.{Entry}
use Rattle.reading.specs.declared.fault.ReadingFault.{ReadingFault}
use Rattle.reading.specs.declared.fault.ReadingFault.TheVariants.{Header, Mark, Issuer, Length, Body}
use Rattle.grammar.specs.declared.sentence.Sentence.{Sentence}
use Rattle.grammar.specs.declared.sentence.Sentence.TheVariants.{Revoke}
use Rattle.wording.specs.Answers.{Answers}
use Rattle.wording.specs.declared.fault.WordingFault.{WordingFault}
use Rattle.wording.specs.declared.fault.WordingFault.TheVariants as wording
use Rattle.standing.specs.declared.fault.StandingFault.{StandingFault}
use Rattle.standing.specs.declared.fault.StandingFault.TheVariants.{Wording, Memory, Registrar, Unknown, Taken, Level, Link, State, Privilege, Granter, Room}
use Rattle.standing.specs.declared.report.Report.TheVariants.{DoneBy}
use Rattle.history.specs.World.{World, new_world}
use Rattle.history.specs.Steps.{Answer, Turn, Run}
use Rattle.history.specs.Lasting.{NoneSets, LastSet, Assigned}

-- a reading fault without its offset in the input
abbrev pub unplaced : ReadingFault → ReadingFault
unplaced (Header at) = Header 0
unplaced (Mark at) = Mark 0
unplaced (Issuer at) = Issuer 0
unplaced (Length at) = Length 0
unplaced (Body at) = Body 0

-- what was read, wherever it stood
abbrev pub content : Result Frame ReadingFault → Result Frame ReadingFault
content (Ok f) = Ok f
content (Err k) = Err (unplaced k)

abbrev pub unplaced_wording : WordingFault → WordingFault
unplaced_wording (wording.Reading k) = wording.Reading (unplaced k)
unplaced_wording (wording.Sentence p) = wording.Sentence p
unplaced_wording (wording.Range p) = wording.Range p

abbrev pub unplaced_standing : StandingFault → StandingFault
unplaced_standing (Wording f) = Wording (unplaced_wording f)
unplaced_standing Memory = Memory
unplaced_standing Registrar = Registrar
unplaced_standing Unknown = Unknown
unplaced_standing Taken = Taken
unplaced_standing Level = Level
unplaced_standing Link = Link
unplaced_standing State = State
unplaced_standing Privilege = Privilege
unplaced_standing Granter = Granter
unplaced_standing Room = Room

-- an answer, but for the offset in a reading refusal
abbrev pub but_offset : {S : Type 0} → Answer S → Answer S
but_offset (Ok r) = Ok r
but_offset (Err f) = Err (unplaced_standing f)

abbrev pub contents : {S : Type 0} → List (Turn S) → List (Result Frame ReadingFault)
contents = map (λ t. content t.entry.what)

abbrev pub answers_but_offsets : {S : Type 0} → List (Turn S) → List (Answer S)
answers_but_offsets = map (λ t. but_offset t.answer)

-- a record that says a sentence
pub record SaidBy (e : Entry) (u : ℕ) (s : Sentence) : Type 0 where
  pub frame : Frame
  pub is : e.what ≡ Ok frame
  pub issuer : frame.issuer ≡ u
  pub says : Answers frame.body (Ok s)

-- an accepted REVOKE of the cell at a place, by its granter
pub record Revoked {S : Type 0} (t : Turn S) (p : Place) : Type 0 where
  pub told : t.answer ≡ Ok (DoneBy p.granter)
  pub issuer : ℕ
  pub said : SaidBy t.entry issuer (Revoke p.privilege p.object p.grantee)

-- an assignment without option, accepted on an unassigned cell, and its granter's accepted REVOKE; between the two no other assignment of the cell is accepted, and no record refused for room
pub record Withdrawal {S : Type 0} (st : States S) (before : List (Turn S)) (given : Turn S) (between : List (Turn S)) (revoked : Turn S) (p : Place) (c : Cell S) : Type 0 where
  pub assigned : Assigned st p given c
  pub no_option : c.option ≡ false
  pub fresh : LastSet (Assigned st p) (unassigned st) before (unassigned st)
  pub withdrawn : Revoked revoked p
  pub alone : NoneSets (Assigned st p) between
  pub roomy : (t : Turn S) → Memᴰ t between → t.answer ≢ Err Room

-- the two left out, every record after the REVOKE is answered as it was, but for offsets in reading refusals
abbrev pub LeavesNoTrace : {S : Type 0} → States S → Bool → List (Turn S) → Type 0
LeavesNoTrace {S} st memory ts =
    (before : List (Turn S)) (given : Turn S) (between : List (Turn S)) (revoked : Turn S) (after : List (Turn S)) (p : Place) (c : Cell S)
    → ts ≡ before ++ (given ∷ (between ++ (revoked ∷ after)))
    → Withdrawal st before given between revoked p c
    → (before' between' after' : List (Turn S)) (v : World S)
    → Run st (new_world st memory) (before' ++ (between' ++ after')) v
    → contents before' ≡ contents before → contents between' ≡ contents between → contents after' ≡ contents after
    → answers_but_offsets after' ≡ answers_but_offsets after
