-- What the records of a history set last: cells, levels, masters and links.
use Rattle.std.specs.Prelude.{◌≡◌, ℕ, Bool, true, false, ◌⊎◌, List, ◌∷◌, ◌++◌, Some, None, Ok, Option}
use mathlib.Core.List.{Memᴰ}
use Rattle.model.specs.States.{States}
use Rattle.model.specs.Allowed.{unassigned}
use Rattle.model.specs.declared.principal.Principal.{Principal}
use Rattle.model.specs.declared.cell.Cell.{Cell}
use Rattle.model.specs.declared.place.Place.{Place}
use Rattle.access.specs.declared.master.Master.{Master}
use Rattle.standing.specs.declared.report.Report.TheVariants.{Done, DoneBy}
use Rattle.history.specs.World.{World}
use Rattle.history.specs.Deeds.{Deed, make_role, make_object, add_link, cut_link, Asks, assigning}
use Rattle.history.specs.Steps.{Turn}

-- no record of the list sets it
abbrev pub NoneSets : {S V : Type 0} → (Turn S → V → Type 0) → List (Turn S) → Type 0
NoneSets {S} {V} sets ts = (t : Turn S) → Memᴰ t ts → (x : V) → sets t x → ⊥

-- a record of the list sets it to x, and no later one sets it
pub record SetLast {S V : Type 0} (sets : Turn S → V → Type 0) (ts : List (Turn S)) (x : V) : Type 0 where
  pub before : List (Turn S)
  pub turn : Turn S
  pub later : List (Turn S)
  pub is : ts ≡ before ++ (turn ∷ later)
  pub sets_it : sets turn x
  pub none_later : NoneSets sets later

-- x is what it was last set to, or as at the start where it never was
abbrev pub LastSet : {S V : Type 0} → (Turn S → V → Type 0) → V → List (Turn S) → V → Type 0
LastSet sets start ts x = (NoneSets sets ts × (x ≡ start)) ⊎ SetLast sets ts x

-- an accepted assignment of a cell at a place
pub record Assigned {S : Type 0} (st : States S) (p : Place) (t : Turn S) (c : Cell S) : Type 0 where
  pub told : t.answer ≡ Ok (DoneBy p.granter)
  pub issuer : ℕ
  pub asked : Asks st t.entry.what (assigning issuer p c)

-- an accepted record of some kind that reports no granter
pub record Performed {S : Type 0} (st : States S) (t : Turn S) (kind : ℕ → Deed S) : Type 0 where
  pub told : t.answer ≡ Ok Done
  pub issuer : ℕ
  pub asked : Asks st t.entry.what (kind issuer)

-- an accepted ROLE gives the role r its level
abbrev pub GivesLevel : {S : Type 0} → States S → ℕ → Turn S → Option ℕ → Type 0
GivesLevel st r t x = (n : ℕ) × (x ≡ Some n) × Performed st t (λ u. make_role u r n)

-- an accepted OBJECT gives the object o its type and owner
abbrev pub GivesMaster : {S : Type 0} → States S → ℕ → Turn S → Option Master → Type 0
GivesMaster st o t x = (m : Master) × (x ≡ Some m) × Performed st t (λ u. make_object u o m)

-- an accepted LINK or CUT of the link from q to r
abbrev pub SetsLink : {S : Type 0} → States S → Principal → ℕ → Turn S → Bool → Type 0
SetsLink st q r t x =
    ((x ≡ true) × Performed st t (λ u. add_link u q r)) ⊎ ((x ≡ false) × Performed st t (λ u. cut_link u q r))

-- each cell is the last accepted assignment of its place, or unassign where there is none
abbrev pub LastAssigned : {S : Type 0} → States S → List (Turn S) → World S → Type 0
LastAssigned st ts w = (p : Place) → LastSet (Assigned st p) (unassigned st) ts (w.cells p)

-- levels, types and owners are those of the accepted ROLE and OBJECT records, links those of the last accepted LINK or CUT
pub record Registered {S : Type 0} (st : States S) (ts : List (Turn S)) (w : World S) : Type 0 where
  pub levels : (r : ℕ) → LastSet (GivesLevel st r) None ts (w.graph.level r)
  pub masters : (o : ℕ) → LastSet (GivesMaster st o) None ts (w.masters o)
  pub links : (q : Principal) (r : ℕ) → LastSet (SetsLink st q r) false ts (w.graph.linked q r)
