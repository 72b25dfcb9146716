-- The questions that are put to a record, in their order, with their numbers.
use Rattle.std.specs.Prelude.{◌≡◌, ℕ, ◌<◌, true, false, List, [], ◌∷◌, Some, None}
use Rattle.model.specs.States.{States}
use Rattle.model.specs.Joining.{joining}
use Rattle.model.specs.Privileges.{defines}
use Rattle.model.specs.LinkCount.{link_count}
use Rattle.model.specs.Graphs.{RoleGraph, level_of, falls}
use Rattle.model.specs.Places.{place}
use Rattle.model.specs.Stores.{has_room}
use Rattle.model.specs.declared.principal.Principal.{Principal}
use Rattle.model.specs.declared.principal.Principal.TheVariants.{Role}
use Rattle.model.specs.declared.privilege.Privilege.{Privilege}
use Rattle.model.specs.declared.cell.Cell.{Cell}
use Rattle.access.specs.Masters.{Masters}
use Rattle.access.specs.Giving.{GivesAs}
use Rattle.access.specs.declared.master.Master.{Master}
use Rattle.reading.specs.Questions.{Question, ask}
use Rattle.wording.specs.Faults.{number_of}
use Rattle.history.specs.World.{World}
use Rattle.history.specs.Deeds.{Assignment, Deed, unsaid, make_role, make_object, add_link, cut_link, assign, check}

-- a user in range exists, a role once it has a level
abbrev pub Exists : RoleGraph → Principal → Type 0
Exists g q = (n : ℕ) × (level_of g.level q ≡ Some n)

-- an object exists once it has a type and an owner
abbrev pub Made : Masters → ℕ → Type 0
Made masters o = (m : Master) × (masters o ≡ Some m)

-- the type of the object defines the privilege
abbrev pub Defined : Masters → ℕ → Privilege → Type 0
Defined masters o p = (m : Master) × (masters o ≡ Some m) × (defines m.kind p ≡ true)

-- the scale has the command's state
abbrev pub HasState : {S : Type 0} → Assignment S → Type 0
HasState {S} x = (c : Cell S) × (x.cell ≡ Some c)

-- the issuer gives as q
abbrev pub Granter : {S : Type 0} → World S → Assignment S → Principal → Type 0
Granter w x q = GivesAs w.graph w.masters w.cells x.issuer x.object x.privilege q

abbrev pub HasGranter : {S : Type 0} → World S → Assignment S → Type 0
HasGranter w x = (q : Principal) × Granter w x q

-- there is room for the granter's cell
abbrev pub HasRoom : {S : Type 0} → States S → World S → Assignment S → Type 0
HasRoom {S} st w x =
    (q : Principal) → Granter w x q → (c : Cell S) → x.cell ≡ Some c
    → has_room (joining st) w.cells (place x.object q x.grantee x.privilege) c ≡ true

-- 1 to 17, each where it applies; what reading or wording refused was answered no there
abbrev pub questions : {S : Type 0} → States S → World S → Deed S → List Question
questions st w (unsaid f) = ask 1 (w.memory ≡ true) ∷ ask (number_of f) ⊥ ∷ []
questions st w (make_role u r n) = ask 1 (w.memory ≡ true) ∷ ask 9 (u ≡ 0) ∷ ask 11 (w.graph.level r ≡ None) ∷ []
questions st w (make_object u o m) = ask 1 (w.memory ≡ true) ∷ ask 9 (u ≡ 0) ∷ ask 11 (w.masters o ≡ None) ∷ []
questions st w (add_link u q r) =
    ask 1 (w.memory ≡ true)
    ∷ ask 9 (u ≡ 0)
    ∷ ask 10 (Exists w.graph (Role r) × Exists w.graph q)
    ∷ ask 12 (falls w.graph.level q r ≡ true)
    ∷ ask 13 (w.graph.linked q r ≡ false)
    ∷ ask 17 (link_count w.graph.linked < 256)
    ∷ []
questions st w (cut_link u q r) =
    ask 1 (w.memory ≡ true)
    ∷ ask 9 (u ≡ 0)
    ∷ ask 10 (Exists w.graph (Role r) × Exists w.graph q)
    ∷ ask 13 (w.graph.linked q r ≡ true)
    ∷ []
questions st w (assign x) =
    ask 1 (w.memory ≡ true)
    ∷ ask 10 (Made w.masters x.object × Exists w.graph x.grantee)
    ∷ ask 14 (HasState x)
    ∷ ask 15 (Defined w.masters x.object x.privilege)
    ∷ ask 16 (HasGranter w x)
    ∷ ask 17 (HasRoom st w x)
    ∷ []
questions st w (check o p q) =
    ask 1 (w.memory ≡ true)
    ∷ ask 10 (Made w.masters o × Exists w.graph q)
    ∷ ask 15 (Defined w.masters o p)
    ∷ []
