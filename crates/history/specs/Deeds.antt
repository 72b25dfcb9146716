-- What a record asks for.
use Rattle.std.specs.Prelude.{◌≡◌, ℕ, false, Some, Ok, Err, Option, Result}
use Rattle.model.specs.States.{States}
use Rattle.model.specs.Allowed.{set_by, unassigned}
use Rattle.model.specs.declared.principal.Principal.{Principal}
use Rattle.model.specs.declared.privilege.Privilege.{Privilege}
use Rattle.model.specs.declared.scale.StateCommand.{StateCommand}
use Rattle.model.specs.declared.scale.StateCommand.TheVariants as command
use Rattle.model.specs.declared.cell.Cell.{Cell}
use Rattle.model.specs.declared.place.Place.{Place}
use Rattle.access.specs.declared.master.Master.{Master}
use Rattle.reading.specs.Records.{Frame}
use Rattle.reading.specs.declared.fault.ReadingFault.{ReadingFault}
use Rattle.grammar.specs.declared.sentence.Restriction.{Restriction}
use Rattle.grammar.specs.declared.sentence.Restriction.TheVariants as restriction
use Rattle.grammar.specs.declared.sentence.Sentence.{Sentence}
use Rattle.grammar.specs.declared.sentence.Sentence.TheVariants as sentence
use Rattle.wording.specs.Answers.{Answers}
use Rattle.wording.specs.declared.fault.WordingFault.{WordingFault}
use Rattle.wording.specs.declared.fault.WordingFault.TheVariants.{Reading}

-- what an assigning command asks for: all of a place but the granter, and the cell, if the scale has the command's state
pub record Assignment (S : Type 0) : Type 0 where
  pub issuer : ℕ
  pub object : ℕ
  pub grantee : Principal
  pub privilege : Privilege
  pub cell : Option (Cell S)

pub data Deed (S : Type 0) : Type 0 where
  -- nothing: reading or wording refused the record
  unsaid : WordingFault → Deed S
  -- issuer, role and level
  make_role : ℕ → ℕ → ℕ → Deed S
  -- issuer, object, and its type and owner
  make_object : ℕ → ℕ → Master → Deed S
  -- issuer, upper end and lower role
  add_link : ℕ → Principal → ℕ → Deed S
  cut_link : ℕ → Principal → ℕ → Deed S
  assign : Assignment S → Deed S
  -- object, privilege and principal
  check : ℕ → Privilege → Principal → Deed S

abbrev pub restricting : Restriction → StateCommand
restricting restriction.Taint = command.Taint
restricting restriction.Suspend = command.Suspend
restricting restriction.Deny = command.Deny

-- what a user asks for by a sentence; REVOKE assigns unassign
abbrev pub deed : {S : Type 0} → States S → ℕ → Sentence → Deed S
deed st u (sentence.Role r n) = make_role u r n
deed st u (sentence.Object o t owner) = make_object u o (record { kind = t; owner = owner })
deed st u (sentence.Link r q) = add_link u q r
deed st u (sentence.Cut r q) = cut_link u q r
deed st u (sentence.Grant p o q option) =
    assign (record { issuer = u; object = o; grantee = q; privilege = p; cell = set_by st command.Grant false option })
deed st u (sentence.Restrict r p o q neutral) =
    assign (record { issuer = u; object = o; grantee = q; privilege = p; cell = set_by st (restricting r) neutral false })
deed st u (sentence.Revoke p o q) =
    assign (record { issuer = u; object = o; grantee = q; privilege = p; cell = Some (unassigned st) })
deed st u (sentence.Check p o q) = check o p q

abbrev pub deed_or_fault : {S : Type 0} → States S → ℕ → Result Sentence WordingFault → Deed S
deed_or_fault st u (Ok s) = deed st u s
deed_or_fault st u (Err f) = unsaid f

-- a record that can be read asks for what its body is answered; a damaged one for nothing
abbrev pub Asks : {S : Type 0} → States S → Result Frame ReadingFault → Deed S → Type 0
Asks st (Err k) d = d ≡ unsaid (Reading k)
Asks st (Ok f) d = (r : Result Sentence WordingFault) × Answers f.body r × (d ≡ deed_or_fault st f.issuer r)

-- the assignment by a user of a cell at a place
abbrev pub assigning : {S : Type 0} → ℕ → Place → Cell S → Deed S
assigning u p c = assign (record { issuer = u; object = p.object; grantee = p.grantee; privilege = p.privilege; cell = Some c })
