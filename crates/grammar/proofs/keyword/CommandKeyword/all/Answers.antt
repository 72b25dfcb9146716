use Rattle.std.proofs.Common.{lit<, refl}
use Rattle.grammar.specs.declared.sentence.Command.TheVariants.{Role, Object, Link, Cut, Grant, Restrict, Revoke, Check}
use Rattle.grammar.specs.declared.sentence.Restriction.TheVariants.{Taint, Suspend, Deny}
use Rattle.grammar.proofs.keyword.CommandKeyword.all.Goals as goal

pub returns : goal.returns
returns c = elim [
  | Role ↦ (0, lit< tt, refl)
  | Object ↦ (1, lit< tt, refl)
  | Link ↦ (2, lit< tt, refl)
  | Cut ↦ (3, lit< tt, refl)
  | Grant ↦ (4, lit< tt, refl)
  | Restrict Taint ↦ (5, lit< tt, refl)
  | Restrict Suspend ↦ (6, lit< tt, refl)
  | Restrict Deny ↦ (7, lit< tt, refl)
  | Revoke ↦ (8, lit< tt, refl)
  | Check ↦ (9, lit< tt, refl)
]
