use Rattle.std.proofs.Common.{lit<, refl}
use Rattle.model.specs.declared.privilege.Privilege.TheVariants.{Read, Draw, Hint, Proof, Build, Export, Rename, Drop}
use Rattle.grammar.proofs.keyword.PrivilegeKeyword.all.Goals as goal

pub returns : goal.returns
returns c = elim [
  | Read ↦ (0, lit< tt, refl)
  | Draw ↦ (1, lit< tt, refl)
  | Hint ↦ (2, lit< tt, refl)
  | Proof ↦ (3, lit< tt, refl)
  | Build ↦ (4, lit< tt, refl)
  | Export ↦ (5, lit< tt, refl)
  | Rename ↦ (6, lit< tt, refl)
  | Drop ↦ (7, lit< tt, refl)
]
