use Rattle.std.proofs.Common.{lit<, refl}
use Rattle.model.specs.declared.kind.Kind.TheVariants.{Library, Face, Hints, Bitmaps}
use Rattle.grammar.proofs.keyword.KindKeyword.all.Goals as goal

pub returns : goal.returns
returns c = elim [
  | Library ↦ (0, lit< tt, refl)
  | Face ↦ (1, lit< tt, refl)
  | Hints ↦ (2, lit< tt, refl)
  | Bitmaps ↦ (3, lit< tt, refl)
]
