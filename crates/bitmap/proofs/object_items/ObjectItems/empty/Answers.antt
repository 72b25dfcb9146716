use Rattle.std.proofs.Common.{replicate, refl, sym, subst}
use Rattle.bitmap.specs.declared.row.Row.{Row}
use Rattle.bitmap.specs.Tables.{EachValid, EachInRange, OnePerPair}
use Rattle.bitmap.proofs.RowLaws.{empty_each, empty_ranged, empty_single}
use Rattle.bitmap.proofs.object_items.ObjectItems.empty.Goals as goal

pub invariant_of-result : goal.invariant_of-result
invariant_of-result c =
    let is = sym c.empty.ensures in
    record {
      sixteen = refl;
      valid = subst (λ (r : Row). EachValid (replicate 16 r)) is empty_each;
      ranged = subst (λ (r : Row). EachInRange (replicate 16 r)) is empty_ranged;
      single = subst (λ (r : Row). OnePerPair (replicate 16 r)) is empty_single;
    }
