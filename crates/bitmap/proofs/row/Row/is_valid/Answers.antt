use Rattle.std.proofs.Common.{refl, rules, tests}
use Rattle.std.proofs.lemmas.Iterator.{YieldsList-from_range}
use Rattle.std.proofs.lemmas.Iterator.Search.{all_from_yields_List}
use Rattle.bitmap.specs.Layout.{valid_at}
use Rattle.bitmap.proofs.Lists.{all_range}
use Rattle.bitmap.proofs.row.Row.is_valid.Goals as goal

pub returns : goal.returns
returns c =
    all_range 32 (valid_at c.args.self.now) _ (all_from_yields_List (valid_at c.args.self.now) _ _ _ c.all.ensures.ran (YieldsList-from_range 0 32 32 refl refl) (λ x b q k. search (rules, tests)))
