use Rattle.std.proofs.Common.{refl, ◌∙◌, rules, tests}
use Rattle.std.proofs.lemmas.Iterator.{YieldsList-from_range}
use Rattle.std.proofs.lemmas.Iterator.Search.{any_from_yields_List}
use Rattle.scales.specs.Five.{five}
use Rattle.model.specs.Joining.{joining}
use Rattle.model.specs.Stores.{assigned}
use Rattle.bitmap.specs.Layout.{cell_at}
use Rattle.bitmap.specs.Tables.{row_in_use}
use Rattle.bitmap.proofs.Lists.{any_range}
use Rattle.bitmap.proofs.row.Row.is_in_use.Goals as goal

pub returns : goal.returns
unfolding row_in_use
returns c =
    any_from_yields_List (λ k. assigned (joining five) (cell_at c.args.self.now k).state) _ _ _ c.any.ensures.ran (YieldsList-from_range 0 8 8 refl refl) (λ x b q k. search (rules, tests))
    ∙ any_range 8 (λ k. assigned (joining five) (cell_at c.args.self.now k).state)
