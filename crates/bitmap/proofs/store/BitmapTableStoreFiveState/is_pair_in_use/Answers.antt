use Rattle.std.proofs.Common.{◌&&◌, is_some, ℕ, sym, ap, ◌∙◌}
use Rattle.std.specs.List.{position}
use Rattle.std.proofs.lemmas.Bool.{and_left, and_right}
use Rattle.model.specs.Principals.{in_range, object_in_range}
use Rattle.model.specs.Places.{number}
use Rattle.bitmap.specs.Tables.{row_is_of}
use Rattle.bitmap.proofs.TableLaws.{outside, use_told}
use Rattle.bitmap.proofs.store.BitmapTableStoreFiveState.is_pair_in_use.Goals as goal

pub returns-in_default : goal.returns-in_default
returns-in_default c =
    let a = c.args in
    sym ((outside a.self.now.objects).no_use a.object a.granter a.grantee (and_right (object_in_range a.object) _ (sym c.in_default.ensures'.in_range)))

pub returns-in_default-2 : goal.returns-in_default-2
returns-in_default-2 c =
    let a = c.args in
    sym ((outside a.self.now.objects).no_use a.object a.granter a.grantee (and_left _ (in_range a.granter && in_range a.grantee) (sym c.in_default.ensures.in_range)))

pub returns : goal.returns
returns c =
    let a = c.args in
    let items = c.in-Some-Some.ensures in
    let pair = c.in-Some-Some.ensures' in
    let rows = c.in-Some-Some.items.now.rows in
    c.is_some.ensures
    ∙ ap is_some c.position.ensures
    ∙ ap (λ (g : ℕ). is_some (position (row_is_of g c.in-Some-Some.pair.grantee) rows)) pair.granter
    ∙ ap (λ (e : ℕ). is_some (position (row_is_of (number a.granter) e) rows)) pair.grantee
    ∙ use_told a.self.now.objects a.object (sym items.in_range) c.in-Some-Some.items.now items.rows a.granter a.grantee (sym pair.in_range)
