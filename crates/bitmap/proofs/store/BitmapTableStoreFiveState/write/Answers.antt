use Rattle.std.proofs.Common.{◌≡◌, ℕ, ◌<◌, true, ◌&&◌, length, set, sym, refl, ap, ◌∙◌, arith}
use Rattle.std.proofs.lemmas.Bool.{and_from, ltb-true}
use Rattle.scales.specs.Five.{five}
use Rattle.model.specs.Principals.{in_range, object_in_range}
use Rattle.model.specs.Places.{place_in_range, number}
use Rattle.model.specs.Privileges.{bit}
use Rattle.model.specs.Allowed.{is_allowed}
use Rattle.bitmap.specs.Items.{Written, pair_of}
use Rattle.bitmap.specs.Tables.{items_of}
use Rattle.bitmap.specs.Objects.{rows_of, items_at}
use Rattle.bitmap.proofs.RowLaws.{five_lawful}
use Rattle.bitmap.proofs.Writing.{table_written, table_told}
use Rattle.bitmap.proofs.TableLaws.{items_kept, rows_getD, rows_same, rows_other, pair_read, written_read}
use Rattle.bitmap.proofs.store.BitmapTableStoreFiveState.write.Goals as goal

pub returns : goal.returns
returns c =
    let xs = c.args.self.now.objects in
    let p = c.args.place in
    let o = p.object in
    let k = c.from.result in
    let new = c.write.new.self in
    let here = sym c.is_object.ensures ∙ c.if-not-is_object.false in
    let within : k < length xs = omega (arith, ltb-true o 32 here) in
    let inside : place_in_range p ≡ true = and_from (object_in_range o) (in_range p.granter && in_range p.grantee) here (sym c.in-Some.ensures.in_range) in
    let fine : is_allowed five c.args.cell.now ≡ true = sym c.is_allowed.ensures.value ∙ c.if-not-is_allowed.false in
    let written : Written five (items_at xs o) (items_at (set xs k new) o) (pair_of (number p.granter) (number p.grantee)) (bit p.privilege) c.args.cell.now c.write.result =
    written_read (sym (rows_getD xs k c.index-self-from.result within) ∙ ap (rows_of xs) c.from.ensures) (sym (rows_same xs k new within) ∙ ap (rows_of (set xs k new)) c.from.ensures) (pair_read c.in-Some.ensures.granter c.in-Some.ensures.grantee) refl c.write.ensures in
    let apart : (q : ℕ) → (q ≡ o → ⊥) → items_at (set xs k new) q ≡ items_at xs q = λ q ne. ap items_of (rows_other xs k new q (λ e. ne (e ∙ c.from.ensures))) in
    record {
      told = table_told five five_lawful (items_at xs) (items_at (set xs k new)) p c.args.cell.now c.write.result inside (items_kept xs o) written apart fine;
      cells = table_written five five_lawful (items_at xs) (items_at (set xs k new)) p c.args.cell.now c.write.result inside (items_kept xs o) written apart;
      memory = refl;
    }
