use Rattle.std.proofs.Common.{ℕ, ◌≡◌, subst}
use Rattle.model.specs.Privileges.{bit}
use Rattle.model.specs.declared.privilege.Privilege.{Privilege}
use Rattle.model.specs.declared.cell.Cell.{Cell}
use Rattle.model.proofs.Numbering.{bit_below}
use Rattle.scales.specs.declared.five.FiveState.{FiveState}
use Rattle.bitmap.specs.declared.row.Row.{Row}
use Rattle.bitmap.specs.Layout.{CodeSet, encode}
use Rattle.bitmap.proofs.ItemLaws.{set_valid, set_here, set_others}
use Rattle.bitmap.proofs.item.Item.with_cell.Goals as goal

-- the cell's combination at the privilege's bit
placed : {r t : Row} {k code : ℕ} (p : Privilege) (c : Cell FiveState) → k ≡ bit p → code ≡ encode c → CodeSet r t k code c.option → CodeSet r t (bit p) (encode c) c.option
placed {r} {t} {k} {code} p c ek ec set = subst (λ (n : ℕ). CodeSet r t (bit p) n c.option) ec (subst (λ (n : ℕ). CodeSet r t n code c.option) ek set)

pub invariant_of-result : goal.invariant_of-result
invariant_of-result c =
    let a = c.args in
    let set = placed a.privilege a.cell c.bit.ensures.value c.encoded-code.ensures.value c.with_code.ensures in
    record { valid = set_valid a.self.row c.with_code.result (bit a.privilege) a.cell (bit_below a.privilege) c.requires set a.self.valid }

pub returns-clause-cells : goal.returns-clause-cells
returns-clause-cells c =
    let a = c.args in
    let set = placed a.privilege a.cell c.bit.ensures.value c.encoded-code.ensures.value c.with_code.ensures in
    record {
      here = set_here a.self.row c.with_code.result (bit a.privilege) a.cell (bit_below a.privilege) c.requires set;
      others = set_others a.self.row c.with_code.result (bit a.privilege) a.cell (bit_below a.privilege) c.requires set;
    }
