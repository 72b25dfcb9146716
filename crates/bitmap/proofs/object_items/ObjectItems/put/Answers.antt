use Rattle.std.proofs.Common.{List, length, length-set, sym, ap, ◌∙◌, subst}
use Rattle.model.specs.Privileges.{bit}
use Rattle.bitmap.specs.declared.row.Row.{Row}
use Rattle.bitmap.specs.Items.{ItemSet, pair_of}
use Rattle.bitmap.specs.Tables.{items_of, EachValid, EachInRange, OnePerPair}
use Rattle.bitmap.proofs.RowLaws.{set_as, row_item_set, set_each, set_ranged, set_single}
use Rattle.bitmap.proofs.object_items.ObjectItems.put.Goals as goal

pub invariant_of-self : goal.invariant_of-self
invariant_of-self c =
    let a = c.args in
    let was = a.self.now in
    let x = c.given_to-item.result in
    let set = set_as was.rows a.i x a.pair a.privilege a.cell was.sixteen c.requires.item c.item.ensures c.with_cell.ensures.cells c.given_to-item.ensures in
    let is = sym c.put_back.ensures in
    record {
      sixteen = sym (ap length is) ∙ length-set was.rows a.i x.row ∙ was.sixteen;
      valid = subst EachValid is (set_each set was.valid);
      ranged = subst EachInRange is (set_ranged set was.ranged);
      single = subst OnePerPair is (set_single set was.ranged was.single c.requires.room);
    }

pub returns : goal.returns
returns c =
    let a = c.args in
    let was = a.self.now in
    let set = set_as was.rows a.i c.given_to-item.result a.pair a.privilege a.cell was.sixteen c.requires.item c.item.ensures c.with_cell.ensures.cells c.given_to-item.ensures in
    subst (λ (rows : List Row). ItemSet (items_of was.rows) (items_of rows) a.i (pair_of a.pair.granter a.pair.grantee) (bit a.privilege) a.cell) (sym c.put_back.ensures) (row_item_set set)
