use Rattle.std.proofs.Common.{sym, ◌∙◌}
use Rattle.std.proofs.lemmas.Bool.{not-true, not-false}
use Rattle.scales.specs.Five.{five}
use Rattle.model.proofs.Allowing.{allowed_decides}
use Rattle.bitmap.proofs.RowLaws.{five_lawful, items_allowed, asked, pair_found, pair_absent, free_found, none_free}
use Rattle.bitmap.proofs.Writing.{own_room, free_room, written_own, written_free, written_nothing, written_full}
use Rattle.bitmap.proofs.object_items.ObjectItems.write.Goals as goal

pub put-requires-clause-room : goal.put-requires-clause-room
put-requires-clause-room c =
    let a = c.args in
    let w = pair_found a.self.now a.pair c.in-Some.i (sym c.position.ensures ∙ c.in-Some.is) in
    own_room five_lawful (asked a.self.now a.pair a.privilege) c.in-Some.i w.0 w.1

pub returns-in-Some : goal.returns-in-Some
returns-in-Some c =
    let a = c.args in
    let w = pair_found a.self.now a.pair c.in-Some.i (sym c.position.ensures ∙ c.in-Some.is) in
    written_own five_lawful (asked a.self.now a.pair a.privilege) (items_allowed c.put.new.self.rows) w.0 c.put.ensures w.1

pub returns-then-not-is_assigned : goal.returns-then-not-is_assigned
returns-then-not-is_assigned c =
    let a = c.args in
    written_nothing five_lawful (asked a.self.now a.pair a.privilege) a.cell (pair_absent a.self.now a.pair (sym c.position.ensures ∙ c.in_default.is))
    ((allowed_decides five five_lawful a.cell).0 c.requires)
    (not-false _ (sym c.is_assigned.ensures ∙ c.if-not-is_assigned.true))

pub returns-in_default-free : goal.returns-in_default-free
returns-in_default-free c =
    let a = c.args in
    written_full five_lawful (asked a.self.now a.pair a.privilege) a.cell (pair_absent a.self.now a.pair (sym c.position.ensures ∙ c.in_default.is))
    (not-true _ (sym c.is_assigned.ensures ∙ c.if-not-is_assigned.false))
    (none_free a.self.now (sym c.free.ensures ∙ c.in_default-free.is))

pub put-requires-2-clause-room : goal.put-requires-2-clause-room
put-requires-2-clause-room c =
    let a = c.args in
    let w = free_found a.self.now c.in-Some-free.i (sym c.free.ensures ∙ c.in-Some-free.is) in
    free_room five_lawful (asked a.self.now a.pair a.privilege) c.in-Some-free.i w.1 (pair_absent a.self.now a.pair (sym c.position.ensures ∙ c.in_default.is))

pub returns : goal.returns
returns c =
    let a = c.args in
    let w = free_found a.self.now c.in-Some-free.i (sym c.free.ensures ∙ c.in-Some-free.is) in
    written_free five_lawful (asked a.self.now a.pair a.privilege) (items_allowed c.put-2.new.self.rows) w.0 c.put-2.ensures w.1
    (pair_absent a.self.now a.pair (sym c.position.ensures ∙ c.in_default.is))
