use Rattle.std.proofs.Common.{◌≡◌, length, string_bytes, subst, sym, ◌∙◌}
use Rattle.reading.specs.Records.{Reads, Refused}
use Rattle.notation.proofs.ListLaws.{Progress, record_shown, fault_shown, all_shown}
use Rattle.notation.proofs.listing.listing.Goals as goal

pub loop-entry-preserved-in-Continue-1 : goal.loop-entry-preserved-in-Continue-1
loop-entry-preserved-in-Continue-1 c =
    let input = c.args.input.now in
    let at = c.loop-entry.entry-iterator.at in
    let same = c.loop-entry.invariant.0 in
    let step = rw c.in-Ok.is at c.in-Some.ensures.steps in
    let m = c.in_ok-show_record-in-Ok.ensures in
    let text = string_bytes c.show_record.new.out in
    let read = subst (λ bs. Reads bs at c.in-Ok.record) same step.0 in
    (step.1 ∙ same, subst (λ n. Progress input n text) (sym step.2) (record_shown input at (string_bytes c.loop-entry.out) c.loop-entry.invariant.1 c.in-Ok.record read m.0 m.1.0 text m.1.1))

pub loop-entry-preserved : goal.loop-entry-preserved
loop-entry-preserved c =
    let input = c.args.input.now in
    let at = c.loop-entry.entry-iterator.at in
    let same = c.loop-entry.invariant.0 in
    let step = rw c.in-Err.is at c.in-Some.ensures.steps in
    let text = string_bytes c.writeln.new.self in
    let refused = subst (λ bs. Refused bs at c.in-Err.fault) same step.0 in
    (step.1 ∙ same, subst (λ n. Progress input n text) (sym step.2) (subst (λ bs. Progress input (length bs) text) (sym same) (fault_shown input at (string_bytes c.loop-entry.out) c.loop-entry.invariant.1 c.in-Err.fault refused text c.in_ok-writeln-in-Err.ensures.bytes)))

pub returns : goal.returns
returns c =
    let same = c.loop-entry.invariant.0 in
    let step = rw c.in-None.is at c.next.ensures.steps in
    all_shown c.args.input.now c.loop-entry.entry-iterator.at (string_bytes c.loop-entry.out) c.loop-entry.invariant.1 (subst (λ bs. c.loop-entry.entry-iterator.at ≡ length bs) same step.0)
