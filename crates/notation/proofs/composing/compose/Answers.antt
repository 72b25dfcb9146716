-- Each step of the loop is given the next part of the text.
use Rattle.std.proofs.Common.{◌≡◌, ◌+◌, ◌<◌, eqb, get_or, length, vec_items, rules, subst, sym, ◌∙◌, tests}
use Rattle.std.proofs.lemmas.Iterator.Consumers.{YieldsList-from_enumerate, YieldsList-turn, YieldsList-end}
use Rattle.std.proofs.lemmas.Iterator.Splits.{YieldsList-from_slice_split}
use Rattle.std.proofs.lemmas.List.{length_push}
use Rattle.std.proofs.lemmas.List.FromFn.{length-enumerate_from}
use Rattle.notation.specs.Adding.{Taken, NotTaken}
use Rattle.notation.specs.Results.{Unstated}
use Rattle.notation.proofs.ComposeLaws.{Going, part_at, next, stop, finish}
use Rattle.notation.proofs.Splitting.{parts}
use Rattle.notation.proofs.composing.compose.Goals as goal
use Rattle.notation.proofs.composing.compose.Goals.{In-Some}

-- the part that a step is given
given : (c : In-Some) → (length c.loop-before.yielded < length (parts c.args.text.now)) × ((c.in-Some.before ≡ length c.loop-before.yielded) × (c.in-Some.line.now ≡ get_or (parts c.args.text.now) (length c.loop-before.yielded) c.in-Some.line.now))
given c =
    let text = c.args.text.now in
    let all = YieldsList-from_enumerate (YieldsList-from_slice_split _ (λ b. eqb b 10) text (cc) (cc) (cc) (λ x b q k. search (rules, tests))) (cc) in
    let t = YieldsList-turn all c.loop-before.yielded _ c.loop-before.yielded_by _ _ (c.in-Some.before, c.in-Some.line) c.in-Some.is c.next.ensures.steps in
    part_at (parts text) (length c.loop-before.yielded) c.in-Some.before c.in-Some.line.now t

pub loop-before-preserved : goal.loop-before-preserved
loop-before-preserved c =
    let text = c.args.text.now in
    let n = length c.loop-before.yielded in
    let was = vec_items c.loop-before.out in
    let out = vec_items c.take_line.new.out in
    let p = given (goal.at.loop-before-preserved c).In-Some in
    let taken = subst (λ l. Taken c.args.bodies l was out) c.statement.ensures c.in-Ok.ensures in
    subst (λ k. Going c.args.bodies (parts text) k out) (sym (length_push c.loop-before.yielded (c.in-Some.before, c.in-Some.line)))
    (next c.args.bodies text n was c.loop-before.invariant c.in-Some.line.now p.0 p.1.1 out taken)

pub returns-in-Err-Unstated : goal.returns-in-Err-Unstated
returns-in-Err-Unstated c =
    let text = c.args.text.now in
    let n = length c.loop-before.yielded in
    let was = vec_items c.loop-before.out in
    let p = given (goal.at.returns-in-Err-Unstated c).In-Some in
    let not_taken = subst (NotTaken c.args.bodies) c.statement.ensures (c.in-Err-Unstated.ensures c.in-Err-Unstated.field-0-is) in
    subst (λ k. Unstated c.args.bodies text (k + 1)) (sym p.1.0) (stop c.args.bodies text n was c.loop-before.invariant c.in-Some.line.now p.0 p.1.1 not_taken)

-- `all` again and not a lemma with `given`: a lemma for both has to name the iterator's type, and is longer
pub returns : goal.returns
returns c =
    let text = c.args.text.now in
    let all = YieldsList-from_enumerate (YieldsList-from_slice_split _ (λ b. eqb b 10) text (cc) (cc) (cc) (λ x b q k. search (rules, tests))) (cc) in
    let t = YieldsList-end all c.loop-before.yielded _ c.loop-before.yielded_by _ _ c.in-None.is c.next.ensures.steps in
    finish c.args.bodies text (length c.loop-before.yielded) (vec_items c.loop-before.out) c.loop-before.invariant (t.1 ∙ length-enumerate_from 0 (parts text))
