use Rattle.std.proofs.Common.{◌≡◌, [], length, vec_items, sym, ap, ◌∙◌, arith}
use Rattle.std.proofs.lemmas.Bool.Decides.{nat_tests}
use Rattle.std.proofs.lemmas.Option.{MatchOption-at_none}
use Rattle.std.proofs.lemmas.Result.{err_from_is_err_and}
use Rattle.notation.proofs.Showing.{goes_on}
use Rattle.notation.proofs.line.body_of.Goals as goal

pub returns-in_err-b : goal.returns-in_err-b
returns-in_err-b c =
    let rest = c.loop-rest.rest.now in
    let p = err_from_is_err_and c.from_residual.result c.from_residual.ensures.1 in
    let more : rest ≡ [] → ⊥ = λ z. (let l = ap length z in grind (arith, nat_tests)) in
    rw p.1 (λ _ body k e.
    let n = goes_on (vec_items c.loop-rest.body) body rest k more (sym e ∙ c.loop-rest.invariant.1) in
    MatchOption-at_none _ _ c.in_err-b.ensures.ok_part c.first_byte.ensures n.0 n.1 n.2.0 n.2.1)
