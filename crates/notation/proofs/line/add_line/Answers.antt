use Rattle.std.proofs.Common.{◌≡◌, ℕ, ◌≤◌, List, ◌++◌, length, vec_items, refl, sym, ap, ◌∙◌, subst, arith}
use Rattle.std.proofs.lemmas.Bool.{both_ways}
use Rattle.std.proofs.lemmas.Option.{MatchOption-at_some}
use Rattle.std.proofs.lemmas.Result.{err_from_is_err_and}
use Rattle.reading.specs.Records.{Frame}
use Rattle.notation.specs.Shown.{head, line, Passes, Statable}
use Rattle.notation.proofs.Stating.{same_as_shown, shows_body, unfit_body}
use Rattle.notation.proofs.line.add_line.Goals as goal
use Rattle.notation.proofs.line.add_line.Goals.{In_ok-issuer, In_ok-body}

-- the line begins with the issuer
begins : (c : In_ok-issuer) → (c.in_ok-issuer.issuer ≤ 63) × (c.args.line.now ≡ head c.in_ok-issuer.issuer ++ c.in_ok-issuer.text.now)
begins c = MatchOption-at_some _ _ _ c.in_ok-issuer.ensures.ok_part c.issuer_of.ensures

-- a record of that line has the body that was read
same : (c : In_ok-body) (f : Frame) → Statable f → line f ≡ c.args.line.now → f.body ≡ vec_items c.in_ok-body.body
same c f s e =
    let issued = MatchOption-at_some _ _ _ c.in_ok-issuer.ensures.ok_part c.issuer_of.ensures in
    same_as_shown c.args.line.now c.in_ok-issuer.issuer c.in_ok-issuer.text.now (vec_items c.in_ok-body.body) issued c.in_ok-body.ensures.1 f s e

pub returns-in_err-body : goal.returns-in_err-body
returns-in_err-body c =
    let p = err_from_is_err_and c.from_residual-in_err-body.result c.from_residual-in_err-body.ensures.1 in
    rw (p.1, p.2) (
      λ u f s q e. c.in_err-body.ensures u f.body s.bytes (shows_body c.args.line.now c.in_ok-issuer.issuer c.in_ok-issuer.text.now (begins (goal.at.returns-in_err-body c).In_ok-issuer) f s e).1,
      refl {A = List ℕ},
    )

pub returns-then-not-passes : goal.returns-then-not-passes
returns-then-not-passes c = (
  λ u f s q e.
      let is = same (goal.at.returns-then-not-passes c).In_ok-body f s e in
      both_ways c.passes.result c.if-not-passes.true (c.passes.ensures.1 (subst (Passes c.args.bodies) (is ∙ sym c.deref.ensures.value) q)),
  refl,
)

pub returns-in_err-write : goal.returns-in_err-write
returns-in_err-write c =
    let p = err_from_is_err_and c.from_residual-in_err-write.result c.from_residual-in_err-write.ensures.1 in
    let why = c.in_err-write.ensures.written in
    rw (p.1, p.2) (
      λ u f s q e.
          let is = same (goal.at.returns-in_err-write c).In_ok-body f s e in
          let long = ap length (is ∙ sym c.deref-2.ensures.value) in
          let some = s.sound.some in
          let short = s.sound.short in
          unfit_body c.in_ok-issuer.issuer c.deref-2.result.now c.in_err-write.field-0.0 (begins (goal.at.returns-in_err-write c).In_ok-issuer).0 why.0 u (omega arith) (omega arith),
      why.1,
    )
