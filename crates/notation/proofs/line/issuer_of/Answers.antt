use Rattle.std.proofs.Common.{◌≡◌, [], ◌∷◌, None, Some, ap, eqb, sym, take, ◌∙◌, arith}
use Rattle.std.proofs.lemmas.Bool.Decides.{Decides-eqb}
use Rattle.std.proofs.lemmas.Fmt.{decimal_injective}
use Rattle.std.proofs.lemmas.List.{take_rest}
use Rattle.std.proofs.lemmas.Slice.Eq.{strip_prefix_is}
use Rattle.std.specs.List.{position}
use Rattle.notation.proofs.Heads.{heads, number_at, shown_as_word, soon_first, spaced_soon}
use Rattle.notation.proofs.line.issuer_of.Goals as goal
use Rattle.notation.proofs.line.issuer_of.Goals.{In_ok-rest, In_ok-space}

-- the letter is read
letter : (c : In_ok-rest) → c.args.line.now ≡ 117 ∷ c.in_ok-rest.rest.now
letter c = strip_prefix_is Decides-eqb c.args.line.now (117 ∷ []) (Some c.in_ok-rest.rest) c.in_ok-rest.ensures.cases

-- a space is found behind it
found : (c : In_ok-space) → position (λ b. eqb b 32) c.in_ok-rest.rest.now ≡ Some c.in_ok-space.space
found c = soon_first c.in_ok-rest.rest.now c.in_ok-space.space (ap (position (λ b. eqb b 32)) (sym c.front.ensures) ∙ sym c.first_of.ensures ∙ c.in_ok-space.was)

pub returns-in_err-space : goal.returns-in_err-space
returns-in_err-space c =
    let at = goal.at.returns-in_err-space c in
    let rest = c.in_ok-rest.rest.now in
    let none : None ≡ position (λ b. eqb b 32) (take 3 rest) = c.in_err-space.ensures ∙ ap (position (λ b. eqb b 32)) c.front.ensures in
    rw c.from_residual-in_err-space.ensures (λ n text m e. let found = spaced_soon rest n text (omega arith) (sym (letter at.In_ok-rest) ∙ e) in cc)

pub returns-in_err-issuer : goal.returns-in_err-issuer
returns-in_err-issuer c =
    let at = goal.at.returns-in_err-issuer c in
    let rest = c.in_ok-rest.rest.now in
    rw c.from_residual-in_err-issuer.ensures (λ n text m e.
    let word = number_at rest c.in_ok-space.space n text (found at.In_ok-space) (omega arith) (sym (letter at.In_ok-rest) ∙ e) in
    c.in_err-issuer.ensures (n, omega arith, word.0 ∙ shown_as_word n (omega arith)))

pub returns-then-issuer-gt63 : goal.returns-then-issuer-gt63
returns-then-issuer-gt63 c = λ n text m e.
    let at = goal.at.returns-then-issuer-gt63 c in
    let rest = c.in_ok-rest.rest.now in
    let read = c.in_ok-issuer.ensures in
    let word = number_at rest c.in_ok-space.space n text (found at.In_ok-space) (omega arith) (sym (letter at.In_ok-rest) ∙ e) in
    let same = decimal_injective c.in_ok-issuer.issuer n (omega arith) (omega arith) (shown_as_word c.in_ok-issuer.issuer read.0 ∙ sym read.1 ∙ word.0) in
    omega arith

pub returns : goal.returns
returns c =
    let at = goal.at.returns c in
    let rest = c.in_ok-rest.rest.now in
    let read = c.in_ok-issuer.ensures in
    (omega arith, simp take_rest (letter at.In_ok-rest ∙ heads rest c.in_ok-space.space c.in_ok-issuer.issuer (found at.In_ok-space) read.0 read.1))
