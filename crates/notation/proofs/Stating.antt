-- The record of a line is known by the line.
use Rattle.std.proofs.Common.{◌≡◌, ℕ, ◌↔◌, IsTrue, Ok, Err, Result, is_ok, length, ◌≤◌, List, [], ◌∷◌, ◌++◌, map, inl, inr, sym, refl, ap, ◌∙◌, arith}
use Rattle.std.proofs.lemmas.Bool.{false≢true}
use Rattle.std.specs.List.{flat_map, AllByRecursion}
use Rattle.reading.specs.Records.{Frame}
use Rattle.reading.proofs.Cuts.{same_frame}
use Rattle.grammar.specs.declared.sentence.Sentence.{Sentence}
use Rattle.wording.specs.Answers.{Answers}
use Rattle.wording.specs.declared.fault.WordingFault.{WordingFault}
use Rattle.reading.specs.Writing.{Unwritable}
use Rattle.reading.specs.declared.writing.WriteFault.{WriteFault}
use Rattle.reading.specs.declared.writing.WriteFault.TheVariants.{Issuer, Length, Memory}
use Rattle.notation.specs.Adding.{of_write}
use Rattle.notation.specs.declared.line.LineFault.TheVariants.{Unstated}
use Rattle.notation.specs.Shown.{head, shown, line, Statable}
use Rattle.notation.proofs.Heads.{same_head}
use Rattle.notation.proofs.Showing.{same_body}

-- the issuer that a line begins with, and what it shows after it
pub shows_body : (l : List ℕ) (n : ℕ) (text : List ℕ) → (n ≤ 63) × (l ≡ head n ++ text) → (f : Frame) → Statable f → line f ≡ l → (f.issuer ≡ n) × (text ≡ flat_map shown f.body)
shows_body l n text h f s e = let k = same_head f.issuer n (flat_map shown f.body) text s.sound.issuer h.0 (e ∙ h.1) in (k.0, sym k.1)

pub same_as_shown : (l : List ℕ) (n : ℕ) (text body : List ℕ) → (n ≤ 63) × (l ≡ head n ++ text) → text ≡ flat_map shown body → (f : Frame) → Statable f → line f ≡ l → f.body ≡ body
same_as_shown l n text body h t f s e = same_body f.body body (sym (shows_body l n text h f s e).1 ∙ t)

-- no two records have one line
pub same_line : (f g : Frame) → Statable f → Statable g → line f ≡ line g → f ≡ g
same_line f g s t e =
    let k = same_head f.issuer g.issuer (flat_map shown f.body) (flat_map shown g.body) s.sound.issuer t.sound.issuer e in
    same_frame f g k.0 (same_body f.body g.body k.1)

pub same_lines : (fs gs : List Frame) → AllByRecursion Statable fs → AllByRecursion Statable gs → map line fs ≡ map line gs → fs ≡ gs
same_lines [] [] s t e = refl
same_lines [] (g ∷ gs) s t e = cc
same_lines (f ∷ fs) [] s t e = cc
same_lines (f ∷ fs) (g ∷ gs) s t e =
    let first : line f ≡ line g = cc in
    let rest : map line fs ≡ map line gs = cc in
    ap (λ x. x ∷ fs) (same_line f g s.0 t.0 first) ∙ ap (λ xs. g ∷ xs) (same_lines fs gs s.1 t.1 rest)

-- a body is a sentence if it is answered one
pub says_sentence : (body : List ℕ) (r : Result Sentence WordingFault) → Answers body r → ((q : Result Sentence WordingFault) → Answers body q → q ≡ r) → IsTrue (is_ok r) ↔ ((s : Sentence) × Answers body (Ok s))
says_sentence body (Ok s) a only = (λ _. (s, a), λ _. refl)
says_sentence body (Err k) a only = (λ t. absurd (false≢true t), λ x. absurd (let same = only (Ok x.0) x.1 in cc))

-- a record that cannot be written has a body of a length that none may have
pub unfit_body : (issuer : ℕ) (body : List ℕ) (w : WriteFault) → issuer ≤ 63 → Unwritable issuer body w → of_write w ≡ Unstated → 1 ≤ length body → length body ≤ 64 → ⊥
unfit_body issuer body Issuer i u e some short = omega arith
unfit_body issuer body Length i (j, inl z) e some short = omega arith
unfit_body issuer body Length i (j, inr z) e some short = omega arith
unfit_body issuer body Memory i u e some short = cc
