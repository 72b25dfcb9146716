-- What a byte is shown as: how long it is, and that no two bytes are shown alike.
use Rattle.std.proofs.Common.{◌≡◌, ℕ, ◌+◌, ◌*◌, ◌/◌, ◌%◌, ◌≤◌, true, false, List, [], ◌∷◌, ◌++◌, length, sym, refl, ap, ◌∙◌, inl, inr, append_assoc, arith, length-append}
use Rattle.std.proofs.lemmas.Bool.{both_ways, cases_Bool, cond-true, cond-false}
use Rattle.std.proofs.lemmas.Bool.Decides.{nat_tests}
use Rattle.std.specs.List.{flat_map, AllByRecursion}
use Rattle.notation.specs.Shown.{plain, hex, shown, Byte}

abbrev escaped : ℕ → List ℕ
escaped b = 92 ∷ (120 ∷ (hex (b / 16) ∷ (hex (b % 16) ∷ [])))

pub shown_plain : (b : ℕ) → plain b ≡ true → shown b ≡ b ∷ []
shown_plain b p = cond-true (plain b) (b ∷ []) (escaped b) p

pub shown_escaped : (b : ℕ) → plain b ≡ false → shown b ≡ escaped b
shown_escaped b p = cond-false (plain b) (b ∷ []) (escaped b) p

-- no two digits are written alike
pub same_digit : (d e : ℕ) → hex d ≡ hex e → d ≡ e
same_digit d e h = grind (arith, nat_tests)

pub from_digits : (b high low : ℕ) → hex (b / 16) ≡ hex high → hex (b % 16) ≡ hex low → b ≡ 16 * high + low
from_digits b high low x y = let i = same_digit (b / 16) high x in let j = same_digit (b % 16) low y in omega arith

-- no two bytes are shown alike, nor does one begin as another
pub same_shown : (b d : ℕ) (xs ys : List ℕ) → shown b ++ xs ≡ shown d ++ ys → (b ≡ d) × (xs ≡ ys)
same_shown b d xs ys e =
    elim (cases_Bool (plain b)) [
      | inl p ↦ (elim (cases_Bool (plain d)) [
        | inl q ↦ (let h = sym (ap (λ s. s ++ xs) (shown_plain b p)) ∙ e ∙ ap (λ s. s ++ ys) (shown_plain d q) in
            let f : b ≡ d = cc in
            let t : xs ≡ ys = cc in
            (f, t))
        | inr q ↦ (let h = sym (ap (λ s. s ++ xs) (shown_plain b p)) ∙ e ∙ ap (λ s. s ++ ys) (shown_escaped d q) in
            let f : b ≡ 92 = cc in
            absurd (both_ways (plain b) (ap plain f) p))
      ])
      | inr p ↦ (elim (cases_Bool (plain d)) [
        | inl q ↦ (let h = sym (ap (λ s. s ++ xs) (shown_escaped b p)) ∙ e ∙ ap (λ s. s ++ ys) (shown_plain d q) in
            let f : d ≡ 92 = cc in
            absurd (both_ways (plain d) (ap plain f) q))
        | inr q ↦ (let h = sym (ap (λ s. s ++ xs) (shown_escaped b p)) ∙ e ∙ ap (λ s. s ++ ys) (shown_escaped d q) in
            let f : hex (b / 16) ≡ hex (d / 16) = cc in
            let g : hex (b % 16) ≡ hex (d % 16) = cc in
            let t : xs ≡ ys = cc in
            (from_digits b (d / 16) (d % 16) f g ∙ (omega arith), t))
      ])
    ]

some_shown : (b : ℕ) → 1 ≤ length (shown b)
some_shown b =
    elim (cases_Bool (plain b)) [ inl p ↦ (let n = ap length (shown_plain b p) in omega arith) | inr p ↦ (let n = ap length (shown_escaped b p) in omega arith) ]

not_nothing : (b : ℕ) (xs : List ℕ) → [] ≡ shown b ++ xs → ⊥
not_nothing b xs e = let n = ap length e in let k = length-append (shown b) xs in let s = some_shown b in omega arith

-- no two bodies are shown alike
pub same_body : (bs ds : List ℕ) → flat_map shown bs ≡ flat_map shown ds → bs ≡ ds
same_body [] [] e = refl
same_body [] (d ∷ ds) e = absurd (not_nothing d (flat_map shown ds) e)
same_body (b ∷ bs) [] e = absurd (not_nothing b (flat_map shown bs) (sym e))
same_body (b ∷ bs) (d ∷ ds) e =
    let s = same_shown b d (flat_map shown bs) (flat_map shown ds) e in
    ap (λ x. x ∷ bs) s.0 ∙ ap (λ xs. d ∷ xs) (same_body bs ds s.1)

-- a body's text that goes on after what some bytes show goes on with a byte
pub goes_on : (done body : List ℕ) (rest : List ℕ) → AllByRecursion Byte body → (rest ≡ [] → ⊥) → flat_map shown body ≡ flat_map shown done ++ rest
    → (b : ℕ) × (more : List ℕ) × (Byte b × (rest ≡ shown b ++ more))
goes_on [] [] rest k n e = absurd (n (sym e))
goes_on [] (b ∷ bs) rest k n e = (b, flat_map shown bs, (k.0, sym e))
goes_on (d ∷ ds) [] rest k n e = absurd (not_nothing d (flat_map shown ds ++ rest) (e ∙ append_assoc (shown d) (flat_map shown ds) rest))
goes_on (d ∷ ds) (b ∷ bs) rest k n e =
    goes_on ds bs rest k.1 n (same_shown b d (flat_map shown bs) (flat_map shown ds ++ rest) (e ∙ append_assoc (shown d) (flat_map shown ds) rest)).1
