-- How a line begins: with the issuer, up to the first space.
use Rattle.std.proofs.Common.{◌≡◌, ℕ, ◌+◌, ◌/◌, ◌%◌, ◌≤◌, eqb, List, [], ◌∷◌, ◌++◌, length, get_or, take, drop, Some, decimal, sym, refl, ap, ◌∙◌, subst, inl, inr, append_assoc, arith}
use Rattle.std.proofs.lemmas.Fmt.{decimal_digit, decimal_injective, decimal_step}
use Rattle.std.proofs.lemmas.Bool.{cases_lt}
use Rattle.std.proofs.lemmas.Bool.Decides.{nat_tests}
use Rattle.std.proofs.lemmas.List.{take_at, drop_at, drop_more, take-append-drop}
use Rattle.std.proofs.lemmas.List.Quantifiers.{position-Some}
use Rattle.std.specs.List.{position}
use Rattle.words.specs.Words.{digits}
use Rattle.notation.specs.Shown.{head}

two_digits : (n : ℕ) → 10 ≤ n → n ≤ 99 → decimal n ≡ (48 + n / 10) ∷ ((48 + n % 10) ∷ [])
two_digits n l m = decimal_step n l (omega arith) ∙ ap (λ d. d ++ ((48 + n % 10) ∷ [])) (decimal_digit (n / 10) (omega arith))

-- a number is shown as words write it
pub shown_as_word : (n : ℕ) → n ≤ 99 → decimal n ≡ digits n
shown_as_word n m =
    elim (cases_lt n 10) [
      | inl l ↦ (let d = decimal_digit n l in grind (arith, nat_tests))
      | inr l ↦ (let d = two_digits n l m in grind (arith, nat_tests))
    ]

-- the first space stands behind the number
space_at : (n : ℕ) (text : List ℕ) → n ≤ 99 → position (λ b. eqb b 32) (decimal n ++ (32 ∷ text)) ≡ Some (length (decimal n))
space_at n text m =
    elim (cases_lt n 10) [
      | inl l ↦ subst (λ d. position (λ b. eqb b 32) (d ++ (32 ∷ text)) ≡ Some (length d)) (sym (decimal_digit n l)) (grind (arith, nat_tests))
      | inr l ↦ subst (λ d. position (λ b. eqb b 32) (d ++ (32 ∷ text)) ≡ Some (length d)) (sym (two_digits n l m)) (grind (arith, nat_tests))
    ]

-- what follows the letter
behind_letter : (rest : List ℕ) (n : ℕ) (text : List ℕ) → 117 ∷ rest ≡ head n ++ text → rest ≡ decimal n ++ (32 ∷ text)
behind_letter rest n text e =
    let t : rest ≡ (decimal n ++ (32 ∷ [])) ++ text = cc in
    t ∙ append_assoc (decimal n) (32 ∷ []) text

pub spaced : (rest : List ℕ) (n : ℕ) (text : List ℕ) → n ≤ 99 → 117 ∷ rest ≡ head n ++ text → position (λ b. eqb b 32) rest ≡ Some (length (decimal n))
spaced rest n text m e = ap (position (λ b. eqb b 32)) (behind_letter rest n text e) ∙ space_at n text m

-- no number of a user is longer than two digits: its space stands among three bytes
pub spaced_soon : (rest : List ℕ) (n : ℕ) (text : List ℕ) → n ≤ 99 → 117 ∷ rest ≡ head n ++ text → position (λ b. eqb b 32) (take 3 rest) ≡ Some (length (decimal n))
spaced_soon rest n text m e =
    subst (λ r. position (λ b. eqb b 32) (take 3 r) ≡ Some (length (decimal n))) (sym (behind_letter rest n text e)) (elim (cases_lt n 10) [
      | inl l ↦ subst (λ d. position (λ b. eqb b 32) (take 3 (d ++ (32 ∷ text))) ≡ Some (length d)) (sym (decimal_digit n l)) (grind (arith, nat_tests))
      | inr l ↦ subst (λ d. position (λ b. eqb b 32) (take 3 (d ++ (32 ∷ text))) ≡ Some (length d)) (sym (two_digits n l m)) (grind (arith, nat_tests))
    ])

-- a space that is found so is the first of all
pub soon_first : (rest : List ℕ) (space : ℕ) → position (λ b. eqb b 32) (take 3 rest) ≡ Some space → position (λ b. eqb b 32) rest ≡ Some space
soon_first [] space p = p
soon_first (a ∷ []) space p = p
soon_first (a ∷ b ∷ []) space p = p
soon_first (a ∷ b ∷ c ∷ rest) space p = grind (arith, nat_tests)

-- the number stands before the first space
pub number_at : (rest : List ℕ) (space n : ℕ) (text : List ℕ) → position (λ b. eqb b 32) rest ≡ Some space → n ≤ 99 → 117 ∷ rest ≡ head n ++ text → (take space rest ≡ decimal n) × (drop space rest ≡ 32 ∷ text)
number_at rest space n text p m e =
    let is = behind_letter rest n text e in
    let found = spaced rest n text m e in
    let at : length (decimal n) ≡ space = cc in
    (ap (take space) is ∙ take_at (decimal n) (32 ∷ text) space at, ap (drop space) is ∙ drop_at (decimal n) (32 ∷ text) space at)

-- a word of digits and a space are a head
pub heads : (rest : List ℕ) (space n : ℕ) → position (λ b. eqb b 32) rest ≡ Some space → n ≤ 99 → take space rest ≡ digits n → 117 ∷ rest ≡ head n ++ drop (space + 1) rest
heads rest space n p m w =
    let f = position-Some (λ b. eqb b 32) rest space 0 p in
    let b : get_or rest space 0 ≡ 32 = grind (arith, nat_tests) in
    let tail : drop space rest ≡ 32 ∷ drop (space + 1) rest = drop_more rest space 0 f.0 ∙ ap (λ x. x ∷ drop (space + 1) rest) b in
    let front : take space rest ≡ decimal n = w ∙ sym (shown_as_word n m) in
    let all : rest ≡ decimal n ++ (32 ∷ drop (space + 1) rest) = sym (take-append-drop space rest) ∙ ap (λ t. t ++ drop space rest) front ∙ ap (λ t. decimal n ++ t) tail in
    ap (λ t. 117 ∷ t) (all ∙ sym (append_assoc (decimal n) (32 ∷ []) (drop (space + 1) rest)))

-- the issuer and what follows it are known by the line
pub same_head : (m n : ℕ) (xs ys : List ℕ) → m ≤ 63 → n ≤ 63 → head m ++ xs ≡ head n ++ ys → (m ≡ n) × (xs ≡ ys)
same_head m n xs ys k l e =
    let p = space_at m xs (omega arith) in
    let is : decimal m ++ (32 ∷ xs) ≡ (decimal m ++ (32 ∷ [])) ++ xs = sym (append_assoc (decimal m) (32 ∷ []) xs) in
    let r = number_at (decimal m ++ (32 ∷ xs)) (length (decimal m)) n ys p (omega arith) (ap (λ t. 117 ∷ t) is ∙ e) in
    let same : decimal m ≡ decimal n = sym (take_at (decimal m) (32 ∷ xs) (length (decimal m)) refl) ∙ r.0 in
    let after : 32 ∷ xs ≡ 32 ∷ ys = sym (drop_at (decimal m) (32 ∷ xs) (length (decimal m)) refl) ∙ r.1 in
    let t : xs ≡ ys = cc in
    (decimal_injective m n (omega arith) (omega arith) same, t)
