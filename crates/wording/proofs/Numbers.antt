-- What a written number, principal or object was.
use Rattle.std.proofs.Common.{◌≡◌, ℕ, ◌+◌, ◌-◌, ◌*◌, ◌/◌, ◌%◌, ◌≤◌, cond, eqb, ltb, List, [], ◌∷◌, length, get_or, drop, ap, arith}
use Rattle.std.proofs.lemmas.Bool.{cond_both, ltb-true}
use Rattle.model.specs.declared.principal.Principal.{Principal}
use Rattle.model.specs.declared.principal.Principal.TheVariants.{User, Role}
use Rattle.words.specs.Words.{digits, index, principal_word}

abbrev pub number_of : List ℕ → ℕ
number_of w = cond (eqb (length w) 1) (get_or w 0 0 - 48) ((get_or w 0 0 - 48) * 10 + (get_or w 1 0 - 48))

pub number_back : (n : ℕ) → n ≤ 99 → number_of (digits n) ≡ n
number_back n h =
    cond_both (ltb n 10) ((48 + n) ∷ []) ((48 + n / 10) ∷ (48 + n % 10) ∷ []) (λ l. number_of l ≡ n)
    (λ e. omega arith)
    (λ e. omega arith)

-- the number after a letter
abbrev pub index_of : List ℕ → ℕ
index_of w = number_of (drop 1 w)

pub index_back : (q : Principal) → index q ≤ 99 → index_of (principal_word q) ≡ index q
index_back (User n) h = number_back n h
index_back (Role n) h = number_back n h

abbrev pub principal_of : List ℕ → Principal
principal_of w = cond (eqb (get_or w 0 0) 117) (User (index_of w)) (Role (index_of w))

pub principal_back : (q : Principal) → index q ≤ 99 → principal_of (principal_word q) ≡ q
principal_back (User n) h = ap (λ x. User x) (number_back n h)
principal_back (Role n) h = ap (λ x. Role x) (number_back n h)

-- the first digit is a digit
pub digits_first : (n : ℕ) → n ≤ 99 → (48 ≤ get_or (digits n) 0 0) × (get_or (digits n) 0 0 ≤ 57)
digits_first n h =
    cond_both (ltb n 10) ((48 + n) ∷ []) ((48 + n / 10) ∷ (48 + n % 10) ∷ []) (λ l. (48 ≤ get_or l 0 0) × (get_or l 0 0 ≤ 57))
    (λ e. let k = ltb-true n 10 e in (omega arith, omega arith))
    (λ e. (omega arith, omega arith))

pub second_digit : (q : Principal) → index q ≤ 99 → get_or (principal_word q) 1 0 ≤ 57
second_digit (User n) h = (digits_first n h).1
second_digit (Role n) h = (digits_first n h).1
