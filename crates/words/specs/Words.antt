-- The words of a body, and how numbers, principals and objects are written.
use Rattle.std.specs.Prelude.{◌≡◌, ℕ, zero, suc, ◌+◌, ◌/◌, ◌%◌, ◌≤◌, if◌then◌else◌, List, [], ◌∷◌, length, ◌==◌, nat_lt}
use Rattle.std.specs.List.{slice_split, join_with_byte}
use Rattle.model.specs.declared.principal.Principal.{Principal}
use Rattle.model.specs.declared.principal.Principal.TheVariants.{User, Role}
use Rattle.words.specs.declared.token.Token.{Token}
use Rattle.words.specs.declared.token.Token.TheVariants as token

-- a number of one or two digits in base ten, with no leading zero
abbrev pub digits : ℕ → List ℕ
digits n = if nat_lt n 10 then (48 + n) ∷ [] else (48 + n / 10) ∷ (48 + n % 10) ∷ []

abbrev pub Numeral : List ℕ → Type 0
Numeral w = (n : ℕ) × (n ≤ 99) × (w ≡ digits n)

-- the number of a user or a role
abbrev pub index : Principal → ℕ
index (User n) = n
index (Role n) = n

-- the letter u or r, and the number
abbrev pub principal_word : Principal → List ℕ
principal_word (User n) = 117 ∷ digits n
principal_word (Role n) = 114 ∷ digits n

abbrev pub PrincipalWord : List ℕ → Type 0
PrincipalWord w = (q : Principal) × (index q ≤ 99) × (w ≡ principal_word q)

-- the letter o, and the number
abbrev pub object_word : ℕ → List ℕ
object_word n = 111 ∷ digits n

abbrev pub ObjectWord : List ℕ → Type 0
ObjectWord w = (n : ℕ) × (n ≤ 99) × (w ≡ object_word n)

-- the token is the word w, which stands at an offset
abbrev pub Tells : List ℕ → ℕ → Token → Type 0
Tells w at (token.Keyword s o) = (s.now ≡ w) × (o ≡ at) × (PrincipalWord w → ⊥) × (ObjectWord w → ⊥) × (Numeral w → ⊥)
Tells w at (token.Principal s o q) = (s.now ≡ w) × (o ≡ at) × (index q ≤ 99) × (w ≡ principal_word q)
Tells w at (token.Object s o n) = (s.now ≡ w) × (o ≡ at) × (n ≤ 99) × (w ≡ object_word n)
Tells w at (token.Number s o n) = (s.now ≡ w) × (o ≡ at) × (n ≤ 99) × (w ≡ digits n)

-- the words of a body: each space ends one
unfoldable pub words : List ℕ → List (List ℕ)
words bs = slice_split (λ b. b == 32) bs

-- the words from an offset on: none past the end
unfoldable pub words_from : List ℕ → ℕ → List (List ℕ)
words_from bs zero = words bs
words_from [] (suc n) = []
words_from (b ∷ bs) (suc n) = words_from bs n

-- the words with one space between each and the next
abbrev pub join : List (List ℕ) → List ℕ
join ws = join_with_byte 32 ws

abbrev pub text : Token → List ℕ
text (token.Keyword s o) = s.now
text (token.Principal s o q) = s.now
text (token.Object s o n) = s.now
text (token.Number s o n) = s.now

abbrev pub place : Token → ℕ
place (token.Keyword s o) = o
place (token.Principal s o q) = o
place (token.Object s o n) = o
place (token.Number s o n) = o

-- the token is the word at the offset, and the next word begins past the space after it
pub record WordAt (bs : List ℕ) (at : ℕ) (t : Token) : Type 0 where
  pub tells : Tells (text t) at t
  pub stands : place t ≡ at
  pub first : words_from bs at ≡ text t ∷ words_from bs (at + length (text t) + 1)
  pub within : at + length (text t) ≤ length bs
