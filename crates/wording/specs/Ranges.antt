-- Which numbers a sentence may have.
use Rattle.std.specs.Prelude.{◌≡◌, ℕ, ◌<◌, ◌≤◌, ◌⊎◌, List, ◌∷◌, ◌++◌}
use Rattle.std.specs.List.{AllByRecursion}
use Rattle.model.specs.declared.principal.Principal.{Principal}
use Rattle.words.specs.Words.{words, digits, index, principal_word, object_word}
use Rattle.grammar.specs.Sentences.{Limits, offset}

-- what there is
abbrev pub range : Limits
range = record { principal = 63; object = 31; level = 7 }

-- the word's number is too large for what the word names
abbrev pub TooLarge : List ℕ → Type 0
TooLarge w =
    ((q : Principal) × (range.principal < index q) × (index q ≤ 99) × (w ≡ principal_word q))
    ⊎ (((n : ℕ) × (range.object < n) × (n ≤ 99) × (w ≡ object_word n)) ⊎ ((n : ℕ) × (range.level < n) × (n ≤ 99) × (w ≡ digits n)))

abbrev pub Fine : List ℕ → Type 0
Fine w = TooLarge w → ⊥

-- p is the place of the first word whose number is too large
pub record Exceeds (bs : List ℕ) (p : ℕ) : Type 0 where
  pub before : List (List ℕ)
  pub word : List ℕ
  pub after : List (List ℕ)
  pub cut : words bs ≡ before ++ (word ∷ after)
  pub fine : AllByRecursion Fine before
  pub large : TooLarge word
  pub place : p ≡ offset before
