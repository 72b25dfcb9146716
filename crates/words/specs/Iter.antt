-- The words of a body, one after the other.
use Rattle.std.specs.Prelude.{◌≡◌, ℕ, ◌+◌, List, [], length, Option, Some, None}
use Rattle.words.specs.declared.iter.Words.{Words}
use Rattle.words.specs.declared.token.Token.{Token}
use Rattle.words.specs.Words.{words_from, text, WordAt}

-- the words that are still to come
abbrev pub words_left : Words → List (List ℕ)
words_left s = words_from s.body.now s.at

-- the word at the offset is given and the offset moves past the space after it, or no word is left
abbrev pub GivesWord : Words → Option Token → Words → Type 0
GivesWord old None new = (words_left old ≡ []) × (new ≡ old)
GivesWord old (Some t) new = WordAt old.body.now old.at t × (new ≡ record old { at = old.at + length (text t) + 1 })
