-- The words of a tail, one after the other.
use Rattle.std.proofs.Common.{◌≡◌, ℕ, List}
use Rattle.words.specs.Iter.{words_left}
use Rattle.grammar.specs.declared.phrase.Phrase.{Phrase}
use Rattle.grammar.specs.declared.sentence.Misworded.{Misworded}
use Rattle.grammar.specs.Steps.{StraysAt, word_slots}

-- what the new phrase makes of the words left is what the old one makes of them all
pub record Ahead (old new : Phrase) (ws left : List (List ℕ)) : Type 0 where
  pub whole : words_left new.words ≡ left → words_left old.words ≡ ws
  pub strays : (e : Misworded) → StraysAt (word_slots left) new e → StraysAt (word_slots ws) old e
