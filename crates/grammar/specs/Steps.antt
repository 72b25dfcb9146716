-- How a reader goes through a sentence word by word.
use Rattle.std.specs.Prelude.{◌≡◌, ℕ, ◌+◌, ◌≤◌, ◌⊎◌, List, [], ◌∷◌, length, map, Result, MatchResult}
use Rattle.std.specs.Borrow.{Bor}
use Rattle.model.specs.declared.principal.Principal.{Principal}
use Rattle.model.specs.declared.privilege.Privilege.{Privilege}
use Rattle.words.specs.Words.{index}
use Rattle.words.specs.Iter.{words_left}
use Rattle.grammar.specs.declared.phrase.Phrase.{Phrase}
use Rattle.grammar.specs.declared.sentence.Command.{Command}
use Rattle.grammar.specs.declared.sentence.Sentence.{Sentence}
use Rattle.grammar.specs.declared.sentence.Misworded.{Misworded}
use Rattle.grammar.specs.Sentences.{Slot, word, Fits, Within, written, first, rest, tail, spell, offset, right_words}

-- the next word of the old phrase is w, and the new one has what is left after it
pub record Takes (old new : Phrase) (w : List ℕ) : Type 0 where
  pub here : words_left old.words ≡ w ∷ words_left new.words
  pub beyond : new.words.at ≡ old.words.at + length w + 1
  pub same : new.words.body ≡ old.words.body

-- the texts that references lead to
abbrev pub texts : List (Bor (List ℕ)) → List (List ℕ)
texts ws = map (λ w. w.now) ws

-- the slots that have these words
abbrev pub word_slots : List (List ℕ) → List Slot
word_slots ws = map (λ w. word w) ws

-- the first of the words does not fit, or there is none
abbrev pub Lacks : Slot → List (List ℕ) → ℕ → ℕ → ℕ → Type 0
Lacks s [] len at p = p ≡ len
Lacks s (w ∷ ws) len at p = (Fits s w → ⊥) × (p ≡ at)

abbrev pub LacksAt : Slot → Phrase → Misworded → Type 0
LacksAt s x e = Lacks s (words_left x.words) (length x.words.body.now) x.words.at e.at

-- the words, which begin at an offset, go wrong at p where they should have the slots and end
abbrev pub Strays : List Slot → List (List ℕ) → ℕ → ℕ → ℕ → Type 0
Strays [] [] len at p = ⊥
Strays [] (w ∷ ws) len at p = p ≡ at
Strays (s ∷ ss) [] len at p = p ≡ len
Strays (s ∷ ss) (w ∷ ws) len at p = ((Fits s w → ⊥) × (p ≡ at)) ⊎ (Fits s w × Strays ss ws len (at + length w + 1) p)

abbrev pub StraysAt : List Slot → Phrase → Misworded → Type 0
StraysAt ss x e = Strays ss (words_left x.words) (length x.words.body.now) x.words.at e.at

-- the same where they should have the slots, and then the tail or nothing
abbrev pub Errs : List Slot → List Slot → List (List ℕ) → ℕ → ℕ → ℕ → Type 0
Errs [] tail [] len at p = ⊥
Errs [] tail (w ∷ ws) len at p = Strays tail (w ∷ ws) len at p
Errs (s ∷ ss) tail [] len at p = p ≡ len
Errs (s ∷ ss) tail (w ∷ ws) len at p = ((Fits s w → ⊥) × (p ≡ at)) ⊎ (Fits s w × Errs ss tail ws len (at + length w + 1) p)

abbrev pub ErrsAt : List Slot → List Slot → Phrase → Misworded → Type 0
ErrsAt ss tail x e = Errs ss tail (words_left x.words) (length x.words.body.now) x.words.at e.at

-- what a reader of a command's sentences makes of the words after the first
abbrev pub Continues : Command → Phrase → Result Sentence Misworded → Type 0
Continues k x r = MatchResult r (λ s. Within written s × (first k ∷ words_left x.words ≡ spell s)) (ErrsAt (rest k) (tail k) x)

-- the next words of the old phrase name a privilege, an object and a principal, with the word k before the principal,
-- and the new phrase has what is left after them
pub record TakesRight (old new : Phrase) (k : List ℕ) (p : Privilege) (o : ℕ) (q : Principal) : Type 0 where
  pub small : (o ≤ 99) × (index q ≤ 99)
  pub here : words_left old.words ≡ right_words p o k q (words_left new.words)
  pub beyond : new.words.at ≡ old.words.at + offset (right_words p o k q [])
  pub same : new.words.body ≡ old.words.body
