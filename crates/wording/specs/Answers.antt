-- What a body is answered, and the record at an offset of an input.
use Rattle.std.specs.Prelude.{◌≡◌, ℕ, List, length, Some, None, Ok, Err, Option, Result, ◌≢◌}
use Rattle.reading.specs.Records.{Frame, Stands, Refused, after}
use Rattle.words.specs.Words.{words, join}
use Rattle.wording.specs.declared.fault.WordingFault.{WordingFault}
use Rattle.wording.specs.declared.fault.WordingFault.TheVariants as fault
use Rattle.wording.specs.declared.issued.IssuedSentence.{IssuedSentence}
use Rattle.grammar.specs.declared.sentence.Sentence.{Sentence}
use Rattle.grammar.specs.Sentences.{Within, written, Spells, Says, NoSentence, spell}
use Rattle.wording.specs.Ranges.{range, Exceeds}

-- the body is a sentence, and p is the place of the first word whose number is too large
pub record OutOfRange (bs : List ℕ) (p : ℕ) : Type 0 where
  pub says : Says (words bs)
  pub exceeds : Exceeds bs p

-- the answer to a body: its sentence, or why and where there is none
abbrev pub Answers : List ℕ → Result Sentence WordingFault → Type 0
Answers bs (Ok s) = Spells range bs s
Answers bs (Err (fault.Reading f)) = ⊥
Answers bs (Err (fault.Sentence p)) = NoSentence bs p
Answers bs (Err (fault.Range p)) = OutOfRange bs p

-- what holds of all bodies and sentences
pub record Laws : Type 0 where
  -- the words joined by single spaces are the body again
  pub joined : (bs : List ℕ) → join (words bs) ≡ bs
  -- the table has what sentences spell, and nothing else
  pub spelled : (s : Sentence) → Within written s → Says (spell s)
  pub sentence : (ws : List (List ℕ)) → Says ws → (s : Sentence) × Within written s × (ws ≡ spell s)
  -- no two sentences are spelled alike
  pub distinct : (s t : Sentence) → Within written s → Within written t → spell s ≡ spell t → s ≡ t
  -- a body that is refused as no sentence is spelled by none
  pub refused : (bs : List ℕ) (p : ℕ) → NoSentence bs p → (s : Sentence) → Within written s → words bs ≢ spell s
  -- a refusal has one place
  pub place : (bs : List ℕ) (p q : ℕ) → NoSentence bs p → NoSentence bs q → p ≡ q
  pub large : (bs : List ℕ) (p q : ℕ) → Exceeds bs p → Exceeds bs q → p ≡ q
  -- a sentence that is spelled is read back
  pub back : (s : Sentence) → Within range s → Answers (join (spell s)) (Ok s)
  -- a body has one answer
  pub one : (bs : List ℕ) (q r : Result Sentence WordingFault) → Answers bs q → Answers bs r → q ≡ r

pub record Parsed (bs : List ℕ) (r : Result Sentence WordingFault) : Type 0 where
  pub answer : Answers bs r
  pub only : (q : Result Sentence WordingFault) → Answers bs q → q ≡ r
  pub laws : Laws

-- a record stands at the offset, and its body says the sentence
pub record IssuedAt (bs : List ℕ) (at : ℕ) (i : IssuedSentence) : Type 0 where
  pub frame : Frame
  pub stands : Stands bs at frame
  pub issuer : i.issuer ≡ frame.issuer
  pub next : i.next ≡ after at frame
  pub says : Answers frame.body (Ok i.sentence)

-- a record stands at the offset, and its body is refused
pub record BodyRefused (bs : List ℕ) (at : ℕ) (f : WordingFault) : Type 0 where
  pub frame : Frame
  pub stands : Stands bs at frame
  pub refuses : Answers frame.body (Err f)

-- the answer at an offset: nothing at the end, a sentence with its issuer, or the first refusal
abbrev pub AnswersAt : List ℕ → ℕ → Result (Option IssuedSentence) WordingFault → Type 0
AnswersAt bs at (Ok None) = at ≡ length bs
AnswersAt bs at (Ok (Some i)) = IssuedAt bs at i
AnswersAt bs at (Err (fault.Reading f)) = Refused bs at f
AnswersAt bs at (Err (fault.Sentence p)) = BodyRefused bs at (fault.Sentence p)
AnswersAt bs at (Err (fault.Range p)) = BodyRefused bs at (fault.Range p)
