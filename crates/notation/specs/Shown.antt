-- How records and refusals are shown as text.
use Rattle.std.specs.Prelude.{◌≡◌, ℕ, ◌+◌, ◌/◌, ◌%◌, ◌<◌, Bool, not, if◌then◌else◌, ◌&&◌, List, [], ◌∷◌, ◌++◌, map, Ok, Err, decimal, Result, ◌==◌, nat_le, nat_lt}
use Rattle.std.specs.List.{flat_map, AllByRecursion}
use Rattle.notation.specs.declared.bodies.Bodies.{Bodies}
use Rattle.notation.specs.declared.bodies.Bodies.TheVariants.{Any, Sentences}
use Rattle.reading.specs.Faults.{number_of, place_of, told}
use Rattle.reading.specs.Records.{Frame}
use Rattle.reading.specs.Cut.{Entry, Sound}
use Rattle.grammar.specs.declared.sentence.Sentence.{Sentence}
use Rattle.wording.specs.Answers.{Answers}
use Rattle.wording.specs.Faults as wording
use Rattle.wording.specs.declared.fault.WordingFault.{WordingFault}
use Rattle.reading.specs.declared.fault.ReadingFault.{ReadingFault}

-- printable ASCII, but for the backslash, stands for itself
abbrev pub plain : ℕ → Bool
plain b = (nat_le 32 b && nat_le b 126) && not (b == 92)

-- the digits 0 to 9 and A to F
abbrev pub hex : ℕ → ℕ
hex d = if nat_lt d 10 then 48 + d else 55 + d

-- a byte, or its escape: \x0A
abbrev pub shown : ℕ → List ℕ
shown b = if plain b then b ∷ [] else 92 ∷ (120 ∷ (hex (b / 16) ∷ (hex (b % 16) ∷ [])))

-- u0 and a space
abbrev pub head : ℕ → List ℕ
head n = 117 ∷ (decimal n ++ (32 ∷ []))

-- u0 ROLE r0 LEVEL 2
abbrev pub line : Frame → List ℕ
line f = head f.issuer ++ flat_map shown f.body

-- behind a body that is no sentence, a tab and why
abbrev pub remark : Result Sentence WordingFault → List ℕ
remark (Ok s) = []
remark (Err k) = 9 ∷ wording.shown k

abbrev pub ended : List ℕ → List ℕ
ended l = l ++ (10 ∷ [])

-- an entry of an input, with the remark behind it
pub record Item : Type 0 where
  pub entry : Entry
  pub remark : List ℕ

-- the remark is the one that the body's wording is answered; a fault has none
abbrev pub RemarkOn : List ℕ → List ℕ → Type 0
RemarkOn body m = (r : Result Sentence WordingFault) × (Answers body r × (m ≡ remark r))

abbrev pub Remarked : Result Frame ReadingFault → List ℕ → Type 0
Remarked (Ok f) m = RemarkOn f.body m
Remarked (Err k) m = m ≡ []

abbrev pub RightlyRemarked : Item → Type 0
RightlyRemarked x = Remarked x.entry.what x.remark

abbrev pub shown_entry : Result Frame ReadingFault → List ℕ → List ℕ
shown_entry (Ok f) m = ended (line f ++ m)
shown_entry (Err k) m = ended (told (number_of k) (place_of k))

-- a line for each record, and one for the fault that ends them
abbrev pub listed : List Item → List ℕ
listed xs = flat_map (λ x. shown_entry x.entry.what x.remark) xs

abbrev pub entries_of : List Item → List Entry
entries_of xs = map (λ x. x.entry) xs

abbrev pub Byte : ℕ → Type 0
Byte b = b < 256

-- a record that has a line
pub record Statable (f : Frame) : Type 0 where
  pub sound : Sound f
  pub bytes : AllByRecursion Byte f.body

-- which bodies are composed: any, or sentences only
abbrev pub Passes : Bodies → List ℕ → Type 0
Passes Any body = Unit {0}
Passes Sentences body = (s : Sentence) × Answers body (Ok s)
