-- The sentences: the words that each command's sentences have in turn.
use Rattle.std.specs.Prelude.{◌≡◌, ℕ, ◌+◌, ◌≤◌, Bool, true, false, ◌⊎◌, List, [], ◌∷◌, ◌++◌, length, codes}
use Rattle.model.specs.declared.kind.Kind.{Kind}
use Rattle.model.specs.declared.kind.Kind.TheVariants as kind
use Rattle.model.specs.declared.principal.Principal.{Principal}
use Rattle.model.specs.declared.principal.Principal.TheVariants as principal
use Rattle.model.specs.declared.privilege.Privilege.{Privilege}
use Rattle.model.specs.declared.privilege.Privilege.TheVariants as privilege
use Rattle.words.specs.Words.{words, digits, index, principal_word, object_word, Numeral, PrincipalWord, ObjectWord}
use Rattle.grammar.specs.declared.sentence.Restriction.TheVariants as restriction
use Rattle.grammar.specs.declared.sentence.Command.{Command}
use Rattle.grammar.specs.declared.sentence.Command.TheVariants as command
use Rattle.grammar.specs.declared.sentence.Sentence.{Sentence}
use Rattle.grammar.specs.declared.sentence.Sentence.TheVariants as sentence

abbrev pub privilege_word : Privilege → List ℕ
privilege_word privilege.Read = codes "read"
privilege_word privilege.Draw = codes "draw"
privilege_word privilege.Hint = codes "hint"
privilege_word privilege.Proof = codes "proof"
privilege_word privilege.Build = codes "build"
privilege_word privilege.Export = codes "export"
privilege_word privilege.Rename = codes "rename"
privilege_word privilege.Drop = codes "drop"

abbrev pub kind_word : Kind → List ℕ
kind_word kind.Library = codes "library"
kind_word kind.Face = codes "face"
kind_word kind.Hints = codes "hints"
kind_word kind.Bitmaps = codes "bitmaps"

-- what may stand at a place of a sentence
pub data Slot : Type 0 where
  word : List ℕ → Slot
  a_role : Slot
  a_user : Slot
  a_principal : Slot
  an_object : Slot
  a_number : Slot
  a_privilege : Slot
  a_kind : Slot

abbrev pub Fits : Slot → List ℕ → Type 0
Fits (word k) w = w ≡ k
Fits a_role w = (n : ℕ) × (n ≤ 99) × (w ≡ principal_word (principal.Role n))
Fits a_user w = (n : ℕ) × (n ≤ 99) × (w ≡ principal_word (principal.User n))
Fits a_principal w = PrincipalWord w
Fits an_object w = ObjectWord w
Fits a_number w = Numeral w
Fits a_privilege w = (p : Privilege) × (w ≡ privilege_word p)
Fits a_kind w = (k : Kind) × (w ≡ kind_word k)

-- the table: a sentence has its command's first word, then the rest, then the tail or nothing
abbrev pub first : Command → List ℕ
first command.Role = codes "ROLE"
first command.Object = codes "OBJECT"
first command.Link = codes "LINK"
first command.Cut = codes "CUT"
first command.Grant = codes "GRANT"
first (command.Restrict restriction.Taint) = codes "TAINT"
first (command.Restrict restriction.Suspend) = codes "SUSPEND"
first (command.Restrict restriction.Deny) = codes "DENY"
first command.Revoke = codes "REVOKE"
first command.Check = codes "CHECK"

abbrev pub pair_slots : List ℕ → List Slot
pair_slots k = a_role ∷ word k ∷ a_principal ∷ []

abbrev pub right_slots : List ℕ → List Slot
right_slots k = a_privilege ∷ word (codes "ON") ∷ an_object ∷ word k ∷ a_principal ∷ []

abbrev pub rest : Command → List Slot
rest command.Role = a_role ∷ word (codes "LEVEL") ∷ a_number ∷ []
rest command.Object = an_object ∷ word (codes "TYPE") ∷ a_kind ∷ word (codes "OWNER") ∷ a_user ∷ []
rest command.Link = pair_slots (codes "TO")
rest command.Cut = pair_slots (codes "FROM")
rest command.Grant = right_slots (codes "TO")
rest (command.Restrict r) = right_slots (codes "TO")
rest command.Revoke = right_slots (codes "FROM")
rest command.Check = right_slots (codes "FOR")

abbrev pub option_tail : List Slot
option_tail = word (codes "OPTION") ∷ []

abbrev pub neutral_tail : List Slot
neutral_tail = word (codes "NEUT") ∷ word (codes "ORNT") ∷ []

abbrev pub tail : Command → List Slot
tail command.Role = []
tail command.Object = []
tail command.Link = []
tail command.Cut = []
tail command.Grant = option_tail
tail (command.Restrict r) = neutral_tail
tail command.Revoke = []
tail command.Check = []

abbrev pub short : Command → List Slot
short k = word (first k) ∷ rest k

abbrev pub long : Command → List Slot
long k = word (first k) ∷ (rest k ++ tail k)

-- the words are the first words of such a sentence
abbrev pub Front : List Slot → List (List ℕ) → Type 0
Front ss [] = Unit {0}
Front [] (w ∷ ws) = ⊥
Front (s ∷ ss) (w ∷ ws) = Fits s w × Front ss ws

-- the words are such a sentence
abbrev pub Whole : List Slot → List (List ℕ) → Type 0
Whole [] [] = Unit {0}
Whole [] (w ∷ ws) = ⊥
Whole (s ∷ ss) [] = ⊥
Whole (s ∷ ss) (w ∷ ws) = Fits s w × Whole ss ws

-- some sentence begins with the words
abbrev pub Starts : List (List ℕ) → Type 0
Starts ws = (k : Command) × Front (long k) ws

-- the words are a sentence of the table
abbrev pub Says : List (List ℕ) → Type 0
Says ws = (k : Command) × (Whole (short k) ws ⊎ Whole (long k) ws)

-- where the word after these words begins
abbrev pub offset : List (List ℕ) → ℕ
offset [] = 0
offset (w ∷ ws) = length w + 1 + offset ws

-- after the words before, no sentence has the next one, or the words end early
abbrev pub Stops : List (List ℕ) → List (List ℕ) → ℕ → ℕ → Type 0
Stops before [] len p = (Says before → ⊥) × (p ≡ len)
Stops before (w ∷ ws) len p = (Starts (before ++ (w ∷ [])) → ⊥) × (p ≡ offset before)

-- the body is no sentence, and p is the place of the first word that no sentence has there
pub record NoSentence (bs : List ℕ) (p : ℕ) : Type 0 where
  pub before : List (List ℕ)
  pub after : List (List ℕ)
  pub cut : words bs ≡ before ++ after
  pub starts : Starts before
  pub stops : Stops before after (length bs) p

-- the words of a sentence, by its parts
abbrev pub option_words : Bool → List (List ℕ)
option_words true = codes "OPTION" ∷ []
option_words false = []

abbrev pub neutral_words : Bool → List (List ℕ)
neutral_words true = codes "NEUT" ∷ codes "ORNT" ∷ []
neutral_words false = []

abbrev pub right_words : Privilege → ℕ → List ℕ → Principal → List (List ℕ) → List (List ℕ)
right_words p o k q ws = privilege_word p ∷ codes "ON" ∷ object_word o ∷ k ∷ principal_word q ∷ ws

-- the words of a sentence
abbrev pub spell : Sentence → List (List ℕ)
spell (sentence.Role r n) = codes "ROLE" ∷ principal_word (principal.Role r) ∷ codes "LEVEL" ∷ digits n ∷ []
spell (sentence.Object o t u) = codes "OBJECT" ∷ object_word o ∷ codes "TYPE" ∷ kind_word t ∷ codes "OWNER" ∷ principal_word (principal.User u) ∷ []
spell (sentence.Link r q) = codes "LINK" ∷ principal_word (principal.Role r) ∷ codes "TO" ∷ principal_word q ∷ []
spell (sentence.Cut r q) = codes "CUT" ∷ principal_word (principal.Role r) ∷ codes "FROM" ∷ principal_word q ∷ []
spell (sentence.Grant p o q b) = codes "GRANT" ∷ right_words p o (codes "TO") q (option_words b)
spell (sentence.Restrict r p o q b) = first (command.Restrict r) ∷ right_words p o (codes "TO") q (neutral_words b)
spell (sentence.Revoke p o q) = codes "REVOKE" ∷ right_words p o (codes "FROM") q []
spell (sentence.Check p o q) = codes "CHECK" ∷ right_words p o (codes "FOR") q []

-- the largest number of a user or role, of an object, and of a level
pub record Limits : Type 0 where
  pub principal : ℕ
  pub object : ℕ
  pub level : ℕ

-- what one or two digits can write
abbrev pub written : Limits
written = record { principal = 99; object = 99; level = 99 }

abbrev pub Within : Limits → Sentence → Type 0
Within l (sentence.Role r n) = (r ≤ l.principal) × (n ≤ l.level)
Within l (sentence.Object o t u) = (o ≤ l.object) × (u ≤ l.principal)
Within l (sentence.Link r q) = (r ≤ l.principal) × (index q ≤ l.principal)
Within l (sentence.Cut r q) = (r ≤ l.principal) × (index q ≤ l.principal)
Within l (sentence.Grant p o q b) = (o ≤ l.object) × (index q ≤ l.principal)
Within l (sentence.Restrict r p o q b) = (o ≤ l.object) × (index q ≤ l.principal)
Within l (sentence.Revoke p o q) = (o ≤ l.object) × (index q ≤ l.principal)
Within l (sentence.Check p o q) = (o ≤ l.object) × (index q ≤ l.principal)

-- the body spells the sentence, whose numbers are within the limits
pub record Spells (l : Limits) (bs : List ℕ) (s : Sentence) : Type 0 where
  pub within : Within l s
  pub spelled : words bs ≡ spell s
