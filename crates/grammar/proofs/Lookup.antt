-- No two commands begin alike, and no two privileges or types are written alike.
use Rattle.std.proofs.Common.{◌≡◌, ℕ, cond, List, [], ◌∷◌, Option, Some, None, MatchOption, All, Contains, sym, refl, ap, ◌∙◌, subst}
use Rattle.std.specs.Str.{bytes_eq}
use Rattle.model.specs.declared.kind.Kind.{Kind}
use Rattle.model.specs.declared.kind.Kind.TheVariants as kind
use Rattle.model.specs.declared.privilege.Privilege.{Privilege}
use Rattle.model.specs.declared.privilege.Privilege.TheVariants as privilege
use Rattle.grammar.specs.declared.sentence.Restriction.TheVariants as restriction
use Rattle.grammar.specs.declared.sentence.Command.{Command}
use Rattle.grammar.specs.declared.sentence.Command.TheVariants as command
use Rattle.grammar.specs.Sentences.{first, privilege_word, kind_word}

-- the first of the values that is written w, or d
abbrev lookup : {A : Type 0} → (A → List ℕ) → List A → A → List ℕ → A
lookup f [] d w = d
lookup f (x ∷ xs) d w = cond (bytes_eq w (f x)) x (lookup f xs d w)

abbrev pub command_of : List ℕ → Command
command_of = lookup first (command.Object ∷ command.Link ∷ command.Cut ∷ command.Grant ∷ command.Restrict restriction.Taint ∷ command.Restrict restriction.Suspend ∷ command.Restrict restriction.Deny ∷ command.Revoke ∷ command.Check ∷ []) command.Role

pub command_first : (k : Command) → command_of (first k) ≡ k
command_first command.Role = refl
command_first command.Object = refl
command_first command.Link = refl
command_first command.Cut = refl
command_first command.Grant = refl
command_first (command.Restrict restriction.Taint) = refl
command_first (command.Restrict restriction.Suspend) = refl
command_first (command.Restrict restriction.Deny) = refl
command_first command.Revoke = refl
command_first command.Check = refl

pub first_one : (j k : Command) → first j ≡ first k → j ≡ k
first_one j k e = sym (command_first j) ∙ ap command_of e ∙ command_first k

abbrev pub privilege_of : List ℕ → Privilege
privilege_of = lookup privilege_word (privilege.Draw ∷ privilege.Hint ∷ privilege.Proof ∷ privilege.Build ∷ privilege.Export ∷ privilege.Rename ∷ privilege.Drop ∷ []) privilege.Read

pub privilege_back : (p : Privilege) → privilege_of (privilege_word p) ≡ p
privilege_back privilege.Read = refl
privilege_back privilege.Draw = refl
privilege_back privilege.Hint = refl
privilege_back privilege.Proof = refl
privilege_back privilege.Build = refl
privilege_back privilege.Export = refl
privilege_back privilege.Rename = refl
privilege_back privilege.Drop = refl

abbrev pub kind_of : List ℕ → Kind
kind_of = lookup kind_word (kind.Face ∷ kind.Hints ∷ kind.Bitmaps ∷ []) kind.Library

pub kind_back : (t : Kind) → kind_of (kind_word t) ≡ t
kind_back kind.Library = refl
kind_back kind.Face = refl
kind_back kind.Hints = refl
kind_back kind.Bitmaps = refl

-- what holds of each listed value, where every value is listed
pub every : {T : Type 0} (P Q : T → Type 0) (xs : List T) (r : Option T) → ((x : T) → Contains xs x) → MatchOption r (All P xs) Q → MatchOption r ((x : T) → P x) Q
every P Q xs (Some x) f h = h
every P Q xs None f h = λ x. let (k, below, is) = f x in subst P is (h k x below)
