-- The numbers of a sentence are in range if no word of it has a number that is too large.
use Rattle.std.proofs.Common.{ℕ, ◌<◌, ◌≤◌, refl, inl, inr, arith}
use Rattle.std.specs.List.{AllByRecursion}
use Rattle.model.specs.declared.principal.Principal.{Principal}
use Rattle.model.specs.declared.principal.Principal.TheVariants as principal
use Rattle.words.specs.Words.{digits, index, principal_word, object_word}
use Rattle.grammar.specs.declared.sentence.Sentence.{Sentence}
use Rattle.grammar.specs.declared.sentence.Sentence.TheVariants as sentence
use Rattle.grammar.specs.Sentences.{spell, Within, written}
use Rattle.wording.specs.Ranges.{range, Fine}

principal_in : (q : Principal) → index q ≤ 99 → Fine (principal_word q) → index q ≤ 63
principal_in q s f = let small : 63 < index q → ⊥ = λ h. f (inl (q, h, s, refl)) in omega arith

object_in : (o : ℕ) → o ≤ 99 → Fine (object_word o) → o ≤ 31
object_in o s f = let small : 31 < o → ⊥ = λ h. f (inr (inl (o, h, s, refl))) in omega arith

level_in : (n : ℕ) → n ≤ 99 → Fine (digits n) → n ≤ 7
level_in n s f = let small : 7 < n → ⊥ = λ h. f (inr (inr (n, h, s, refl))) in omega arith

pub in_range : (s : Sentence) → Within written s → AllByRecursion Fine (spell s) → Within range s
in_range (sentence.Role r n) s f = (principal_in (principal.Role r) s.0 f.1.0, level_in n s.1 f.1.1.1.0)
in_range (sentence.Object o t u) s f = (object_in o s.0 f.1.0, principal_in (principal.User u) s.1 f.1.1.1.1.1.0)
in_range (sentence.Link r q) s f = (principal_in (principal.Role r) s.0 f.1.0, principal_in q s.1 f.1.1.1.0)
in_range (sentence.Cut r q) s f = (principal_in (principal.Role r) s.0 f.1.0, principal_in q s.1 f.1.1.1.0)
in_range (sentence.Grant p o q b) s f = (object_in o s.0 f.1.1.1.0, principal_in q s.1 f.1.1.1.1.1.0)
in_range (sentence.Restrict r p o q b) s f = (object_in o s.0 f.1.1.1.0, principal_in q s.1 f.1.1.1.1.1.0)
in_range (sentence.Revoke p o q) s f = (object_in o s.0 f.1.1.1.0, principal_in q s.1 f.1.1.1.1.1.0)
in_range (sentence.Check p o q) s f = (object_in o s.0 f.1.1.1.0, principal_in q s.1 f.1.1.1.1.1.0)

pub widen : (s : Sentence) → Within range s → Within written s
widen (sentence.Role r n) h = (omega arith, omega arith)
widen (sentence.Object o t u) h = (omega arith, omega arith)
widen (sentence.Link r q) h = (omega arith, omega arith)
widen (sentence.Cut r q) h = (omega arith, omega arith)
widen (sentence.Grant p o q b) h = (omega arith, omega arith)
widen (sentence.Restrict r p o q b) h = (omega arith, omega arith)
widen (sentence.Revoke p o q) h = (omega arith, omega arith)
widen (sentence.Check p o q) h = (omega arith, omega arith)
