-- The words of a sentence in range: none has a space, and none has a number that is too large.
use Rattle.std.proofs.Common.{◌≡◌, ℕ, ◌+◌, ◌/◌, ◌%◌, ◌<◌, ◌≤◌, Bool, true, false, not, ◌&&◌, eqb, ltb, List, [], ◌∷◌, get_or, codes, refl, ap, inl, inr, arith}
use Rattle.std.specs.List.{AllByRecursion}
use Rattle.std.proofs.ByRecursion.{All-weaker}
use Rattle.std.proofs.lemmas.Bool.{and_parts, not-true, eq-eqb, ltb-true, cond_both, both_ways}
use Rattle.model.specs.declared.kind.Kind.{Kind}
use Rattle.model.specs.declared.kind.Kind.TheVariants as kind
use Rattle.model.specs.declared.principal.Principal.{Principal}
use Rattle.model.specs.declared.principal.Principal.TheVariants as principal
use Rattle.model.specs.declared.privilege.Privilege.{Privilege}
use Rattle.model.specs.declared.privilege.Privilege.TheVariants as privilege
use Rattle.words.specs.Words.{words, join, digits, index, principal_word, object_word}
use Rattle.words.proofs.Joins.{Solid, words_join}
use Rattle.grammar.specs.declared.sentence.Restriction.{Restriction}
use Rattle.grammar.specs.declared.sentence.Restriction.TheVariants as restriction
use Rattle.grammar.specs.declared.sentence.Command.TheVariants as command
use Rattle.grammar.specs.declared.sentence.Sentence.{Sentence}
use Rattle.grammar.specs.declared.sentence.Sentence.TheVariants as sentence
use Rattle.grammar.specs.Sentences.{Within, spell, first, right_words, privilege_word, kind_word}
use Rattle.wording.specs.Ranges.{range, Fine}
use Rattle.wording.proofs.Numbers.{number_of, number_back, index_of, index_back, digits_first, second_digit}

abbrev Good : List ℕ → Type 0
Good w = Solid w × Fine w

-- a word that has no space, and no digit among its first two bytes
abbrev no_space : List ℕ → Bool
no_space [] = true
no_space (b ∷ w) = not (eqb b 32) && no_space w

abbrev plain : List ℕ → Bool
plain w = no_space w && (ltb 57 (get_or w 0 0) && ltb 57 (get_or w 1 0))

solid : (w : List ℕ) → no_space w ≡ true → Solid w
solid [] e = tt
solid (b ∷ w) e =
    let p = and_parts (not (eqb b 32)) (no_space w) e in
    (λ q. both_ways (eqb b 32) (not-true (eqb b 32) p.0) (eq-eqb b 32 q), solid w p.1)

letters : (w : List ℕ) → 57 < get_or w 0 0 → 57 < get_or w 1 0 → Fine w
letters w a b (inl (q, h, s, e)) = omega (arith, second_digit q s, ap (λ l. get_or l 1 0) e)
letters w a b (inr (inl (n, h, s, e))) = omega (arith, digits_first n s, ap (λ l. get_or l 1 0) e)
letters w a b (inr (inr (n, h, s, e))) = omega (arith, digits_first n s, ap (λ l. get_or l 0 0) e)

good : (w : List ℕ) → plain w ≡ true → Good w
good w e =
    let p = and_parts (no_space w) (ltb 57 (get_or w 0 0) && ltb 57 (get_or w 1 0)) e in
    let q = and_parts (ltb 57 (get_or w 0 0)) (ltb 57 (get_or w 1 0)) p.1 in
    (solid w p.0, letters w (ltb-true 57 (get_or w 0 0) q.0) (ltb-true 57 (get_or w 1 0) q.1))

plain_privilege : (p : Privilege) → plain (privilege_word p) ≡ true
plain_privilege privilege.Read = refl
plain_privilege privilege.Draw = refl
plain_privilege privilege.Hint = refl
plain_privilege privilege.Proof = refl
plain_privilege privilege.Build = refl
plain_privilege privilege.Export = refl
plain_privilege privilege.Rename = refl
plain_privilege privilege.Drop = refl

plain_kind : (t : Kind) → plain (kind_word t) ≡ true
plain_kind kind.Library = refl
plain_kind kind.Face = refl
plain_kind kind.Hints = refl
plain_kind kind.Bitmaps = refl

plain_restriction : (r : Restriction) → plain (first (command.Restrict r)) ≡ true
plain_restriction restriction.Taint = refl
plain_restriction restriction.Suspend = refl
plain_restriction restriction.Deny = refl

solid_digits : (n : ℕ) → Solid (digits n)
solid_digits n =
    cond_both (ltb n 10) ((48 + n) ∷ []) ((48 + n / 10) ∷ (48 + n % 10) ∷ []) Solid
    (λ e. (λ q. omega arith, tt))
    (λ e. (λ q. omega arith, (λ q. omega arith, tt)))

solid_principal : (q : Principal) → Solid (principal_word q)
solid_principal (principal.User n) = (λ q. omega arith, solid_digits n)
solid_principal (principal.Role n) = (λ q. omega arith, solid_digits n)

letter : (q : Principal) → 114 ≤ get_or (principal_word q) 0 0
letter (principal.User n) = omega arith
letter (principal.Role n) = omega arith

fine_principal : (q : Principal) → index q ≤ 63 → Fine (principal_word q)
fine_principal q k (inl (p, h, s, e)) = omega (arith, index_back q (omega arith), index_back p s, ap index_of e)
fine_principal q k (inr (inl (n, h, s, e))) = omega (arith, letter q, ap (λ l. get_or l 0 0) e)
fine_principal q k (inr (inr (n, h, s, e))) = omega (arith, letter q, digits_first n s, ap (λ l. get_or l 0 0) e)

fine_object : (o : ℕ) → o ≤ 31 → Fine (object_word o)
fine_object o k (inl (p, h, s, e)) = omega (arith, letter p, ap (λ l. get_or l 0 0) e)
fine_object o k (inr (inl (n, h, s, e))) = omega (arith, number_back o (omega arith), number_back n s, ap index_of e)
fine_object o k (inr (inr (n, h, s, e))) = omega (arith, digits_first n s, ap (λ l. get_or l 0 0) e)

fine_level : (m : ℕ) → m ≤ 7 → Fine (digits m)
fine_level m k (inl (p, h, s, e)) = omega (arith, digits_first m (omega arith), letter p, ap (λ l. get_or l 0 0) e)
fine_level m k (inr (inl (n, h, s, e))) = omega (arith, digits_first m (omega arith), ap (λ l. get_or l 0 0) e)
fine_level m k (inr (inr (n, h, s, e))) = omega (arith, number_back m (omega arith), number_back n s, ap number_of e)

good_principal : (q : Principal) → index q ≤ 63 → Good (principal_word q)
good_principal q h = (solid_principal q, fine_principal q h)

good_object : (o : ℕ) → o ≤ 31 → Good (object_word o)
good_object o h = ((λ q. omega arith, solid_digits o), fine_object o h)

good_right : (p : Privilege) (o : ℕ) (k : List ℕ) (q : Principal) (ws : List (List ℕ)) → (o ≤ 31) × (index q ≤ 63) → plain k ≡ true → AllByRecursion Good ws → AllByRecursion Good (right_words p o k q ws)
good_right p o k q ws h e g = (good (privilege_word p) (plain_privilege p), (good (codes "ON") refl, (good_object o h.0, (good k e, (good_principal q h.1, g)))))

good_pair : (r : ℕ) (k : List ℕ) (q : Principal) → (r ≤ 63) × (index q ≤ 63) → plain k ≡ true → AllByRecursion Good (principal_word (principal.Role r) ∷ k ∷ principal_word q ∷ [])
good_pair r k q h e = (good_principal (principal.Role r) h.0, (good k e, (good_principal q h.1, tt)))

good_words : (s : Sentence) → Within range s → AllByRecursion Good (spell s)
good_words (sentence.Role r n) h = (good (codes "ROLE") refl, (good_principal (principal.Role r) h.0, (good (codes "LEVEL") refl, ((solid_digits n, fine_level n h.1), tt))))
good_words (sentence.Object o t u) h = (good (codes "OBJECT") refl, (good_object o h.0, (good (codes "TYPE") refl, (good (kind_word t) (plain_kind t), (good (codes "OWNER") refl, (good_principal (principal.User u) h.1, tt))))))
good_words (sentence.Link r q) h = (good (codes "LINK") refl, good_pair r (codes "TO") q h refl)
good_words (sentence.Cut r q) h = (good (codes "CUT") refl, good_pair r (codes "FROM") q h refl)
good_words (sentence.Grant p o q true) h = (good (codes "GRANT") refl, good_right p o (codes "TO") q (codes "OPTION" ∷ []) h refl (good (codes "OPTION") refl, tt))
good_words (sentence.Grant p o q false) h = (good (codes "GRANT") refl, good_right p o (codes "TO") q [] h refl tt)
good_words (sentence.Restrict r p o q true) h = (good (first (command.Restrict r)) (plain_restriction r), good_right p o (codes "TO") q (codes "NEUT" ∷ codes "ORNT" ∷ []) h refl (good (codes "NEUT") refl, (good (codes "ORNT") refl, tt)))
good_words (sentence.Restrict r p o q false) h = (good (first (command.Restrict r)) (plain_restriction r), good_right p o (codes "TO") q [] h refl tt)
good_words (sentence.Revoke p o q) h = (good (codes "REVOKE") refl, good_right p o (codes "FROM") q [] h refl tt)
good_words (sentence.Check p o q) h = (good (codes "CHECK") refl, good_right p o (codes "FOR") q [] h refl tt)

pub fine_words : (s : Sentence) → Within range s → AllByRecursion Fine (spell s)
fine_words s h = All-weaker Good Fine (λ w g. g.1) (spell s) (good_words s h)

some_first : (s : Sentence) → spell s ≡ [] → ⊥
some_first (sentence.Role r n) e = cc
some_first (sentence.Object o t u) e = cc
some_first (sentence.Link r q) e = cc
some_first (sentence.Cut r q) e = cc
some_first (sentence.Grant p o q b) e = cc
some_first (sentence.Restrict r p o q b) e = cc
some_first (sentence.Revoke p o q) e = cc
some_first (sentence.Check p o q) e = cc

-- the words of a sentence stand as they are when its body is cut
pub read_back : (s : Sentence) → Within range s → words (join (spell s)) ≡ spell s
read_back s h = words_join (spell s) (some_first s) (All-weaker Good Solid (λ w g. g.0) (spell s) (good_words s h))
