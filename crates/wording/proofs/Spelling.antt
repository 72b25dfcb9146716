-- The table and the spelling of sentences are the same language, and no two sentences are spelled alike.
use Rattle.std.proofs.Common.{◌≡◌, ℕ, ◌≤◌, true, false, eqb, List, [], ◌∷◌, length, get_or, sym, refl, ap, ◌∙◌, inl, inr}
use Rattle.model.specs.declared.kind.Kind.{Kind}
use Rattle.model.specs.declared.principal.Principal.{Principal}
use Rattle.model.specs.declared.principal.Principal.TheVariants as principal
use Rattle.model.specs.declared.privilege.Privilege.{Privilege}
use Rattle.words.specs.Words.{digits, index, principal_word, object_word}
use Rattle.grammar.specs.declared.sentence.Command.{Command}
use Rattle.grammar.specs.declared.sentence.Command.TheVariants as command
use Rattle.grammar.specs.declared.sentence.Sentence.{Sentence}
use Rattle.grammar.specs.declared.sentence.Sentence.TheVariants as sentence
use Rattle.grammar.specs.Sentences.{Within, written, Slot, word, a_role, a_user, a_principal, an_object, a_number, a_privilege, a_kind, Fits, Whole, Says, short, long, spell, privilege_word, kind_word, first}
use Rattle.grammar.proofs.Lookup.{command_of, command_first, privilege_of, privilege_back, kind_of, kind_back}
use Rattle.wording.proofs.Numbers.{number_of, number_back, index_of, principal_of, principal_back}

-- the word at a place
abbrev nth : List (List ℕ) → ℕ → List ℕ
nth ws i = get_or ws i []

-- the sentence of a command that has these words
abbrev rebuild : Command → List (List ℕ) → Sentence
rebuild command.Role ws = sentence.Role (index_of (nth ws 1)) (number_of (nth ws 3))
rebuild command.Object ws = sentence.Object (index_of (nth ws 1)) (kind_of (nth ws 3)) (index_of (nth ws 5))
rebuild command.Link ws = sentence.Link (index_of (nth ws 1)) (principal_of (nth ws 3))
rebuild command.Cut ws = sentence.Cut (index_of (nth ws 1)) (principal_of (nth ws 3))
rebuild command.Grant ws = sentence.Grant (privilege_of (nth ws 1)) (index_of (nth ws 3)) (principal_of (nth ws 5)) (eqb (length ws) 7)
rebuild (command.Restrict r) ws = sentence.Restrict r (privilege_of (nth ws 1)) (index_of (nth ws 3)) (principal_of (nth ws 5)) (eqb (length ws) 8)
rebuild command.Revoke ws = sentence.Revoke (privilege_of (nth ws 1)) (index_of (nth ws 3)) (principal_of (nth ws 5))
rebuild command.Check ws = sentence.Check (privilege_of (nth ws 1)) (index_of (nth ws 3)) (principal_of (nth ws 5))

abbrev command_in : Sentence → Command
command_in (sentence.Role r n) = command.Role
command_in (sentence.Object o t u) = command.Object
command_in (sentence.Link r q) = command.Link
command_in (sentence.Cut r q) = command.Cut
command_in (sentence.Grant p o q b) = command.Grant
command_in (sentence.Restrict r p o q b) = command.Restrict r
command_in (sentence.Revoke p o q) = command.Revoke
command_in (sentence.Check p o q) = command.Check

-- a privilege, an object and a principal, with anything made of them
right_back : (f : Privilege → ℕ → Principal → Sentence) (p : Privilege) (o : ℕ) (q : Principal) → (o ≤ 99) × (index q ≤ 99) → f (privilege_of (privilege_word p)) (number_of (digits o)) (principal_of (principal_word q)) ≡ f p o q
right_back f p o q h =
    ap (λ x. f x (number_of (digits o)) (principal_of (principal_word q))) (privilege_back p)
    ∙ ap (λ x. f p x (principal_of (principal_word q))) (number_back o h.0)
    ∙ ap (λ x. f p o x) (principal_back q h.1)

pair_back : (f : ℕ → Principal → Sentence) (r : ℕ) (q : Principal) → (r ≤ 99) × (index q ≤ 99) → f (number_of (digits r)) (principal_of (principal_word q)) ≡ f r q
pair_back f r q h = ap (λ x. f x (principal_of (principal_word q))) (number_back r h.0) ∙ ap (f r) (principal_back q h.1)

rebuilt : (s : Sentence) → Within written s → rebuild (command_in s) (spell s) ≡ s
rebuilt (sentence.Role r n) h = ap (λ x. sentence.Role x (number_of (digits n))) (number_back r h.0) ∙ ap (λ x. sentence.Role r x) (number_back n h.1)
rebuilt (sentence.Object o t u) h =
    ap (λ x. sentence.Object x (kind_of (kind_word t)) (number_of (digits u))) (number_back o h.0)
    ∙ ap (λ x. sentence.Object o x (number_of (digits u))) (kind_back t)
    ∙ ap (λ x. sentence.Object o t x) (number_back u h.1)
rebuilt (sentence.Link r q) h = pair_back (λ x y. sentence.Link x y) r q h
rebuilt (sentence.Cut r q) h = pair_back (λ x y. sentence.Cut x y) r q h
rebuilt (sentence.Grant p o q true) h = right_back (λ x y z. sentence.Grant x y z true) p o q h
rebuilt (sentence.Grant p o q false) h = right_back (λ x y z. sentence.Grant x y z false) p o q h
rebuilt (sentence.Restrict r p o q true) h = right_back (λ x y z. sentence.Restrict r x y z true) p o q h
rebuilt (sentence.Restrict r p o q false) h = right_back (λ x y z. sentence.Restrict r x y z false) p o q h
rebuilt (sentence.Revoke p o q) h = right_back (λ x y z. sentence.Revoke x y z) p o q h
rebuilt (sentence.Check p o q) h = right_back (λ x y z. sentence.Check x y z) p o q h

spell_first : (s : Sentence) → nth (spell s) 0 ≡ first (command_in s)
spell_first (sentence.Role r n) = refl
spell_first (sentence.Object o t u) = refl
spell_first (sentence.Link r q) = refl
spell_first (sentence.Cut r q) = refl
spell_first (sentence.Grant p o q b) = refl
spell_first (sentence.Restrict r p o q b) = refl
spell_first (sentence.Revoke p o q) = refl
spell_first (sentence.Check p o q) = refl

read_back : (s : Sentence) → Within written s → rebuild (command_of (nth (spell s) 0)) (spell s) ≡ s
read_back s h = ap (λ w. rebuild (command_of w) (spell s)) (spell_first s) ∙ ap (λ k. rebuild k (spell s)) (command_first (command_in s)) ∙ rebuilt s h

pub distinct : (s t : Sentence) → Within written s → Within written t → spell s ≡ spell t → s ≡ t
distinct s t h k e = sym (read_back s h) ∙ ap (λ ws. rebuild (command_of (nth ws 0)) ws) e ∙ read_back t k

pub says : (s : Sentence) → Within written s → Says (spell s)
says (sentence.Role r n) h = (command.Role, inl (refl, ((r, h.0, refl), (refl, ((n, h.1, refl), tt)))))
says (sentence.Object o t u) h = (command.Object, inl (refl, ((o, h.0, refl), (refl, ((t, refl), (refl, ((u, h.1, refl), tt)))))))
says (sentence.Link r q) h = (command.Link, inl (refl, ((r, h.0, refl), (refl, ((q, h.1, refl), tt)))))
says (sentence.Cut r q) h = (command.Cut, inl (refl, ((r, h.0, refl), (refl, ((q, h.1, refl), tt)))))
says (sentence.Grant p o q false) h = (command.Grant, inl (refl, ((p, refl), (refl, ((o, h.0, refl), (refl, ((q, h.1, refl), tt)))))))
says (sentence.Grant p o q true) h = (command.Grant, inr (refl, ((p, refl), (refl, ((o, h.0, refl), (refl, ((q, h.1, refl), (refl, tt))))))))
says (sentence.Restrict r p o q false) h = (command.Restrict r, inl (refl, ((p, refl), (refl, ((o, h.0, refl), (refl, ((q, h.1, refl), tt)))))))
says (sentence.Restrict r p o q true) h = (command.Restrict r, inr (refl, ((p, refl), (refl, ((o, h.0, refl), (refl, ((q, h.1, refl), (refl, (refl, tt)))))))))
says (sentence.Revoke p o q) h = (command.Revoke, inl (refl, ((p, refl), (refl, ((o, h.0, refl), (refl, ((q, h.1, refl), tt)))))))
says (sentence.Check p o q) h = (command.Check, inl (refl, ((p, refl), (refl, ((o, h.0, refl), (refl, ((q, h.1, refl), tt)))))))

-- what a word that fits a slot says there
abbrev Small : Type 0
Small = (n : ℕ) × (n ≤ 99)

abbrev Value : Slot → Type 0
Value (word k) = Unit {0}
Value a_role = Small
Value a_user = Small
Value a_principal = (q : Principal) × (index q ≤ 99)
Value an_object = Small
Value a_number = Small
Value a_privilege = Privilege
Value a_kind = Kind

abbrev write : (s : Slot) → Value s → List ℕ
write (word k) v = k
write a_role v = principal_word (principal.Role v.0)
write a_user v = principal_word (principal.User v.0)
write a_principal v = principal_word v.0
write an_object v = object_word v.0
write a_number v = digits v.0
write a_privilege v = privilege_word v
write a_kind v = kind_word v

fitted : (s : Slot) (w : List ℕ) → Fits s w → (v : Value s) × (w ≡ write s v)
fitted (word k) w h = (tt, h)
fitted a_role w h = ((h.0, h.1), h.2)
fitted a_user w h = ((h.0, h.1), h.2)
fitted a_principal w h = ((h.0, h.1), h.2)
fitted an_object w h = ((h.0, h.1), h.2)
fitted a_number w h = ((h.0, h.1), h.2)
fitted a_privilege w h = (h.0, h.1)
fitted a_kind w h = (h.0, h.1)

abbrev Values : List Slot → Type 0
Values [] = Unit {0}
Values (s ∷ ss) = Value s × Values ss

abbrev writes : (ss : List Slot) → Values ss → List (List ℕ)
writes [] v = []
writes (s ∷ ss) v = write s v.0 ∷ writes ss v.1

filled : (ss : List Slot) (ws : List (List ℕ)) → Whole ss ws → (v : Values ss) × (ws ≡ writes ss v)
filled [] [] h = (tt, refl)
filled [] (w ∷ ws) h = absurd h
filled (s ∷ ss) [] h = absurd h
filled (s ∷ ss) (w ∷ ws) h =
    let f = fitted s w h.0 in
    let g = filled ss ws h.1 in
    ((f.0, g.0), ap (λ x. x ∷ ws) f.1 ∙ ap (λ l. write s f.0 ∷ l) g.1)

abbrev Spelled : List (List ℕ) → Type 0
Spelled ws = (s : Sentence) × Within written s × (ws ≡ spell s)

shortly : (k : Command) (v : Values (short k)) → Spelled (writes (short k) v)
shortly command.Role v = (sentence.Role v.1.0.0 v.1.1.1.0.0, (v.1.0.1, v.1.1.1.0.1), refl)
shortly command.Object v = (sentence.Object v.1.0.0 v.1.1.1.0 v.1.1.1.1.1.0.0, (v.1.0.1, v.1.1.1.1.1.0.1), refl)
shortly command.Link v = (sentence.Link v.1.0.0 v.1.1.1.0.0, (v.1.0.1, v.1.1.1.0.1), refl)
shortly command.Cut v = (sentence.Cut v.1.0.0 v.1.1.1.0.0, (v.1.0.1, v.1.1.1.0.1), refl)
shortly command.Grant v = (sentence.Grant v.1.0 v.1.1.1.0.0 v.1.1.1.1.1.0.0 false, (v.1.1.1.0.1, v.1.1.1.1.1.0.1), refl)
shortly (command.Restrict r) v = (sentence.Restrict r v.1.0 v.1.1.1.0.0 v.1.1.1.1.1.0.0 false, (v.1.1.1.0.1, v.1.1.1.1.1.0.1), refl)
shortly command.Revoke v = (sentence.Revoke v.1.0 v.1.1.1.0.0 v.1.1.1.1.1.0.0, (v.1.1.1.0.1, v.1.1.1.1.1.0.1), refl)
shortly command.Check v = (sentence.Check v.1.0 v.1.1.1.0.0 v.1.1.1.1.1.0.0, (v.1.1.1.0.1, v.1.1.1.1.1.0.1), refl)

longly : (k : Command) (v : Values (long k)) → Spelled (writes (long k) v)
longly command.Role v = shortly command.Role v
longly command.Object v = shortly command.Object v
longly command.Link v = shortly command.Link v
longly command.Cut v = shortly command.Cut v
longly command.Grant v = (sentence.Grant v.1.0 v.1.1.1.0.0 v.1.1.1.1.1.0.0 true, (v.1.1.1.0.1, v.1.1.1.1.1.0.1), refl)
longly (command.Restrict r) v = (sentence.Restrict r v.1.0 v.1.1.1.0.0 v.1.1.1.1.1.0.0 true, (v.1.1.1.0.1, v.1.1.1.1.1.0.1), refl)
longly command.Revoke v = shortly command.Revoke v
longly command.Check v = shortly command.Check v

pub said : (ws : List (List ℕ)) → Says ws → Spelled ws
said ws (k, inl h) = let f = filled (short k) ws h in let g = shortly k f.0 in (g.0, g.1, f.1 ∙ g.2)
said ws (k, inr h) = let f = filled (long k) ws h in let g = longly k f.0 in (g.0, g.1, f.1 ∙ g.2)
