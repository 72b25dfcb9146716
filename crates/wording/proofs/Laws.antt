-- The laws of sentences.
use Rattle.std.proofs.Common.{◌≡◌, ℕ, ◌⊎◌, List, [], ◌∷◌, ◌++◌, length, Ok, Err, Result, sym, refl, ap, ◌∙◌, subst, inl, inr, ⊎_elim, append_assoc, append-nil}
use Rattle.std.specs.List.{AllByRecursion}
use Rattle.words.specs.Words.{words}
use Rattle.words.proofs.Joins.{join_words}
use Rattle.wording.specs.declared.fault.WordingFault.{WordingFault}
use Rattle.wording.specs.declared.fault.WordingFault.TheVariants as fault
use Rattle.grammar.specs.declared.sentence.Sentence.{Sentence}
use Rattle.grammar.specs.Sentences.{Slot, Within, written, Spells, Front, Whole, Starts, Says, Stops, NoSentence, short, long, tail, spell, offset}
use Rattle.wording.specs.Ranges.{range, Fine, TooLarge, Exceeds}
use Rattle.wording.specs.Answers.{Answers, Laws, Parsed}
use Rattle.wording.proofs.Spelling.{distinct, says, said}
use Rattle.wording.proofs.Fits.{in_range, widen}
use Rattle.wording.proofs.Good.{fine_words, read_back}

front_more : (ss t : List Slot) (b : List (List ℕ)) → Front ss b → Front (ss ++ t) b
front_more ss t [] h = tt
front_more [] t (w ∷ b) h = absurd h
front_more (s ∷ ss) t (w ∷ b) h = (h.0, front_more ss t b h.1)

whole_front : (ss : List Slot) (a b : List (List ℕ)) → Whole ss (a ++ b) → Front ss a
whole_front ss [] b h = tt
whole_front [] (w ∷ a) b h = h
whole_front (s ∷ ss) (w ∷ a) b h = (h.0, whole_front ss a b h.1)

front_front : (ss : List Slot) (a b : List (List ℕ)) → Front ss (a ++ b) → Front ss a
front_front ss [] b h = tt
front_front [] (w ∷ a) b h = h
front_front (s ∷ ss) (w ∷ a) b h = (h.0, front_front ss a b h.1)

-- what a sentence begins with starts a sentence
says_starts : (a b : List (List ℕ)) → Says (a ++ b) → Starts a
says_starts a b (k, inl h) = (k, front_more (short k) (tail k) a (whole_front (short k) a b h))
says_starts a b (k, inr h) = (k, whole_front (long k) a b h)

starts_starts : (a b : List (List ℕ)) → Starts (a ++ b) → Starts a
starts_starts a b (k, h) = (k, front_front (long k) a b h)

stops_apart : (before after : List (List ℕ)) (len p : ℕ) → Stops before after len p → Says (before ++ after) → ⊥
stops_apart before [] len p h s = h.0 (subst Says (append-nil before) s)
stops_apart before (w ∷ after) len p h s = h.0 (says_starts (before ++ (w ∷ [])) after (subst Says (sym (append_assoc before (w ∷ []) after)) s))

apart : (bs : List ℕ) (p : ℕ) → NoSentence bs p → Says (words bs) → ⊥
apart bs p h s = stops_apart h.before h.after (length bs) p h.stops (subst Says h.cut s)

refused : (bs : List ℕ) (p : ℕ) → NoSentence bs p → (s : Sentence) → Within written s → words bs ≡ spell s → ⊥
refused bs p h s w e = apart bs p h (subst Says (sym e) (says s w))

-- the second cut lies behind the first
record Behind (a b c : List (List ℕ)) : Type 0 where
  word : List ℕ
  rest : List (List ℕ)
  more : List (List ℕ)
  goes : b ≡ word ∷ rest
  longer : c ≡ a ++ (word ∷ more)

two_cuts : (a b c d : List (List ℕ)) → a ++ b ≡ c ++ d → ((a ≡ c) × (b ≡ d)) ⊎ (Behind a b c ⊎ Behind c d a)
two_cuts [] b [] d e = inl (refl, e)
two_cuts [] b (w ∷ c) d e = inr (inl (record { word = w; rest = c ++ d; more = c; goes = e; longer = refl }))
two_cuts (w ∷ a) b [] d e = inr (inr (record { word = w; rest = a ++ b; more = a; goes = sym e; longer = refl }))
two_cuts (w ∷ a) b (x ∷ c) d e =
    let same : w ≡ x = cc in
    let rest : a ++ b ≡ c ++ d = cc in
    ⊎_elim (λ h. let p : a ≡ c = h.0 in inl (cc, h.1))
    (⊎_elim
    (λ h. inr (inl (record { word = h.word; rest = h.rest; more = h.more; goes = h.goes; longer = let q = h.longer in cc })))
    (λ h. inr (inr (record { word = h.word; rest = h.rest; more = h.more; goes = h.goes; longer = let q = h.longer in cc }))))
    (two_cuts a b c d rest)

no_more : (a b c : List (List ℕ)) (len p : ℕ) → Stops a b len p → Starts c → Behind a b c → ⊥
no_more a b c len p h s k =
    (subst (λ l. Stops a l len p) k.goes h).0
    (starts_starts (a ++ (k.word ∷ [])) k.more (subst Starts (k.longer ∙ sym (append_assoc a (k.word ∷ []) k.more)) s))

stops_one : (a b : List (List ℕ)) (len p q : ℕ) → Stops a b len p → Stops a b len q → p ≡ q
stops_one a [] len p q h k = h.1 ∙ sym k.1
stops_one a (w ∷ b) len p q h k = h.1 ∙ sym k.1

place : (bs : List ℕ) (p q : ℕ) → NoSentence bs p → NoSentence bs q → p ≡ q
place bs p q h k =
    ⊎_elim
    (λ e. stops_one k.before k.after (length bs) p q (subst (λ l. Stops k.before l (length bs) p) e.1 (subst (λ l. Stops l h.after (length bs) p) e.0 h.stops)) k.stops)
    (⊎_elim (λ e. absurd (no_more _ _ _ (length bs) p h.stops k.starts e)) (λ e. absurd (no_more _ _ _ (length bs) q k.stops h.starts e)))
    (two_cuts h.before h.after k.before k.after (sym h.cut ∙ k.cut))

-- the words before the first that is too large
first_large : (a b c d : List (List ℕ)) (w v : List ℕ) → a ++ (w ∷ c) ≡ b ++ (v ∷ d) → AllByRecursion Fine a → AllByRecursion Fine b → TooLarge w → TooLarge v → a ≡ b
first_large [] [] c d w v e f g h k = refl
first_large [] (x ∷ b) c d w v e f g h k = let q : w ≡ x = cc in absurd (g.0 (subst TooLarge q h))
first_large (x ∷ a) [] c d w v e f g h k = let q : v ≡ x = cc in absurd (f.0 (subst TooLarge q k))
first_large (x ∷ a) (y ∷ b) c d w v e f g h k =
    let q : x ≡ y = cc in
    let r : a ++ (w ∷ c) ≡ b ++ (v ∷ d) = cc in
    let t : a ≡ b = first_large a b c d w v r f.1 g.1 h k in
    cc

large : (bs : List ℕ) (p q : ℕ) → Exceeds bs p → Exceeds bs q → p ≡ q
large bs p q h k =
    h.place
    ∙ ap offset (first_large h.before k.before h.after k.after h.word k.word (sym h.cut ∙ k.cut) h.fine k.fine h.large k.large)
    ∙ sym k.place

every_part : (a b : List (List ℕ)) (w : List ℕ) → AllByRecursion Fine (a ++ (w ∷ b)) → Fine w
every_part [] b w h = h.0
every_part (x ∷ a) b w h = every_part a b w h.1

fits_all : (bs : List ℕ) (s : Sentence) (p : ℕ) → Spells range bs s → Exceeds bs p → ⊥
fits_all bs s p h x = every_part x.before x.after x.word (subst (AllByRecursion Fine) (sym h.spelled ∙ x.cut) (fine_words s h.within)) x.large

spelled_says : (bs : List ℕ) (s : Sentence) → Spells written bs s → Says (words bs)
spelled_says bs s h = subst Says (sym h.spelled) (says s h.within)

in_range_says : (bs : List ℕ) (s : Sentence) → Spells range bs s → Says (words bs)
in_range_says bs s h = spelled_says bs s (record { within = widen s h.within; spelled = h.spelled })

one : (bs : List ℕ) (q r : Result Sentence WordingFault) → Answers bs q → Answers bs r → q ≡ r
one bs (Ok s) (Ok t) h k = ap (λ x. Ok x) (distinct s t (widen s h.within) (widen t k.within) (sym h.spelled ∙ k.spelled))
one bs (Ok s) (Err (fault.Reading f)) h k = absurd k
one bs (Ok s) (Err (fault.Sentence p)) h k = absurd (apart bs p k (in_range_says bs s h))
one bs (Ok s) (Err (fault.Range p)) h k = absurd (fits_all bs s p h k.exceeds)
one bs (Err (fault.Reading f)) r h k = absurd h
one bs (Err (fault.Sentence p)) (Ok t) h k = absurd (apart bs p h (in_range_says bs t k))
one bs (Err (fault.Sentence p)) (Err (fault.Reading f)) h k = absurd k
one bs (Err (fault.Sentence p)) (Err (fault.Sentence q)) h k = ap (λ x. Err (fault.Sentence x)) (place bs p q h k)
one bs (Err (fault.Sentence p)) (Err (fault.Range q)) h k = absurd (apart bs p h k.says)
one bs (Err (fault.Range p)) (Ok t) h k = absurd (fits_all bs t p k h.exceeds)
one bs (Err (fault.Range p)) (Err (fault.Reading f)) h k = absurd k
one bs (Err (fault.Range p)) (Err (fault.Sentence q)) h k = absurd (apart bs q k h.says)
one bs (Err (fault.Range p)) (Err (fault.Range q)) h k = ap (λ x. Err (fault.Range x)) (large bs p q h.exceeds k.exceeds)

laws : Laws
laws = record {
  joined = join_words;
  spelled = says;
  sentence = said;
  distinct = distinct;
  refused = refused;
  place = place;
  large = large;
  back = λ s h. record { within = h; spelled = read_back s h };
  one = one;
}

pub parsed : (bs : List ℕ) (r : Result Sentence WordingFault) → Answers bs r → Parsed bs r
parsed bs r h = record { answer = h; only = λ q k. one bs q r k h; laws = laws }

-- a sentence whose numbers are fine
pub answered : (bs : List ℕ) (s : Sentence) → Spells written bs s → AllByRecursion Fine (words bs) → Parsed bs (Ok s)
answered bs s h f = parsed bs (Ok s) (record { within = in_range s h.within (subst (AllByRecursion Fine) h.spelled f); spelled = h.spelled })

-- a sentence with a number that is too large
pub exceeded : (bs : List ℕ) (s : Sentence) (p : ℕ) → Spells written bs s → Exceeds bs p → Parsed bs (Err (fault.Range p))
exceeded bs s p h x = parsed bs (Err (fault.Range p)) (record { says = spelled_says bs s h; exceeds = x })
