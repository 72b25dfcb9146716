-- From the words after the first to the whole body.
use Rattle.std.proofs.Common.{◌≡◌, ℕ, ◌+◌, ◌⊎◌, List, [], ◌∷◌, ◌++◌, length, Ok, Err, Result, sym, refl, ap, ◌∙◌, subst, inl, inr, ⊎_elim, append-nil, arith, MatchResult}
use Rattle.words.specs.Words.{words, words_from}
use Rattle.words.proofs.Joins.{some_word}
use Rattle.words.specs.Iter.{words_left}
use Rattle.grammar.specs.declared.sentence.Command.{Command}
use Rattle.grammar.specs.declared.sentence.Command.TheVariants as command
use Rattle.grammar.specs.declared.sentence.Sentence.{Sentence}
use Rattle.grammar.specs.declared.sentence.Misworded.{Misworded}
use Rattle.grammar.specs.declared.phrase.Phrase.{Phrase}
use Rattle.grammar.specs.Sentences.{Slot, Spells, written, Front, Whole, Starts, Says, Stops, NoSentence, word, first, rest, tail, spell, offset}
use Rattle.grammar.specs.Steps.{Takes, Lacks, Strays, Errs, Continues}
use Rattle.grammar.proofs.Lookup.{first_one}

-- where the words go wrong, they are not the whole
strays_whole : (ss : List Slot) (ws : List (List ℕ)) (len at p : ℕ) → Strays ss ws len at p → Whole ss ws → ⊥
strays_whole [] [] len at p h w = h
strays_whole [] (x ∷ ws) len at p h w = w
strays_whole (s ∷ ss) [] len at p h w = w
strays_whole (s ∷ ss) (x ∷ ws) len at p h w = ⊎_elim (λ e. e.0 w.0) (λ e. strays_whole ss ws len _ p e.1 w.1) h

errs_short : (ss t : List Slot) (ws : List (List ℕ)) (len at p : ℕ) → Errs ss t ws len at p → Whole ss ws → ⊥
errs_short [] t [] len at p h w = h
errs_short [] t (x ∷ ws) len at p h w = w
errs_short (s ∷ ss) t [] len at p h w = w
errs_short (s ∷ ss) t (x ∷ ws) len at p h w = ⊎_elim (λ e. e.0 w.0) (λ e. errs_short ss t ws len _ p e.1 w.1) h

errs_long : (ss t : List Slot) (ws : List (List ℕ)) (len at p : ℕ) → Errs ss t ws len at p → Whole (ss ++ t) ws → ⊥
errs_long [] t [] len at p h w = h
errs_long [] t (x ∷ ws) len at p h w = strays_whole t (x ∷ ws) len at p h w
errs_long (s ∷ ss) t [] len at p h w = w
errs_long (s ∷ ss) t (x ∷ ws) len at p h w = ⊎_elim (λ e. e.0 w.0) (λ e. errs_long ss t ws len _ p e.1 w.1) h

-- after the words before, the next does not fit, or they end early
abbrev Halts : List Slot → List (List ℕ) → List (List ℕ) → ℕ → ℕ → ℕ → Type 0
Halts ss before [] len at p = p ≡ len
Halts ss before (w ∷ ws) len at p = (Front ss (before ++ (w ∷ [])) → ⊥) × (p ≡ at + offset before)

record Found (ss : List Slot) (ws : List (List ℕ)) (len at p : ℕ) : Type 0 where
  before : List (List ℕ)
  after : List (List ℕ)
  cut : ws ≡ before ++ after
  front : Front ss before
  halts : Halts ss before after len at p

push : (s : Slot) (ss : List Slot) (w : List ℕ) (before after : List (List ℕ)) (len at p : ℕ) → Halts ss before after len (at + length w + 1) p → Halts (s ∷ ss) (w ∷ before) after len at p
push s ss w before [] len at p h = h
push s ss w before (x ∷ after) len at p h = (λ f. h.0 f.1, omega (arith, h.1))

past : (s : Slot) (ss : List Slot) (w : List ℕ) (ws : List (List ℕ)) (len at p : ℕ) → Front (s ∷ []) (w ∷ []) → Found ss ws len (at + length w + 1) p → Found (s ∷ ss) (w ∷ ws) len at p
past s ss w ws len at p h f = record {
  before = w ∷ f.before;
  after = f.after;
  cut = ap (λ l. w ∷ l) f.cut;
  front = (h.0, f.front);
  halts = push s ss w f.before f.after len at p f.halts;
}

found : (ss : List Slot) (ws : List (List ℕ)) (len at p : ℕ) → Strays ss ws len at p → Found ss ws len at p
found [] [] len at p h = absurd h
found [] (w ∷ ws) len at p h = record { before = []; after = w ∷ ws; cut = refl; front = tt; halts = (λ f. f, omega arith) }
found (s ∷ ss) [] len at p h = record { before = []; after = []; cut = refl; front = tt; halts = h }
found (s ∷ ss) (w ∷ ws) len at p (inl h) = record { before = []; after = w ∷ ws; cut = refl; front = tt; halts = (λ f. h.0 f.0, omega (arith, h.1)) }
found (s ∷ ss) (w ∷ ws) len at p (inr h) = past s ss w ws len at p (h.0, tt) (found ss ws len (at + length w + 1) p h.1)

found_either : (ss t : List Slot) (ws : List (List ℕ)) (len at p : ℕ) → Errs ss t ws len at p → Found (ss ++ t) ws len at p
found_either [] t [] len at p h = absurd h
found_either [] t (w ∷ ws) len at p h = found t (w ∷ ws) len at p h
found_either (s ∷ ss) t [] len at p h = record { before = []; after = []; cut = refl; front = tt; halts = h }
found_either (s ∷ ss) t (w ∷ ws) len at p (inl h) = record { before = []; after = w ∷ ws; cut = refl; front = tt; halts = (λ f. h.0 f.0, omega (arith, h.1)) }
found_either (s ∷ ss) t (w ∷ ws) len at p (inr h) = past s (ss ++ t) w ws len at p (h.0, tt) (found_either ss t ws len (at + length w + 1) p h.1)

-- what begins with a command's first word is a sentence of that command
starts_on : (k : Command) (b : List (List ℕ)) → Starts (first k ∷ b) → Front (rest k ++ tail k) b
starts_on k b (j, h) = subst (λ i. Front (rest i ++ tail i) b) (first_one j k (sym h.0)) h.1

says_on : (k : Command) (b : List (List ℕ)) → Says (first k ∷ b) → Whole (rest k) b ⊎ Whole (rest k ++ tail k) b
says_on k b (j, inl h) = inl (subst (λ i. Whole (rest i) b) (first_one j k (sym h.0)) h.1)
says_on k b (j, inr h) = inr (subst (λ i. Whole (rest i ++ tail i) b) (first_one j k (sym h.0)) h.1)

stop : (k : Command) (before after : List (List ℕ)) (len at p : ℕ) → at ≡ length (first k) + 1 → (Says (first k ∷ (before ++ after)) → ⊥) → Halts (rest k ++ tail k) before after len at p → Stops (first k ∷ before) after len p
stop k before [] len at p e not h = (λ s. not (subst (λ l. Says (first k ∷ l)) (sym (append-nil before)) s), h)
stop k before (w ∷ after) len at p e not h = (λ s. h.0 (starts_on k _ s), omega (arith, h.1))

no_sentence : (k : Command) (bs : List ℕ) (ws : List (List ℕ)) (at p : ℕ) → words bs ≡ first k ∷ ws → at ≡ length (first k) + 1 → Errs (rest k) (tail k) ws (length bs) at p → NoSentence bs p
no_sentence k bs ws at p e n h =
    let f = found_either (rest k) (tail k) ws (length bs) at p h in
    let not : Says (first k ∷ ws) → ⊥ = λ s. ⊎_elim (errs_short (rest k) (tail k) ws (length bs) at p h) (errs_long (rest k) (tail k) ws (length bs) at p h) (says_on k ws s) in
    record {
      before = first k ∷ f.before;
      after = f.after;
      cut = e ∙ ap (λ l. first k ∷ l) f.cut;
      starts = (k, (refl, f.front));
      stops = stop k f.before f.after (length bs) at p n (λ s. not (subst (λ l. Says (first k ∷ l)) (sym f.cut) s)) f.halts;
    }

-- what a reader makes of the words after the first, of the whole body
pub whole_body : (k : Command) (old new : Phrase) (r : Result Sentence Misworded) → old.words.at ≡ 0 → Takes old new (first k) → Continues k new r → MatchResult r (Spells written old.words.body.now) (λ e. NoSentence old.words.body.now e.at)
unfolding words_from
whole_body k old new (Ok s) z t h = record { within = h.0; spelled = subst (λ n. words_from old.words.body.now n ≡ spell s) z (t.here ∙ h.1) }
whole_body k old new (Err e) z t h =
    let bs = old.words.body.now in
    let here : words_from bs 0 ≡ first k ∷ words_left new.words = subst (λ n. words_from bs n ≡ first k ∷ words_left new.words) z t.here in
    no_sentence k bs (words_left new.words) new.words.at e.at here (omega (arith, t.beyond))
    (subst (λ l. Errs (rest k) (tail k) (words_left new.words) l new.words.at e.at) (ap (λ b. length b.now) t.same) h)

no_first : (bs : List ℕ) (ws : List (List ℕ)) (p : ℕ) → words bs ≡ ws → ((k : Command) → Lacks (word (first k)) ws (length bs) 0 p) → NoSentence bs p
no_first bs [] p e f = absurd (some_word bs e)
no_first bs (w ∷ ws) p e f = record { before = []; after = w ∷ ws; cut = e; starts = (command.Role, tt); stops = (λ s. (f s.0).0 s.1.0, (f command.Role).1) }

-- the first word begins no sentence
pub no_command : (bs : List ℕ) (p : ℕ) → ((k : Command) → Lacks (word (first k)) (words_from bs 0) (length bs) 0 p) → NoSentence bs p
unfolding words_from
no_command bs p f = no_first bs (words_from bs 0) p refl f
