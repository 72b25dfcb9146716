-- The bytes of a record, where it stands and where it was written.
use Rattle.std.proofs.Common.{◌≡◌, ℕ, ◌+◌, ◌<◌, ◌≤◌, List, [], ◌∷◌, ◌++◌, length, get_or, take, drop, Some, None, Ok, Err, Option, Result, sym, refl, ap, ◌∙◌, subst, append_assoc, append-nil, zero-add, arith, length-append, length-drop, length-take}
use Rattle.std.specs.Option as options
use Rattle.std.specs.Result as results
use Rattle.std.specs.List.{AllByRecursion}
use Rattle.std.proofs.lemmas.List.{get_or-append-add, get_or_at, get_or-take, drop_at, take_at, take-append-drop, drop-drop, drop_more, drop_all, drop-take}
use Rattle.reading.specs.Faults.{place_of}
use Rattle.reading.specs.Records.{Frame, Stands, Refused, after}
use Rattle.reading.specs.Cut.{Entry, Cut, with_record, frames, or_fault, damage, Sound, bytes_of, written, entries, Covers, ReadingLaws}
use Rattle.reading.specs.declared.fault.ReadingFault.{ReadingFault}
use Rattle.reading.proofs.Cuts.{body_length, ends_within, sound_record, one_way}

pub next_byte : (bs : List ℕ) (i j : ℕ) → i < length bs → j ≡ i + 1 → drop i bs ≡ get_or bs i 0 ∷ drop j bs
next_byte bs i j l e = drop_more bs i 0 l ∙ ap (λ k. get_or bs i 0 ∷ drop k bs) (sym e)

-- the bytes from a record on are its own and those after it
stands_bytes : (bs : List ℕ) (at : ℕ) (f : Frame) → Stands bs at f → drop at bs ≡ bytes_of f ++ drop (after at f) bs
stands_bytes bs at f h =
    let n = get_or bs (at + 3) 0 in
    let m = body_length bs at f h in
    let a = next_byte bs at (at + 1) (omega arith) refl in
    let b = next_byte bs (at + 1) (at + 2) (omega arith) (omega arith) in
    let c = next_byte bs (at + 2) (at + 3) (omega arith) (omega arith) in
    let d = next_byte bs (at + 3) (at + 4) (omega arith) (omega arith) in
    let e : drop (at + 4) bs ≡ f.body ++ drop (after at f) bs
    = sym (take-append-drop n (drop (at + 4) bs)) ∙ ap (λ t. t ++ drop n (drop (at + 4) bs)) (sym h.body) ∙ ap (λ t. f.body ++ t) (drop-drop n (at + 4) bs)
    ∙ ap (λ k. f.body ++ drop (at + 4 + k) bs) (sym m) in
    cc

pub reads_back : (before : List ℕ) (f : Frame) (rest : List ℕ) → Sound f
    → Stands (before ++ (bytes_of f ++ rest)) (length before) f × (drop (after (length before) f) (before ++ (bytes_of f ++ rest)) ≡ rest)
reads_back before f rest s =
    let bs = before ++ (bytes_of f ++ rest) in
    let at = length before in
    let a : get_or bs at 0 ≡ 0x46 = get_or_at before 0x46 (0x52 ∷ (f.issuer ∷ (length f.body ∷ (f.body ++ rest)))) 0 at refl in
    let b : get_or bs (at + 1) 0 ≡ 0x52 = get_or-append-add before (bytes_of f ++ rest) 1 0 in
    let c : get_or bs (at + 2) 0 ≡ f.issuer = get_or-append-add before (bytes_of f ++ rest) 2 0 in
    let d : get_or bs (at + 3) 0 ≡ length f.body = get_or-append-add before (bytes_of f ++ rest) 3 0 in
    let all : length bs ≡ at + (4 + (length f.body + length rest)) = let x = length-append before (bytes_of f ++ rest) in let y = length-append f.body rest in omega arith in
    let tail : drop (at + 4) bs ≡ f.body ++ rest = sym (drop-drop 4 at bs) ∙ ap (drop 4) (drop_at before (bytes_of f ++ rest) at refl) in
    let i = s.issuer in
    let l = s.some in
    let m = s.short in (
      record {
        yes = (omega arith, ((a, b), (omega arith, ((omega arith, omega arith), (omega arith, tt)))));
        issuer = sym c;
        body = sym (ap (λ n. take n (drop (at + 4) bs)) d ∙ ap (take (length f.body)) tail ∙ take_at f.body rest (length f.body) refl);
      },
      sym (drop-drop (length f.body) (at + 4) bs) ∙ ap (drop (length f.body)) tail ∙ drop_at f.body rest (length f.body) refl,
    )

pub no_further : (bs cs : List ℕ) (at : ℕ) (f : Frame) → Stands bs at f → take (after at f) cs ≡ take (after at f) bs → Stands cs at f
no_further bs cs at f h e =
    let n = after at f in
    let m = body_length bs at f h in
    let l = ends_within bs at f h in
    let long : n ≤ length cs = let x = ap length e in let y = length-take n cs in let z = length-take n bs in omega arith in
    let same : (i : ℕ) → i < n → get_or cs i 0 ≡ get_or bs i 0 = λ i k. sym (get_or-take n cs i 0 k) ∙ ap (λ t. get_or t i 0) e ∙ get_or-take n bs i 0 k in
    let a = same at (omega arith) in
    let b = same (at + 1) (omega arith) in
    let c = same (at + 2) (omega arith) in
    let d = same (at + 3) (omega arith) in
    let part : (xs : List ℕ) → take (length f.body) (drop (at + 4) xs) ≡ drop (at + 4) (take n xs) = λ xs. sym (drop-take (at + 4) (length f.body) xs) in
    record {
      yes = (omega arith, ((a ∙ h.yes.1.0.0, b ∙ h.yes.1.0.1), (omega arith, ((omega arith, omega arith), (omega arith, tt)))));
      issuer = h.issuer ∙ sym c;
      body = h.body ∙ ap (λ k. take k (drop (at + 4) bs)) (sym m) ∙ part bs ∙ ap (drop (at + 4)) (sym e) ∙ sym (part cs) ∙ ap (λ k. take k (drop (at + 4) cs)) (m ∙ sym d);
    }

-- the records from an offset on, and what a fault leaves over, are the bytes from there on
record CoversFrom (bs : List ℕ) (at : ℕ) (fs : List Frame) (d : Option ReadingFault) : Type 0 where
  pub rest : List ℕ
  pub whole : drop at bs ≡ written fs ++ rest
  pub sound : AllByRecursion Sound fs
  pub ends : options.MatchOption d (rest ≡ []) (λ k. (place_of k ≡ at + length (written fs)) × (rest ≡ [] → ⊥))

-- the fault's place, seen from a record earlier
earlier : (d : Option ReadingFault) (at n : ℕ) (f : Frame) (rest : List ℕ)
    → options.MatchOption d (rest ≡ []) (λ k. (place_of k ≡ after at f + n) × (rest ≡ [] → ⊥))
    → options.MatchOption d (rest ≡ []) (λ k. (place_of k ≡ at + (4 + (length f.body + n))) × (rest ≡ [] → ⊥))
earlier None at n f rest h = h
earlier (Some k) at n f rest h = (let e = h.0 in omega arith, h.1)

module _ (bs : List ℕ) (at : ℕ) (es : List Entry) (l : at ≤ length bs) (tail : (n : ℕ) → n ≤ length bs → Cut bs n es → CoversFrom bs n (frames es) (damage es)) where
  covers_entry : (w : Result Frame ReadingFault)
      → results.MatchResult w (λ f. Stands bs at f × Cut bs (after at f) es) (λ k. Refused bs at k × (es ≡ []))
      → CoversFrom bs at (with_record w (frames es)) (or_fault w (damage es))
  covers_entry (Ok f) c =
      let t = tail (after at f) (ends_within bs at f c.0) c.1 in
      let long : length (written (f ∷ frames es)) ≡ 4 + (length f.body + length (written (frames es))) = let x = length-append f.body (written (frames es)) in omega arith in
      record {
        rest = t.rest;
        whole = stands_bytes bs at f c.0 ∙ ap (λ xs. bytes_of f ++ xs) t.whole ∙ sym (append_assoc (bytes_of f) (written (frames es)) t.rest);
        sound = (sound_record bs at f c.0, t.sound);
        ends = rw long (earlier (damage es) at (length (written (frames es))) f t.rest t.ends);
      }
  covers_entry (Err k) c =
      let none : frames es ≡ [] = ap frames c.1 in
      rw none (record {
        rest = drop at bs;
        whole = refl;
        sound = tt;
        ends = (c.0.here ∙ (omega arith), λ z. c.0.more (let x = ap length z in let y = length-drop at bs in omega arith));
      })

covers_from : (bs : List ℕ) (at : ℕ) (es : List Entry) → at ≤ length bs → Cut bs at es → CoversFrom bs at (frames es) (damage es)
covers_from bs at [] l c = record { rest = []; whole = drop_all at bs (omega arith); sound = tt; ends = refl }
covers_from bs at (e ∷ es) l c = covers_entry bs at es l (λ n m. covers_from bs n es m) e.what c.1

covers : (bs : List ℕ) (es : List Entry) → Cut bs 0 es → Covers bs es
covers bs es c =
    let h = covers_from bs 0 es (omega arith) c in
    record { rest = h.rest; whole = h.whole; sound = h.sound; ends = simp zero-add at h.ends }

cuts_back_from : (before : List ℕ) (fs : List Frame) (at : ℕ) (bs : List ℕ) → at ≡ length before → bs ≡ before ++ written fs → AllByRecursion Sound fs → Cut bs at (entries at fs)
cuts_back_from before [] at bs n e s = n ∙ ap length (sym (e ∙ append-nil before))
cuts_back_from before (f ∷ fs) at bs n e s =
    let here : Stands bs at f = subst (λ xs. Stands xs at f) (sym e) (subst (λ k. Stands (before ++ (bytes_of f ++ written fs)) k f) (sym n) (reads_back before f (written fs) s.0).0) in
    let long : after at f ≡ length (before ++ bytes_of f) = let x = length-append before (bytes_of f) in omega arith in
    (refl, (here, cuts_back_from (before ++ bytes_of f) fs (after at f) bs long (e ∙ sym (append_assoc before (bytes_of f) (written fs))) s.1))

pub reading_laws : ReadingLaws
reading_laws = record { reads_back = reads_back; no_further = no_further; one_way = one_way; covers = covers; cuts_back = λ fs. cuts_back_from [] fs 0 (written fs) refl refl }
