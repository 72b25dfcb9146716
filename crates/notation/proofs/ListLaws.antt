-- Listing an input record by record.
use Rattle.std.proofs.Common.{◌≡◌, ℕ, ◌≤◌, ◌⊎◌, List, [], ◌∷◌, ◌++◌, map, length, None, Ok, Err, Option, Result, sym, refl, ap, ◌∙◌, subst, inl, inr, append_assoc, append-nil, arith}
use Rattle.std.proofs.ByRecursion.{All-push}
use Rattle.std.proofs.lemmas.List.{flat_map_more, map_push}
use Rattle.std.proofs.lemmas.Option.{MatchOption-at_none}
use Rattle.std.specs.List.{AllByRecursion}
use Rattle.reading.specs.Faults.{number_of, place_of, told}
use Rattle.reading.specs.Records.{Frame, Stands, Refused, after, frame, Reads}
use Rattle.reading.specs.Cut.{Entry, Cut, with_record, frames, or_fault, damage, Sound, bytes_of, written}
use Rattle.reading.specs.declared.fault.ReadingFault.{ReadingFault}
use Rattle.reading.specs.declared.record.Record.{Record}
use Rattle.reading.proofs.Covering.{reading_laws}
use Rattle.reading.proofs.Cuts.{ends_within}
use Rattle.notation.specs.Lines.{lines, unremarked, kept}
use Rattle.notation.specs.Results.{Listed}
use Rattle.notation.specs.Shown.{line, ended, Item, RemarkOn, Remarked, RightlyRemarked, shown_entry, listed, entries_of, Byte, Statable}
use Rattle.notation.proofs.Splitting.{lines_feed}
use Rattle.notation.proofs.Visible.{Remark, remark_shape, line_visible, before_remark, one_line}

-- no line of a record is skipped
kept_lines : (fs : List Frame) → kept (map line fs) ≡ map line fs
kept_lines [] = refl
kept_lines (f ∷ fs) = ap (λ ls. line f ∷ ls) (kept_lines fs)

-- one entry, its remark, and the lines of the rest
entry_lines : (w : Result Frame ReadingFault) (m : List ℕ) (d : Option ReadingFault) (fs : List Frame) (rest : List ℕ) → Remarked w m → or_fault w d ≡ None → AllByRecursion Sound (with_record w fs)
    → (d ≡ None → AllByRecursion Sound fs → map unremarked (lines rest) ≡ map line fs)
    → map unremarked (lines (shown_entry w m ++ rest)) ≡ map line (with_record w fs)
entry_lines (Ok f) m d fs rest r n s tail =
    let v = line_visible f s.0 in
    let shape : Remark m = subst Remark (sym r.1.1) (remark_shape r.0) in
    let first : lines (shown_entry (Ok f) m ++ rest) ≡ (line f ++ m) ∷ lines rest
    = ap lines (append_assoc (line f ++ m) (10 ∷ []) rest) ∙ lines_feed (line f ++ m) rest (one_line (line f) m v shape) in
    ap (map unremarked) first ∙ ap (λ l. l ∷ map unremarked (lines rest)) (before_remark (line f) m v shape) ∙ ap (λ ls. line f ∷ ls) (tail n s.1)
entry_lines (Err k) m d fs rest r n s tail = cc

-- without a fault, the lines of a listing are those of its records, but for remarks
pub listed_lines : (xs : List Item) → AllByRecursion RightlyRemarked xs → damage (entries_of xs) ≡ None → AllByRecursion Sound (frames (entries_of xs))
    → map unremarked (lines (listed xs)) ≡ map line (frames (entries_of xs))
listed_lines [] r n s = refl
listed_lines (x ∷ xs) r n s =
    entry_lines x.entry.what x.remark (damage (entries_of xs)) (frames (entries_of xs)) (listed xs) r.0 n s (λ n' s'. listed_lines xs r.1 n' s')

halves : (P : ℕ → Type 0) (xs ys : List ℕ) → AllByRecursion P (xs ++ ys) → AllByRecursion P xs × AllByRecursion P ys
halves P [] ys h = (tt, h)
halves P (x ∷ xs) ys h = let r = halves P xs ys h.1 in ((h.0, r.0), r.1)

-- the records of an input of bytes have bytes in their bodies
statable : (fs : List Frame) → AllByRecursion Sound fs → AllByRecursion Byte (written fs) → AllByRecursion Statable fs
statable [] s b = tt
statable (f ∷ fs) s b =
    let h = halves Byte (bytes_of f) (written fs) b in
    (record { sound = s.0; bytes = h.0.1.1.1.1 }, statable fs s.1 h.1)

done_listed : (input : List ℕ) (xs : List Item) (text : List ℕ) → Cut input 0 (entries_of xs) → AllByRecursion RightlyRemarked xs → text ≡ listed xs → Listed input text
done_listed input xs text c r e =
    let es = entries_of xs in
    let h = reading_laws.covers input es c in
    record {
      found = xs;
      cut = c;
      remarked = r;
      shows = e;
      undone = λ b n.
          (let none : h.rest ≡ [] = MatchOption-at_none _ _ n h.ends in
          let all : written (frames es) ≡ input = sym (h.whole ∙ ap (λ t. written (frames es) ++ t) none ∙ append-nil (written (frames es))) in
          let says : map unremarked (lines text) ≡ map line (frames es) = ap (λ t. map unremarked (lines t)) e ∙ listed_lines xs r n h.sound in
          (record { stated = ap kept says ∙ kept_lines (frames es); statable = statable (frames es) h.sound (subst (AllByRecursion Byte) (sym all) b) }, all));
    }

-- part of the input is listed: whatever the rest is cut into, the whole is cut into that after what was listed
pub record Going (input : List ℕ) (at : ℕ) (out : List ℕ) : Type 0 where
  pub done : List Item
  pub inside : at ≤ length input
  pub cut : (es : List Entry) → Cut input at es → Cut input 0 (entries_of done ++ es)
  pub remarked : AllByRecursion RightlyRemarked done
  pub shows : out ≡ listed done

module _ (input : List ℕ) (at : ℕ) (out : List ℕ) (g : Going input at out) where
  longer : (x : Item) (text : List ℕ) → text ≡ out ++ shown_entry x.entry.what x.remark → text ≡ listed (g.done ++ (x ∷ []))
  longer x text h =
      h ∙ ap (λ t. t ++ shown_entry x.entry.what x.remark) g.shows ∙ flat_map_more (λ y. shown_entry y.entry.what y.remark) [] g.done x

  -- a record more
  pub next : (f : Frame) → Stands input at f → (m : List ℕ) → RemarkOn f.body m → (text : List ℕ) → text ≡ out ++ ended (line f ++ m) → (n : ℕ) → n ≡ after at f → Going input n text
  next f h m r text e n k =
      let x : Item = record { entry = record { offset = at; what = Ok f }; remark = m } in
      record {
        done = g.done ++ (x ∷ []);
        inside = (let l = ends_within input at f h in omega arith);
        cut = λ es c.
            subst (Cut input 0) (sym (append_assoc (entries_of g.done) (x.entry ∷ []) es) ∙ ap (λ t. t ++ es) (sym (map_push (λ y. y.entry) g.done x)))
            (g.cut (x.entry ∷ es) (refl, (h, subst (λ j. Cut input j es) k c)));
        remarked = All-push RightlyRemarked g.done x g.remarked r;
        shows = longer x text e;
      }

  -- the end of the input
  pub finish : at ≡ length input → Listed input out
  finish e = done_listed input g.done out (subst (Cut input 0) (append-nil (entries_of g.done)) (g.cut [] e)) g.remarked g.shows

  -- a fault takes the rest
  pub spoiled : (k : ReadingFault) → Refused input at k → (text : List ℕ) → text ≡ out ++ ended (told (number_of k) (place_of k)) → Listed input text
  spoiled k h text e =
      let x : Item = record { entry = record { offset = at; what = Err k }; remark = [] } in
      done_listed input (g.done ++ (x ∷ [])) text (subst (Cut input 0) (sym (map_push (λ y. y.entry) g.done x)) (g.cut (x.entry ∷ []) (refl, (h, refl))))
      (All-push RightlyRemarked g.done x g.remarked refl) (longer x text e)

-- part of the input is listed, or all of it: up to its end, or with the fault that takes the rest
pub record Progress (input : List ℕ) (at : ℕ) (out : List ℕ) : Type 0 where
  pub so_far : Going input at out ⊎ ((at ≡ length input) × Listed input out)

module _ (input : List ℕ) (at : ℕ) (out : List ℕ) (p : Progress input at out) where
  -- a record more
  pub record_shown : (r : Record) → Reads input at r → (m : List ℕ) → RemarkOn r.body.now m → (text : List ℕ) → text ≡ out ++ ended (line (frame r) ++ m) → Progress input r.next text
  record_shown r h m k text e =
      elim p.so_far [
        | inl g ↦ record { so_far = inl (next input at out g (frame r) h.stands m k text e r.next h.next) }
        | inr d ↦ absurd (let y = h.stands.yes.0 in let z = d.0 in omega arith)
      ]

  -- the fault, after which nothing is left
  pub fault_shown : (k : ReadingFault) → Refused input at k → (text : List ℕ) → text ≡ out ++ ended (told (number_of k) (place_of k)) → Progress input (length input) text
  fault_shown k h text e =
      elim p.so_far [ inl g ↦ record { so_far = inr (refl, spoiled input at out g k h text e) } | inr d ↦ absurd (h.more d.0) ]

  -- nothing is left
  pub all_shown : at ≡ length input → Listed input out
  all_shown e = elim p.so_far [ inl g ↦ finish input at out g e | inr d ↦ d.1 ]
