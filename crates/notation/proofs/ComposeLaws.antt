-- Composing a file line by line.
use Rattle.std.proofs.Common.{◌≡◌, ℕ, ◌+◌, ◌<◌, true, false, cond, not, List, [], ◌∷◌, ◌++◌, map, length, get_or, take, drop, None, sym, refl, ap, ◌∙◌, subst, inl, inr, append-nil, arith}
use Rattle.std.proofs.ByRecursion.{All-push, All-weaker}
use Rattle.std.proofs.lemmas.List.{drop_more, flat_map_more, length-take-le, map_push, take_all, take_more, take-append-drop}
use Rattle.std.proofs.lemmas.List.FromFn.{get_or-enumerate_from, length-enumerate_from}
use Rattle.std.specs.List.{AllByRecursion, enumerate_from}
use Rattle.reading.specs.Records.{Frame, after}
use Rattle.reading.specs.Cut.{Cut, Sound, bytes_of, frames, damage, written, entries}
use Rattle.reading.proofs.Covering.{reading_laws}
use Rattle.notation.specs.Adding.{Added, Taken, NotTaken}
use Rattle.notation.specs.declared.bodies.Bodies.{Bodies}
use Rattle.notation.specs.Lines.{lines, unremarked, skipped, kept, statements}
use Rattle.notation.specs.Results.{Listed, Composed, Unstated}
use Rattle.notation.specs.Shown.{line, entries_of, Statable, Passes}
use Rattle.notation.proofs.ListLaws.{listed_lines}
use Rattle.notation.proofs.Splitting.{kept_more, part_is_line, parts, same_statements}
use Rattle.notation.proofs.Stating.{same_lines}

-- so many of these parts of a text are composed
pub record Going (bodies : Bodies) (lines : List (List ℕ)) (n : ℕ) (out : List ℕ) : Type 0 where
  pub records : List Frame
  pub stated : kept (map unremarked (take n lines)) ≡ map line records
  pub statable : AllByRecursion Statable records
  pub passing : AllByRecursion (λ f. Passes bodies f.body) records
  pub bytes : out ≡ written records

pub start : (bodies : Bodies) (lines : List (List ℕ)) (out : List ℕ) → out ≡ [] → Going bodies lines 0 out
start bodies lines out e = record { records = []; stated = refl; statable = tt; passing = tt; bytes = e }

-- which part a step of the loop is given
pub part_at : (lines : List (List ℕ)) (n before : ℕ) (l : List ℕ) → (n < length (enumerate_from 0 lines)) × ((before, l) ≡ get_or (enumerate_from 0 lines) n (before, l))
    → (n < length lines) × ((before ≡ n) × (l ≡ get_or lines n l))
part_at lines n before l h =
    let inside : n < length lines = let k = length-enumerate_from 0 lines in let j = h.0 in omega arith in
    let is : (before, l) ≡ (0 + n, get_or lines n l) = h.1 ∙ get_or-enumerate_from 0 lines n (before, l) inside in
    (inside, (ap (λ p. p.0) is ∙ (omega arith), ap (λ p. p.1) is))

frames_entries : (at : ℕ) (fs : List Frame) → frames (entries at fs) ≡ fs
frames_entries at [] = refl
frames_entries at (f ∷ fs) = ap (λ xs. f ∷ xs) (frames_entries (after at f) fs)

no_damage : (at : ℕ) (fs : List Frame) → damage (entries at fs) ≡ None
no_damage at [] = refl
no_damage at (f ∷ fs) = no_damage (after at f) fs

-- what was written of sound records is listed as their lines
listed_again : (out : List ℕ) (fs : List Frame) → AllByRecursion Sound fs → Cut out 0 (entries 0 fs) → (again : List ℕ) → Listed out again → map unremarked (lines again) ≡ map line fs
listed_again out fs s c again h =
    let one = reading_laws.one_way out in
    let same : entries_of h.found ≡ entries 0 fs = one.1.1 (entries_of h.found) h.cut ∙ sym (one.1.1 (entries 0 fs) c) in
    let whole : frames (entries_of h.found) ≡ fs = ap frames same ∙ frames_entries 0 fs in
    ap (λ t. map unremarked (lines t)) h.shows ∙ listed_lines h.found h.remarked (ap damage same ∙ no_damage 0 fs) (subst (AllByRecursion Sound) (sym whole) s) ∙ ap (map line) whole

module _ (bodies : Bodies) (text : List ℕ) (n : ℕ) (out : List ℕ) (g : Going bodies (parts text) n out) where
  module _ (l : List ℕ) (inside : n < length (parts text)) (here : l ≡ get_or (parts text) n l) where
    states_more : kept (map unremarked (take (n + 1) (parts text))) ≡ map line g.records ++ kept (unremarked l ∷ [])
    states_more =
        let more : take (n + 1) (parts text) ≡ take n (parts text) ++ (l ∷ []) = take_more (parts text) n l inside ∙ ap (λ x. take n (parts text) ++ (x ∷ [])) (sym here) in
        ap (λ ls. kept (map unremarked ls)) more ∙ ap kept (map_push unremarked (take n (parts text)) l) ∙ kept_more (map unremarked (take n (parts text))) (unremarked l)
        ∙ ap (λ ls. ls ++ kept (unremarked l ∷ [])) g.stated

    -- a skipped line
    skips : skipped (unremarked l) ≡ true → (bytes : List ℕ) → bytes ≡ out → Going bodies (parts text) (n + 1) bytes
    skips s bytes e =
        record {
          records = g.records;
          stated = states_more ∙ ap (λ b. map line g.records ++ cond (not b) (unremarked l ∷ []) []) s ∙ append-nil (map line g.records);
          statable = g.statable;
          passing = g.passing;
          bytes = e ∙ g.bytes;
        }

    -- a line that states a record
    adds : skipped (unremarked l) ≡ false → (bytes : List ℕ) → Added bodies (unremarked l) out bytes → Going bodies (parts text) (n + 1) bytes
    adds s bytes a =
        let f = a.record_of in
        record {
          records = g.records ++ (f ∷ []);
          stated = states_more ∙ ap (λ b. map line g.records ++ cond (not b) (unremarked l ∷ []) []) s ∙ ap (λ x. map line g.records ++ (x ∷ [])) (sym a.is)
              ∙ sym (map_push line g.records f);
          statable = All-push Statable g.records f g.statable a.statable;
          passing = All-push (λ x. Passes bodies x.body) g.records f g.passing a.passes;
          bytes = a.adds ∙ ap (λ t. t ++ bytes_of f) g.bytes ∙ flat_map_more bytes_of [] g.records f;
        }

    pub next : (bytes : List ℕ) → Taken bodies (unremarked l) out bytes → Going bodies (parts text) (n + 1) bytes
    next bytes (inl h) = skips h.0 bytes h.1
    next bytes (inr h) = adds h.0 bytes h.1

    pub stop : NotTaken bodies (unremarked l) → Unstated bodies text (n + 1)
    stop h =
        let is = part_is_line text l n inside here h.0 in
        let whole : lines text ≡ take n (lines text) ++ (l ∷ drop (n + 1) (lines text))
        = sym (take-append-drop n (lines text)) ∙ ap (λ ls. take n (lines text) ++ ls) (drop_more (lines text) n l is.0 ∙ ap (λ x. x ∷ drop (n + 1) (lines text)) (sym is.1.0)) in
        let inside : n < length (lines text) = is.0 in
        record {
          before = take n (lines text);
          refused = l;
          after = drop (n + 1) (lines text);
          splits = whole;
          numbered = (let k = length-take-le n (lines text) (omega arith) in omega arith);
          earlier = g.records;
          stated = ap (λ ls. kept (map unremarked ls)) (sym is.1.1) ∙ g.stated;
          statable = g.statable;
          passing = g.passing;
          serious = h.0;
          foreign = h.1;
        }

  pub finish : n ≡ length (parts text) → Composed bodies text out
  finish e =
      let all : take n (parts text) ≡ parts text = take_all n (parts text) (omega arith) in
      let says : statements text ≡ map line g.records = sym (same_statements text) ∙ ap (λ ls. kept (map unremarked ls)) (sym all) ∙ g.stated in
      let sound : AllByRecursion Sound g.records = All-weaker Statable Sound (λ f s. s.sound) g.records g.statable in
      let cut : Cut out 0 (entries 0 g.records) = subst (λ bs. Cut bs 0 (entries 0 g.records)) (sym g.bytes) (reading_laws.cuts_back g.records sound) in
      record {
        records = g.records;
        stated = record { stated = says; statable = g.statable };
        passing = g.passing;
        only = λ others s. same_lines others g.records s.statable g.statable (sym s.stated ∙ says);
        bytes = g.bytes;
        cut = cut;
        undone = λ again h. listed_again out g.records sound cut again h ∙ sym says;
      }
