-- Where a text is cut into lines.
use Rattle.std.proofs.Common.{◌≡◌, ℕ, ◌<◌, Bool, false, cond, eqb, ltb, not, ◌⊎◌, List, [], ◌∷◌, ◌++◌, map, length, get_or, take, Some, None, sym, ap, refl, ◌∙◌, subst, inl, inr, arith, append-nil}
use Rattle.std.proofs.lemmas.List.{get_or_append_left, get_or_push, length_push, map_push, take_all, take-append-le}
use Rattle.std.proofs.lemmas.List.Elements.{filter-append}
use Rattle.std.proofs.lemmas.List.Splits.{slice_split-cons_yes, slice_split-cons_no}
use Rattle.std.proofs.lemmas.List.Sums.{take_while-cons}
use Rattle.std.proofs.lemmas.Bool.Decides.{nat_tests}
use Rattle.std.proofs.lemmas.Bool.{both_ways, cases_Bool, cases_eq, cases_lt, cond-true, cond-false, eq-eqb, ne_eqb}
use Rattle.std.specs.List.{AllByRecursion, onto_first, position, position_or_len, slice_split}
use Rattle.notation.specs.Lines.{lines, unremarked, skipped, kept, statements}

abbrev pub NoFeed : ℕ → Type 0
NoFeed b = b ≡ 10 → ⊥

goes_on : (b : ℕ) (bs : List ℕ) → NoFeed b → lines (b ∷ bs) ≡ onto_first b (lines bs)
goes_on b bs n = cond-false (eqb b 10) ([] ∷ lines bs) (onto_first b (lines bs)) (ne_eqb b 10 n)

-- a line and a line feed
pub lines_feed : (l rest : List ℕ) → AllByRecursion NoFeed l → lines (l ++ (10 ∷ rest)) ≡ l ∷ lines rest
lines_feed [] rest n = refl
lines_feed (b ∷ bs) rest n = goes_on b (bs ++ (10 ∷ rest)) n.0 ∙ ap (onto_first b) (lines_feed bs rest n.1)

-- the parts of a text between its line feeds
abbrev pub parts : List ℕ → List (List ℕ)
parts text = slice_split (λ b. eqb b 10) text

joined : (b : ℕ) (ls : List (List ℕ)) → (onto_first b (ls ++ ([] ∷ [])) ≡ onto_first b ls) ⊎ (onto_first b (ls ++ ([] ∷ [])) ≡ onto_first b ls ++ ([] ∷ []))
joined b [] = inl refl
joined b (l ∷ ls) = inr refl

-- the parts are the lines, and behind a last line feed one part more, which is empty
pub parts_lines : (text : List ℕ) → (parts text ≡ lines text) ⊎ (parts text ≡ lines text ++ ([] ∷ []))
parts_lines [] = inr refl
parts_lines (b ∷ bs) =
    let is : ℕ → Bool = λ x. eqb x 10 in
    elim (cases_eq b 10) [
      | inl e ↦ (let cut : parts (b ∷ bs) ≡ [] ∷ parts bs = slice_split-cons_yes is b bs (eq-eqb b 10 e) in
          let ends : lines (b ∷ bs) ≡ [] ∷ lines bs = cond-true (eqb b 10) ([] ∷ lines bs) (onto_first b (lines bs)) (eq-eqb b 10 e) in
          elim (parts_lines bs) [
            | inl h ↦ inl (cut ∙ ap (λ ls. [] ∷ ls) h ∙ sym ends)
            | inr h ↦ inr (cut ∙ ap (λ ls. [] ∷ ls) h ∙ ap (λ ls. ls ++ ([] ∷ [])) (sym ends))
          ])
      | inr n ↦ (let cut : parts (b ∷ bs) ≡ onto_first b (parts bs) = slice_split-cons_no is b bs (ne_eqb b 10 n) in
          let on : lines (b ∷ bs) ≡ onto_first b (lines bs) = goes_on b bs n in
          elim (parts_lines bs) [
            | inl h ↦ inl (cut ∙ ap (onto_first b) h ∙ sym on)
            | inr h ↦ elim (joined b (lines bs)) [
              | inl j ↦ inl (cut ∙ ap (onto_first b) h ∙ j ∙ sym on)
              | inr j ↦ inr (cut ∙ ap (onto_first b) h ∙ j ∙ ap (λ ls. ls ++ ([] ∷ [])) (sym on))
            ]
          ])
    ]

-- kept lines, one more at the end
pub kept_more : (ls : List (List ℕ)) (l : List ℕ) → kept (ls ++ (l ∷ [])) ≡ kept ls ++ kept (l ∷ [])
kept_more ls l = filter-append (λ x. not (skipped x)) ls (l ∷ [])

-- a part that states something is a line
pub part_is_line : (text l : List ℕ) (n : ℕ) → n < length (parts text) → l ≡ get_or (parts text) n l → skipped (unremarked l) ≡ false
    → (n < length (lines text)) × ((l ≡ get_or (lines text) n l) × (take n (parts text) ≡ take n (lines text)))
part_is_line text l n inside here states =
    elim (parts_lines text) [
      | inl e ↦ (subst (λ ls. n < length ls) e inside, (here ∙ ap (λ ls. get_or ls n l) e, ap (take n) e))
      | inr e ↦ (let long = ap length e in
          let more = length_push (lines text) [] in
          elim (cases_lt n (length (lines text))) [
            | inl k ↦ (k, (here ∙ ap (λ ls. get_or ls n l) e ∙ get_or_append_left (lines text) ([] ∷ []) l n k, ap (take n) e ∙ take-append-le n (lines text) ([] ∷ []) (omega arith)))
            | inr k ↦ (let empty : l ≡ [] = here ∙ ap (λ ls. get_or ls n l) e ∙ get_or_push (lines text) [] l n (omega arith) in
                absurd (both_ways (skipped (unremarked l)) states (ap (λ x. skipped (unremarked x)) empty)))
          ])
    ]

-- the lines state what the parts do
pub same_statements : (text : List ℕ) → kept (map unremarked (parts text)) ≡ statements text
same_statements text =
    elim (parts_lines text) [
      | inl e ↦ ap (λ ls. kept (map unremarked ls)) e
      | inr e ↦ (ap (λ ls. kept (map unremarked ls)) e ∙ ap kept (map_push unremarked (lines text) []) ∙ kept_more (map unremarked (lines text)) [] ∙ append-nil (statements text))
    ]

-- a remark begins at the first tab
pub unremarked_tab : (b : ℕ) (bs : List ℕ) → b ≡ 9 → unremarked (b ∷ bs) ≡ []
unremarked_tab b bs e = ap (λ x. unremarked (x ∷ bs)) e

pub unremarked_more : (b : ℕ) (bs : List ℕ) → (b ≡ 9 → ⊥) → unremarked (b ∷ bs) ≡ b ∷ unremarked bs
unremarked_more b bs n = take_while-cons (λ x. not (eqb x 9)) b bs ∙ ap (λ t. cond (not t) (b ∷ unremarked bs) []) (ne_eqb b 9 n)

-- the statement ends where the first tab is
pub to_tab : (l : List ℕ) (tab : ℕ) → position (λ b. eqb b 9) l ≡ Some tab → take tab l ≡ unremarked l
to_tab l tab e =
    let n = position_or_len (λ b. eqb b 9) l in
    elim (cases_Bool (ltb n (length l))) [
      | inl t ↦ (let found : Some n ≡ Some tab = sym (cond-true (ltb n (length l)) (Some n) None t) ∙ e in
          let same : n ≡ tab = cc in
          ap (λ k. take k l) (sym same))
      | inr f ↦ absurd (let lost : None ≡ Some tab = sym (cond-false (ltb n (length l)) (Some n) None f) ∙ e in cc)
    ]

pub no_tab : (l : List ℕ) → position (λ b. eqb b 9) l ≡ None → l ≡ unremarked l
no_tab l e =
    let n = position_or_len (λ b. eqb b 9) l in
    elim (cases_Bool (ltb n (length l))) [
      | inl t ↦ absurd (let lost : Some n ≡ None = sym (cond-true (ltb n (length l)) (Some n) None t) ∙ e in cc)
      | inr f ↦ sym (take_all n l (grind (arith, nat_tests)))
    ]
