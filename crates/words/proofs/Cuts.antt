-- The word at an offset, and the words after it.
use Rattle.std.proofs.Common.{◌≡◌, ℕ, zero, suc, ◌+◌, ◌-◌, ◌<◌, ◌≤◌, ◌==◌, true, false, not, cond, List, [], ◌∷◌, Some, None, length, take, drop, nat_lt, unwrap_or, position, sym, refl, ap, ◌∙◌, subst, arith, length-drop, length-take-le, take_all}
use Rattle.std.specs.List.{onto_first, position_or_len, slice_range}
use Rattle.std.proofs.lemmas.Bool.{cond_both, ltb-false}
use Rattle.std.proofs.lemmas.List.Sums.{prefix_len-le-length}
use Rattle.words.specs.declared.token.Token.{Token}
use Rattle.words.specs.declared.token.Token.TheVariants as token
use Rattle.words.specs.Words.{words, words_from, text, place, Tells, WordAt}

pub past : (bs : List ℕ) (at : ℕ) → length bs < at → words_from bs at ≡ []
unfolding words_from
past bs zero h = absurd (omega arith)
past [] (suc n) h = refl
past (b ∷ bs) (suc n) h = past bs n (omega arith)

-- how many bytes stand before the first space, or before the end
abbrev solid : List ℕ → ℕ
solid xs = position_or_len (λ b. b == 32) xs

solid_within : (xs : List ℕ) → solid xs ≤ length xs
solid_within xs = prefix_len-le-length (λ b. not (b == 32)) xs

-- the same by `position`
solid_by_position : (xs : List ℕ) → unwrap_or (position (λ b. b == 32) xs) (length xs) ≡ solid xs
solid_by_position xs =
    cond_both (nat_lt (solid xs) (length xs)) (Some (solid xs)) None (λ o. unwrap_or o (length xs) ≡ solid xs)
    (λ _. refl)
    (λ e. omega (arith, ltb-false (solid xs) (length xs) e, solid_within xs))

front : (xs : List ℕ) → words xs ≡ take (solid xs) xs ∷ words_from xs (suc (solid xs))
unfolding words words_from
front [] = refl
front (b ∷ xs) =
    elim (b == 32) as (λ v. cond v ([] ∷ words xs) (onto_first b (words xs)) ≡ take (cond (not v) (1 + solid xs) 0) (b ∷ xs) ∷ words_from (b ∷ xs) (suc (cond (not v) (1 + solid xs) 0))) [
      | true ↦ refl
      | false ↦ let e : suc (solid xs) ≡ 1 + solid xs = omega arith in subst (λ k. onto_first b (words xs) ≡ take k (b ∷ xs) ∷ words_from (b ∷ xs) (suc k)) e (ap (onto_first b) (front xs))
    ]

cut : (bs : List ℕ) (at : ℕ) → at ≤ length bs → words_from bs at ≡ take (solid (drop at bs)) (drop at bs) ∷ words_from bs (at + solid (drop at bs) + 1)
unfolding words_from
cut bs zero h = let e : suc (solid bs) ≡ 0 + solid bs + 1 = omega arith in front bs ∙ ap (λ k. take (solid bs) bs ∷ words_from bs k) e
cut [] (suc at) h = absurd (omega arith)
cut (b ∷ bs) (suc at) h =
    let r = solid (drop at bs) in
    let e : suc (at + r + 1) ≡ suc at + r + 1 = omega arith in
    cut bs at (omega arith) ∙ ap (λ k. take r (drop at bs) ∷ words_from (b ∷ bs) k) e

tells_text : (w : List ℕ) (at : ℕ) (t : Token) → Tells w at t → text t ≡ w
tells_text w at (token.Keyword s o) h = h.0
tells_text w at (token.Principal s o p) h = h.0
tells_text w at (token.Object s o n) h = h.0
tells_text w at (token.Number s o n) h = h.0

tells_place : (w : List ℕ) (at : ℕ) (t : Token) → Tells w at t → place t ≡ at
tells_place w at (token.Keyword s o) h = h.1
tells_place w at (token.Principal s o p) h = h.1
tells_place w at (token.Object s o n) h = h.1
tells_place w at (token.Number s o n) h = h.1

-- the word up to the first space, where the rest of the body begins with it
pub step : (bs : List ℕ) (at n : ℕ) (rest : List ℕ) (t : Token) → at ≤ length bs → rest ≡ slice_range bs at (length bs) → n ≡ unwrap_or (position (λ b. b == 32) rest) (length rest) → Tells (take n rest) at t → WordAt bs at t
step bs at n rest t h r i d =
    let from : rest ≡ drop at bs = r ∙ take_all (length bs - at) (drop at bs) (omega (arith, length-drop at bs)) in
    let same = tells_text (take n rest) at t d in
    let whole : text t ≡ take (solid rest) rest = same ∙ ap (λ k. take k rest) (i ∙ solid_by_position rest) in
    let long : length (text t) ≡ solid rest = ap length whole ∙ length-take-le (solid rest) rest (solid_within rest) in
    let cuts : words_from bs at ≡ take (solid rest) rest ∷ words_from bs (at + solid rest + 1) = rw from (cut bs at h) in
    record {
      tells = subst (λ x. Tells x at t) (sym same) d;
      stands = tells_place (take n rest) at t d;
      first = cuts ∙ ap (λ x. x ∷ words_from bs (at + solid rest + 1)) (sym whole) ∙ ap (λ k. text t ∷ words_from bs (at + k + 1)) (sym long);
      within = omega (arith, solid_within rest, ap length from, length-drop at bs);
    }
