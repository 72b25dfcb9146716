-- Cutting a body into its words and joining words into a body undo each other.
use Rattle.std.proofs.Common.{◌≡◌, ℕ, eqb, false, List, [], ◌∷◌, length, refl, ap, ◌∙◌, arith, All}
use Rattle.std.specs.List.{AllByRecursion}
use Rattle.std.proofs.lemmas.Bool.{ne_eqb}
use Rattle.std.proofs.lemmas.List.Elements.{All-weaker, All-from_recursion}
use Rattle.std.proofs.lemmas.List.Splits.{join_with_byte-slice_split, length-slice_split, slice_split_at, slice_split_none}
use Rattle.words.specs.Words.{words, join}

-- a body has a word
pub some_word : (bs : List ℕ) → words bs ≡ [] → ⊥
unfolding words
some_word bs e = omega (arith, ap length e, length-slice_split (λ b. eqb b 32) bs)

pub join_words : (bs : List ℕ) → join (words bs) ≡ bs
unfolding words
join_words bs = join_with_byte-slice_split 32 bs

-- no byte of the word is a space
abbrev pub Solid : List ℕ → Type 0
Solid = AllByRecursion (λ b. b ≡ 32 → ⊥)

no_space : (w : List ℕ) → Solid w → All (λ b. eqb b 32 ≡ false) w
no_space w h = All-weaker (λ b. b ≡ 32 → ⊥) (λ b. eqb b 32 ≡ false) (λ b f. ne_eqb b 32 f) w (All-from_recursion (λ b. b ≡ 32 → ⊥) w h)

pub words_join : (ws : List (List ℕ)) → (ws ≡ [] → ⊥) → AllByRecursion Solid ws → words (join ws) ≡ ws
unfolding words
words_join [] f h = absurd (f refl)
words_join (w ∷ []) f h = slice_split_none (λ b. eqb b 32) w (no_space w h.0)
words_join (w ∷ x ∷ ws) f h = slice_split_at (λ b. eqb b 32) w 32 (join (x ∷ ws)) (no_space w h.0) refl ∙ ap (λ l. w ∷ l) (words_join (x ∷ ws) (λ e. cc) h.1)
