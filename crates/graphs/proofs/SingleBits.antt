-- Single bits of a set of roles.
use Rattle.std.proofs.Common.{◌≡◌, ℕ, zero, suc, ◌*◌, ◌%◌, ◌^◌, ◌<◌, Bool, true, false, cond, not, ◌&&◌, ◌||◌, max, eqb, sym, refl, ap, ◌∙◌, ⊎_elim, arith, eq-eqb, ne_eqb, w64}
use Rattle.std.specs.Int.{bit_not}
use lib.Bits.{bit_and, bit_or}
use Rattle.std.proofs.lemmas.Bool.{cases_eq}
use Rattle.std.proofs.lemmas.Nat.Bits.{bit_at_or, bit_at-lt, bit_at-zero, bit_at_set_same, bit_at_set_other, bit_at_clear_same, bit_at_clear_other}
use Rattle.graphs.specs.Rows.{bit_at}

either_one : (x y : ℕ) → x < 2 → y < 2 → eqb (max x y) 1 ≡ (eqb y 1 || eqb x 1)
either_one zero zero h g = refl
either_one zero (suc zero) h g = refl
either_one (suc zero) zero h g = refl
either_one (suc zero) (suc zero) h g = refl
either_one zero (suc (suc y)) h g = absurd (omega arith)
either_one (suc zero) (suc (suc y)) h g = absurd (omega arith)
either_one (suc (suc x)) y h g = absurd (omega arith)

pub bit_at-or : (x y j : ℕ) → bit_at (bit_or x y) j ≡ (bit_at y j || bit_at x j)
unfolding bit_at
bit_at-or x y j = ap (λ n. eqb n 1) (bit_at_or x y j) ∙ either_one _ _ (bit_at-lt x j) (bit_at-lt y j)

pub bit_at-with : (n k j : ℕ) → k < 64 → bit_at (bit_or n (1 * 2 ^ k % 2 ^ 64)) j ≡ (eqb k j || bit_at n j)
unfolding bit_at
bit_at-with n k j l =
    ⊎_elim
    (λ (q : k ≡ j). ap (λ i. bit_at (bit_or n (1 * 2 ^ k % 2 ^ 64)) i) (sym q) ∙ ap (λ b. eqb b 1) (bit_at_set_same w64 n k l) ∙ ap (λ b. b || bit_at n j) (sym (eq-eqb k j q)))
    (λ (q : k ≡ j → ⊥). ap (λ b. eqb b 1) (bit_at_set_other w64 n k l j (λ e. q (sym e))) ∙ ap (λ b. b || bit_at n j) (sym (ne_eqb k j q)))
    (cases_eq k j)

pub bit_at-without : (n k j : ℕ) → k < 64 → j < 64 → bit_at (bit_and n (bit_not w64 (1 * 2 ^ k % 2 ^ 64))) j ≡ (not (eqb k j) && bit_at n j)
unfolding bit_at
bit_at-without n k j l m =
    ⊎_elim
    (λ (q : k ≡ j). ap (λ i. bit_at (bit_and n (bit_not w64 (1 * 2 ^ k % 2 ^ 64))) i) (sym q) ∙ ap (λ b. eqb b 1) (bit_at_clear_same w64 n k l) ∙ ap (λ b. not b && bit_at n j) (sym (eq-eqb k j q)))
    (λ (q : k ≡ j → ⊥). ap (λ b. eqb b 1) (bit_at_clear_other w64 n k l j m (λ e. q (sym e))) ∙ ap (λ b. not b && bit_at n j) (sym (ne_eqb k j q)))
    (cases_eq k j)

pub no_bit : (k : ℕ) → bit_at 0 k ≡ false
unfolding bit_at
no_bit k = ap (λ n. eqb n 1) (bit_at-zero k)

pub bit_if : (t : Bool) (x j : ℕ) → bit_at (cond t x 0) j ≡ (t && bit_at x j)
bit_if true x j = refl
bit_if false x j = no_bit j
