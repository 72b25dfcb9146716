-- What a row's bits are after a cell is set.
use Rattle.std.proofs.Common.{◌≡◌, ℕ, ◌+◌, ◌*◌, ◌/◌, ◌%◌, ◌<◌, Bool, true, false, cond, not, ◌&&◌, ◌||◌, eqb, ltb, sym, ap, ◌∙◌, ⊎_elim, arith, rules}
use Rattle.std.proofs.lemmas.Bool.{cases_eq, cond-true, lt-ltb}
use Rattle.std.proofs.lemmas.Bool.Decides.{nat_tests}
use Rattle.std.proofs.lemmas.Nat.{div-add-mod', shr-shr}
use Rattle.bits.specs.Bit.{bit}
use Rattle.scales.specs.declared.five.FiveState.{FiveState}
use Rattle.scales.specs.Five.{five}
use Rattle.model.specs.Allowed.{is_allowed}
use Rattle.model.specs.declared.cell.Cell.{Cell}
use Rattle.model.specs.declared.cell.Orientation.{Orientation}
use Rattle.bitmap.specs.declared.row.Row.{Row}
use Rattle.bitmap.specs.Layout.{code_at, option_at, is_code, valid_by, valid_at, ValidRow, cell_as, decode, cell_at, encode_as, encode, CodeSet}

pub five_bits : (n : ℕ) → n < 32 → 16 * bit n 4 + 8 * bit n 3 + 4 * bit n 2 + 2 * bit n 1 + bit n 0 ≡ n
five_bits n h =
    let one = div-add-mod' n 2 in
    let two = div-add-mod' (n / 2) 2 in
    let four = div-add-mod' (n / 4) 2 in
    let eight = div-add-mod' (n / 8) 2 in
    let e2 : n / 2 / 2 ≡ n / 4 = shr-shr n 1 1 in
    let e4 : n / 4 / 2 ≡ n / 8 = shr-shr n 2 1 in
    let e8 : n / 8 / 2 ≡ n / 16 = shr-shr n 3 1 in
    let top : n / 16 % 2 ≡ n / 16 = omega arith in
    let all : n / 1 ≡ n = omega arith in
    omega arith

pub upper_at : {t s d n t' s' d' n' : ℕ} (a b : ℕ) → t ≡ t' → s ≡ s' → d ≡ d' → n ≡ n' → (16 * a + 8 * t + 4 * s + 2 * d + n) % 16 ≡ (16 * b + 8 * t' + 4 * s' + 2 * d' + n') % 16
upper_at a b p q u v = omega arith

pub bit_test : {n : ℕ} (b : Bool) → n ≡ cond b 1 0 → eqb n 1 ≡ b
bit_test true e = ap (λ (n : ℕ). eqb n 1) e
bit_test false e = ap (λ (n : ℕ). eqb n 1) e

-- an allowed cell has a legal code, an option only with grant, and is read back
cell_fits : (x : FiveState) (w : Orientation) (o : Bool) → is_allowed five (cell_as x w o) ≡ true → ((is_code (encode_as x w) && (not o || eqb (encode_as x w) 0b10000)) ≡ true) × (decode (encode_as x w) o ≡ cell_as x w o)
cell_fits x w o e = search rules

module _ (r t : Row) (k : ℕ) (c : Cell FiveState) (low : k < 8) (good : is_allowed five c ≡ true) (put : CodeSet r t k (encode c) c.option) where
  fits : ((is_code (encode c) && (not c.option || eqb (encode c) 0b10000)) ≡ true) × (decode (encode c) c.option ≡ c)
  fits = cell_fits c.state c.orientation c.option good

  at_k : valid_at t k ≡ true
  at_k =
      ap (λ (n : ℕ). valid_by k n (option_at t k)) put.here
      ∙ ap (λ (o : Bool). valid_by k (encode c) o) put.option_here
      ∙ cond-true (ltb k 8) _ _ (lt-ltb k 8 low)
      ∙ fits.0

  middle : (code : ℕ) (option : Bool) → valid_by (k + 16) code option ≡ eqb (code % 16) 0
  middle code option = grind (arith, nat_tests)

  -- another option stays
  option_kept : (j : ℕ) → (j ≡ k → ⊥) → option_at t j ≡ option_at r j
  option_kept j ne = ap (λ (n : ℕ). eqb n 1) (put.acl_others (j + 16) (λ e. omega arith) (λ e. ne (omega arith)))

  pub set_valid : ValidRow r → ValidRow t
  set_valid ok j lt =
      ⊎_elim
      (λ e. ap (valid_at t) e ∙ at_k)
      (λ ne. ⊎_elim
      (λ e. ap (valid_at t) e ∙ middle (code_at t (k + 16)) _ ∙ ap (λ (n : ℕ). eqb n 0) put.upper ∙ sym (middle (code_at r (k + 16)) (option_at r (k + 16))) ∙ ap (valid_at r) (sym e) ∙ ok j lt)
      (λ nf. ap (λ (n : ℕ). valid_by j n (option_at t j)) (put.others j ne nf) ∙ ap (valid_by j (code_at r j)) (option_kept j ne) ∙ ok j lt)
      (cases_eq j (k + 16)))
      (cases_eq j k)

  pub set_here : cell_at t k ≡ c
  set_here = ap (λ (n : ℕ). decode n (option_at t k)) put.here ∙ ap (decode (encode c)) put.option_here ∙ fits.1

  pub set_others : (j : ℕ) → j < 8 → (j ≡ k → ⊥) → cell_at t j ≡ cell_at r j
  set_others j lt ne = ap (λ (n : ℕ). decode n (option_at t j)) (put.others j ne (λ e. omega arith)) ∙ ap (decode (code_at r j)) (option_kept j ne)
