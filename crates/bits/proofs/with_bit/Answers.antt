use Rattle.std.proofs.Common.{◌-◌, ◌*◌, ◌%◌, ◌^◌, sym, ap, ◌∙◌, ⊎_elim, if◌then◌else◌, Bool, w32, arith}
use Rattle.std.proofs.lemmas.Bool.{cases_lt}
use Rattle.std.proofs.lemmas.Nat.Bits.{bit_at_set_same, bit_at_set_other, bit_at_clear_same, bit_at_clear_other, bit_at_and, bit_at_above}
use Rattle.bits.proofs.with_bit.Goals as goal

pub returns-then-on-clause-same : goal.returns-then-on-clause-same
returns-then-on-clause-same c = λ lt. bit_at_set_same w32 c.args.x c.args.k lt ∙ ap (λ (b : Bool). if b then 1 else 0) (sym c.if-on.true)

pub returns-then-on-clause-others : goal.returns-then-on-clause-others
returns-then-on-clause-others c = bit_at_set_other w32 c.args.x c.args.k (omega arith)

pub returns-else-on-clause-same : goal.returns-else-on-clause-same
returns-else-on-clause-same c = λ lt. bit_at_clear_same w32 c.args.x c.args.k lt ∙ ap (λ (b : Bool). if b then 1 else 0) (sym c.if-on.false)

-- past the width x has no bit to clear
pub returns-else-on-clause-others : goal.returns-else-on-clause-others
returns-else-on-clause-others c = λ j ne.
    ⊎_elim
    (λ lt. bit_at_clear_other w32 c.args.x c.args.k (omega arith) j lt ne)
    (λ le. omega (arith, bit_at_and c.args.x (4294967295 - 1 * 2 ^ c.args.k % 4294967296) j, bit_at_above c.args.x 32 j (omega arith) le))
    (cases_lt j 32)
