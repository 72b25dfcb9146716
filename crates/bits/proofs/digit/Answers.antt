use Rattle.std.proofs.Common.{sym, arith}
use Rattle.std.proofs.lemmas.Nat.Bits.{bit_at_above}
use Rattle.bits.proofs.digit.Goals as goal

pub returns-else-k-lt-WIDTH-clause-value : goal.returns-else-k-lt-WIDTH-clause-value
returns-else-k-lt-WIDTH-clause-value c = sym (bit_at_above c.args.x 32 c.args.k (omega arith) (omega arith))
