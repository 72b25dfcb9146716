use Rattle.std.proofs.Common.{◌≡◌, string_bytes}
use Rattle.notation.proofs.ListLaws.{Progress}
use Rattle.notation.proofs.listing.listing.Given as goal

abbrev pub invariant-loop-entry : goal.invariant-loop-entry
invariant-loop-entry l = (l.entry-iterator.input.now ≡ l.input) × Progress l.input l.entry-iterator.at (string_bytes l.out)
