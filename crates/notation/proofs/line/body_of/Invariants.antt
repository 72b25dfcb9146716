use Rattle.std.proofs.Common.{◌≡◌, ◌++◌, length, vec_items}
use Rattle.std.specs.List.{flat_map, AllByRecursion}
use Rattle.notation.specs.Shown.{shown, Byte}
use Rattle.notation.proofs.line.body_of.Given as goal

-- the bytes so far are shown by what was read
abbrev pub invariant-loop-rest : goal.invariant-loop-rest
invariant-loop-rest l = AllByRecursion Byte (vec_items l.body) × (l.text ≡ flat_map shown (vec_items l.body) ++ l.rest)

abbrev pub decreases-loop-rest : goal.decreases-loop-rest
decreases-loop-rest l = length l.rest
