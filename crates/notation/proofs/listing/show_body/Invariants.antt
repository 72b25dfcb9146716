use Rattle.std.proofs.Common.{◌≡◌, ◌++◌, take, string_bytes}
use Rattle.std.specs.List.{flat_map}
use Rattle.notation.specs.Shown.{shown}
use Rattle.notation.proofs.listing.show_body.Given as goal

-- the bytes of the body so far are shown
abbrev pub invariant-loop-b : goal.invariant-loop-b
invariant-loop-b l = string_bytes l.out ≡ string_bytes l.initial.out ++ flat_map shown (take l.b-index l.body)
