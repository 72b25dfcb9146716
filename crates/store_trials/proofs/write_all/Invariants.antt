use Rattle.std.proofs.Common.{◌≡◌, true}
use Rattle.store_trials.specs.Alike.{Alike}
use Rattle.store_trials.proofs.write_all.Given as goal

-- stores that were alike still are, and have answered alike
abbrev pub invariant-loop-write : goal.invariant-loop-write
invariant-loop-write g l =
    Alike g.A.Store g.B.Store l.initial.a l.initial.b
    → (l.alike ≡ true) × Alike g.A.Store g.B.Store l.a l.b
