-- The older servers' scale: grant and unassign only.
use Rattle.std.specs.Prelude.{ℕ, true, List, Some, None, codes, Option}
use Rattle.model.specs.States.{States, by_rank}
use Rattle.model.specs.declared.scale.StateCommand.{StateCommand}
use Rattle.model.specs.declared.scale.StateCommand.TheVariants.{Grant as GRANT, Taint as TAINT, Suspend as SUSPEND, Deny as DENY}
use Rattle.scales.specs.declared.two.TwoState.{TwoState}
use Rattle.scales.specs.declared.two.TwoState.TheVariants.{Grant, Unassign}

abbrev pub rank : TwoState → ℕ
rank Grant = 1
rank Unassign = 0

abbrev pub assigned : StateCommand → Option TwoState
assigned GRANT = Some Grant
assigned TAINT = None
assigned SUSPEND = None
assigned DENY = None

abbrev pub printed : TwoState → List ℕ
printed Grant = codes "grant"
printed Unassign = codes "unassign"

abbrev pub two : States TwoState
two = record { overrides = by_rank rank; travels_up = λ _. true; assigned = assigned; unassign = Unassign; granted = Grant; printed = printed }
