-- The five-state scale: strongest first deny, suspend, taint, grant, unassign.
use Rattle.std.specs.Prelude.{ℕ, Bool, true, false, List, Some, codes, Option}
use Rattle.model.specs.States.{States, by_rank}
use Rattle.model.specs.declared.scale.StateCommand.{StateCommand}
use Rattle.model.specs.declared.scale.StateCommand.TheVariants.{Grant as GRANT, Taint as TAINT, Suspend as SUSPEND, Deny as DENY}
use Rattle.scales.specs.declared.five.FiveState.{FiveState}
use Rattle.scales.specs.declared.five.FiveState.TheVariants.{Deny, Suspend, Taint, Grant, Unassign}

abbrev pub rank : FiveState → ℕ
rank Deny = 4
rank Suspend = 3
rank Taint = 2
rank Grant = 1
rank Unassign = 0

abbrev pub travels_up : FiveState → Bool
travels_up Deny = false
travels_up Suspend = false
travels_up Taint = false
travels_up Grant = true
travels_up Unassign = true

-- each command assigns its namesake
abbrev pub assigned : StateCommand → Option FiveState
assigned GRANT = Some Grant
assigned TAINT = Some Taint
assigned SUSPEND = Some Suspend
assigned DENY = Some Deny

abbrev pub printed : FiveState → List ℕ
printed Deny = codes "deny"
printed Suspend = codes "suspend"
printed Taint = codes "taint"
printed Grant = codes "grant"
printed Unassign = codes "unassign"

abbrev pub five : States FiveState
five = record { overrides = by_rank rank; travels_up = travels_up; assigned = assigned; unassign = Unassign; granted = Grant; printed = printed }
