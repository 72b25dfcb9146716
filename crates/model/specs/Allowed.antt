-- Which cells a store may hold, and the cells that the commands set.
use Rattle.std.specs.Prelude.{◌≡◌, Bool, true, false, cond, not, ◌&&◌, ◌||◌, Option, ◌≢◌}
use Rattle.std.specs.Option.{option_map}
use Rattle.model.specs.States.{States, same}
use Rattle.model.specs.declared.scale.StateCommand.{StateCommand}
use Rattle.model.specs.declared.scale.StateCommand.TheVariants.{Grant, Taint, Suspend, Deny}
use Rattle.model.specs.declared.cell.Cell.{Cell}
use Rattle.model.specs.declared.cell.Orientation.{Orientation}
use Rattle.model.specs.declared.cell.Orientation.TheVariants.{Up, Down, Neutral}

-- a state that travels up is oriented up, any other down or neutral; an option stands only with GRANT's state
pub record Allowed {S : Type 0} (s : States S) (c : Cell S) : Type 0 where
  pub upward : s.travels_up c.state ≡ true → c.orientation ≡ Up
  pub downward : s.travels_up c.state ≡ false → c.orientation ≢ Up
  pub option_with_grant : c.option ≡ true → c.state ≡ s.granted

-- whether an orientation suits a state that travels up, or does not
abbrev pub oriented_well : Bool → Orientation → Bool
oriented_well up Up = up
oriented_well up Down = not up
oriented_well up Neutral = not up

-- `Allowed` as a computed test
abbrev pub is_allowed : {S : Type 0} → States S → Cell S → Bool
is_allowed s c =
    oriented_well (s.travels_up c.state) c.orientation && (not c.option || same s c.state s.granted)

-- the cell of what nobody assigned
abbrev pub unassigned : {S : Type 0} → States S → Cell S
unassigned s = record { state = s.unassign; orientation = Up; option = false }

-- as a state travels
abbrev pub travelling : Bool → Orientation
travelling true = Up
travelling false = Down

-- a state's cell: neutral, or oriented as the state travels
abbrev pub cell_of : {S : Type 0} → States S → Bool → Bool → S → Cell S
cell_of s neutral option x =
    record { state = x; orientation = cond neutral Neutral (travelling (s.travels_up x)); option = option }

-- the cell that a command sets, if the scale has its state
abbrev pub set_by : {S : Type 0} → States S → StateCommand → Bool → Bool → Option (Cell S)
set_by s c neutral option = option_map (cell_of s neutral option) (s.assigned c)

-- an option goes with GRANT only, and neutral with the others only
abbrev pub fitting : StateCommand → Bool → Bool → Bool
fitting Grant neutral option = not neutral
fitting Taint neutral option = not option
fitting Suspend neutral option = not option
fitting Deny neutral option = not option

-- c is allowed, and no other allowed cell has its state
pub record OnlyAllowed {S : Type 0} (s : States S) (c : Cell S) : Type 0 where
  pub allowed : Allowed s c
  pub only : (d : Cell S) → Allowed s d → d.state ≡ c.state → d ≡ c
