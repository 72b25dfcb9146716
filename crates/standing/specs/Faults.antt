-- The number, the layer and the place of each refusal.
use Rattle.std.specs.Prelude.{ℕ}
use Rattle.reading.specs.declared.fault.Layer.{Layer}
use Rattle.reading.specs.declared.fault.Layer.TheVariants as layer
use Rattle.wording.specs.Faults as wording
use Rattle.standing.specs.declared.fault.StandingFault.{StandingFault}
use Rattle.standing.specs.declared.fault.StandingFault.TheVariants.{Wording, Memory, Registrar, Unknown, Taken, Level, Link, State, Privilege, Granter, Room}

-- the question that was answered no
abbrev pub number_of : StandingFault → ℕ
number_of (Wording f) = wording.number_of f
number_of Memory = 1
number_of Registrar = 9
number_of Unknown = 10
number_of Taken = 11
number_of Level = 12
number_of Link = 13
number_of State = 14
number_of Privilege = 15
number_of Granter = 16
number_of Room = 17

abbrev pub layer_of : StandingFault → Layer
layer_of (Wording f) = wording.layer_of f
layer_of Memory = layer.Standing
layer_of Registrar = layer.Standing
layer_of Unknown = layer.Standing
layer_of Taken = layer.Standing
layer_of Level = layer.Standing
layer_of Link = layer.Standing
layer_of State = layer.Standing
layer_of Privilege = layer.Standing
layer_of Granter = layer.Standing
layer_of Room = layer.Standing

-- an offset for a fault of reading or wording; standing has none to tell
abbrev pub place_of : StandingFault → ℕ
place_of (Wording f) = wording.place_of f
place_of Memory = 0
place_of Registrar = 0
place_of Unknown = 0
place_of Taken = 0
place_of Level = 0
place_of Link = 0
place_of State = 0
place_of Privilege = 0
place_of Granter = 0
place_of Room = 0
