-- The number, the layer and the place of each reading fault, and how a fault is told.
use Rattle.std.specs.Prelude.{ℕ, List, ◌++◌, codes, decimal}
use Rattle.reading.specs.declared.fault.Layer.{Layer}
use Rattle.reading.specs.declared.fault.Layer.TheVariants.{Reading}
use Rattle.reading.specs.declared.fault.ReadingFault.{ReadingFault}
use Rattle.reading.specs.declared.fault.ReadingFault.TheVariants.{Header, Mark, Issuer, Length, Body}

-- the question that was answered no
abbrev pub number_of : ReadingFault → ℕ
number_of (Header at) = 2
number_of (Mark at) = 3
number_of (Issuer at) = 4
number_of (Length at) = 5
number_of (Body at) = 6

abbrev pub layer_of : ReadingFault → Layer
layer_of f = Reading

-- the record's offset in its input
abbrev pub place_of : ReadingFault → ℕ
place_of (Header at) = at
place_of (Mark at) = at
place_of (Issuer at) = at
place_of (Length at) = at
place_of (Body at) = at

-- no 6 at 34
abbrev pub told : ℕ → ℕ → List ℕ
told number place = codes "no " ++ (decimal number ++ (codes " at " ++ decimal place))
