-- The number, the layer and the place of each wording fault.
use Rattle.std.specs.Prelude.{ℕ, List}
use Rattle.reading.specs.declared.fault.Layer.{Layer}
use Rattle.reading.specs.declared.fault.Layer.TheVariants.{Wording}
use Rattle.reading.specs.Faults as reading
use Rattle.wording.specs.declared.fault.WordingFault.{WordingFault}
use Rattle.wording.specs.declared.fault.WordingFault.TheVariants.{Reading, Sentence, Range}

-- the question that was answered no
abbrev pub number_of : WordingFault → ℕ
number_of (Reading f) = reading.number_of f
number_of (Sentence p) = 7
number_of (Range p) = 8

abbrev pub layer_of : WordingFault → Layer
layer_of (Reading f) = reading.layer_of f
layer_of (Sentence p) = Wording
layer_of (Range p) = Wording

-- the record's offset in its input, or the word's in the body
abbrev pub place_of : WordingFault → ℕ
place_of (Reading f) = reading.place_of f
place_of (Sentence p) = p
place_of (Range p) = p

-- no 7 at 5
abbrev pub shown : WordingFault → List ℕ
shown f = reading.told (number_of f) (place_of f)
