-- What a record is, and what stands at an offset of an input.
use Rattle.std.specs.Prelude.{◌≡◌, ℕ, ◌+◌, ◌≤◌, List, [], ◌∷◌, length, take, drop, slice_index}
use Rattle.reading.specs.Questions.{Question, ask, AllYes, FirstNo}
use Rattle.reading.specs.Faults.{number_of, place_of}
use Rattle.reading.specs.declared.fault.ReadingFault.{ReadingFault}
use Rattle.reading.specs.declared.record.Record.{Record}

-- who issues a record, and what it says
pub record Frame : Type 0 where
  pub issuer : ℕ
  pub body : List ℕ

-- the questions about the bytes from an offset on, in their order
abbrev pub questions : List ℕ → ℕ → List Question
questions bs at =
    ask 2 (at + 4 ≤ length bs)
    ∷ ask 3 ((slice_index bs at ≡ 0x46) × (slice_index bs (at + 1) ≡ 0x52))
    ∷ ask 4 (slice_index bs (at + 2) ≤ 63)
    ∷ ask 5 ((1 ≤ slice_index bs (at + 3)) × (slice_index bs (at + 3) ≤ 64))
    ∷ ask 6 (at + 4 + slice_index bs (at + 3) ≤ length bs)
    ∷ []

-- the record f stands at the offset: every question is answered yes, and its body starts at its fifth byte
pub record Stands (bs : List ℕ) (at : ℕ) (f : Frame) : Type 0 where
  pub yes : AllYes (questions bs at)
  pub issuer : f.issuer ≡ slice_index bs (at + 2)
  pub body : f.body ≡ take (slice_index bs (at + 3)) (drop (at + 4) bs)

-- no record stands there, and it is not the end of the input: the first no is the fault's number
pub record Refused (bs : List ℕ) (at : ℕ) (f : ReadingFault) : Type 0 where
  pub more : at ≡ length bs → ⊥
  pub first : FirstNo (questions bs at) (number_of f)
  pub here : place_of f ≡ at

-- where the record after f starts
abbrev pub after : ℕ → Frame → ℕ
after at f = at + 4 + length f.body

-- what a program holds of a record
abbrev pub frame : Record → Frame
frame r = record { issuer = r.issuer; body = r.body.now }

pub record Reads (bs : List ℕ) (at : ℕ) (r : Record) : Type 0 where
  pub stands : Stands bs at (frame r)
  pub next : r.next ≡ after at (frame r)
