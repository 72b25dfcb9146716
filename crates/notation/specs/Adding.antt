-- What a line adds to a file.
use Rattle.std.specs.Prelude.{◌≡◌, ℕ, true, false, ◌⊎◌, List, ◌++◌, ◌≢◌}
use Rattle.reading.specs.Records.{Frame}
use Rattle.reading.specs.Cut.{bytes_of}
use Rattle.reading.specs.declared.writing.WriteFault.{WriteFault}
use Rattle.reading.specs.declared.writing.WriteFault.TheVariants.{Issuer, Length, Memory}
use Rattle.notation.specs.declared.bodies.Bodies.{Bodies}
use Rattle.notation.specs.declared.line.LineFault.{LineFault}
use Rattle.notation.specs.declared.line.LineFault.TheVariants as line_fault
use Rattle.notation.specs.Lines.{skipped}
use Rattle.notation.specs.Shown.{line, Statable, Passes}

-- the line is that of a record, whose bytes are added
pub record Added (bodies : Bodies) (l before after : List ℕ) : Type 0 where
  pub record_of : Frame
  pub statable : Statable record_of
  pub passes : Passes bodies record_of.body
  pub is : line record_of ≡ l
  pub adds : after ≡ before ++ bytes_of record_of

-- the line is that of no record that passes
abbrev pub NotAdded : Bodies → List ℕ → Type 0
NotAdded bodies l = (f : Frame) → Statable f → Passes bodies f.body → line f ≢ l

-- a line is skipped and adds nothing, or adds its record
abbrev pub Taken : Bodies → List ℕ → List ℕ → List ℕ → Type 0
Taken bodies l before after = ((skipped l ≡ true) × (after ≡ before)) ⊎ ((skipped l ≡ false) × Added bodies l before after)

abbrev pub NotTaken : Bodies → List ℕ → Type 0
NotTaken bodies l = (skipped l ≡ false) × NotAdded bodies l

-- a record that cannot be written has no line
abbrev pub of_write : WriteFault → LineFault
of_write Issuer = line_fault.Unstated
of_write Length = line_fault.Unstated
of_write Memory = line_fault.Memory
