-- How the records of an input are gone through.
use Rattle.std.specs.Prelude.{◌≡◌, length, Some, None, Ok, Err, Option, Result}
use Rattle.reading.specs.Records.{Reads, Refused}
use Rattle.reading.specs.declared.fault.ReadingFault.{ReadingFault}
use Rattle.reading.specs.declared.record.Record.{Record}
use Rattle.reading.specs.declared.records.Records.{Records}

-- what a step gives, and what it leaves: nothing at the end of the input, and nothing after a fault
abbrev pub Gives : Records → Option (Result Record ReadingFault) → Records → Type 0
Gives s None t = (s.at ≡ length s.input.now) × (t ≡ s)
Gives s (Some (Ok r)) t = Reads s.input.now s.at r × (t.input.now ≡ s.input.now) × (t.at ≡ r.next)
Gives s (Some (Err f)) t = Refused s.input.now s.at f × (t.input.now ≡ s.input.now) × (t.at ≡ length s.input.now)
