-- What a listing is, what a composed file is, and when a text is refused.
use Rattle.std.specs.Prelude.{◌≡◌, ℕ, ◌+◌, false, List, ◌∷◌, ◌++◌, map, length, None, ◌≢◌}
use Rattle.std.specs.List.{AllByRecursion}
use Rattle.reading.specs.Records.{Frame}
use Rattle.reading.specs.Cut.{Cut, frames, damage, written, entries}
use Rattle.notation.specs.declared.bodies.Bodies.{Bodies}
use Rattle.notation.specs.Lines.{lines, unremarked, skipped, kept, statements}
use Rattle.notation.specs.Shown.{line, Item, RightlyRemarked, listed, entries_of, Byte, Statable, Passes}

-- the lines of the text, but for skipped ones and for remarks, are those of these records
pub record States (text : List ℕ) (records : List Frame) : Type 0 where
  pub stated : statements text ≡ map line records
  pub statable : AllByRecursion Statable records

-- what `list` prints of an input; composed again, the text of an input without damage is that input
pub record Listed (input text : List ℕ) : Type 0 where
  pub found : List Item
  pub cut : Cut input 0 (entries_of found)
  pub remarked : AllByRecursion RightlyRemarked found
  pub shows : text ≡ listed found
  pub undone : AllByRecursion Byte input → damage (entries_of found) ≡ None → States text (frames (entries_of found)) × (written (frames (entries_of found)) ≡ input)

-- what `compose` makes of a text: the records of its lines, and of no others; listed again they are those lines
pub record Composed (bodies : Bodies) (text out : List ℕ) : Type 0 where
  pub records : List Frame
  pub stated : States text records
  pub passing : AllByRecursion (λ f. Passes bodies f.body) records
  pub only : (others : List Frame) → States text others → others ≡ records
  pub bytes : out ≡ written records
  pub cut : Cut out 0 (entries 0 records)
  pub undone : (again : List ℕ) → Listed out again → map unremarked (lines again) ≡ statements text

-- the line of this number, counted from 1, is the first that is neither skipped nor the line of a record that passes
pub record Unstated (bodies : Bodies) (text : List ℕ) (number : ℕ) : Type 0 where
  pub before : List (List ℕ)
  pub refused : List ℕ
  pub after : List (List ℕ)
  pub splits : lines text ≡ before ++ (refused ∷ after)
  pub numbered : number ≡ length before + 1
  pub earlier : List Frame
  pub stated : kept (map unremarked before) ≡ map line earlier
  pub statable : AllByRecursion Statable earlier
  pub passing : AllByRecursion (λ f. Passes bodies f.body) earlier
  pub serious : skipped (unremarked refused) ≡ false
  pub foreign : (f : Frame) → Statable f → Passes bodies f.body → line f ≢ unremarked refused
