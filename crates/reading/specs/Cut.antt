-- How an input is cut into records, and what holds of every cut.
use Rattle.std.specs.Prelude.{◌≡◌, ℕ, ◌≤◌, List, [], ◌∷◌, ◌++◌, length, take, drop, Some, None, Ok, Err, Option, Result, ◌≢◌}
use Rattle.std.specs.Option as options
use Rattle.std.specs.Result as results
use Rattle.std.specs.List.{flat_map, AllByRecursion}
use Rattle.reading.specs.Faults.{place_of}
use Rattle.reading.specs.Records.{Frame, Stands, Refused, after}
use Rattle.reading.specs.declared.fault.ReadingFault.{ReadingFault}

-- what stands at an offset of an input: a record, or a fault, which takes all the rest
pub record Entry : Type 0 where
  pub offset : ℕ
  pub what : Result Frame ReadingFault

-- the input is cut, from the offset on, into these entries
abbrev pub Cut : List ℕ → ℕ → List Entry → Type 0
Cut bs at [] = at ≡ length bs
Cut bs at (e ∷ es) =
    (e.offset ≡ at)
    × results.MatchResult e.what (λ f. Stands bs at f × Cut bs (after at f) es) (λ k. Refused bs at k × (es ≡ []))

abbrev pub with_record : Result Frame ReadingFault → List Frame → List Frame
with_record (Ok f) fs = f ∷ fs
with_record (Err k) fs = fs

-- the whole records of a cut
abbrev pub frames : List Entry → List Frame
frames [] = []
frames (e ∷ es) = with_record e.what (frames es)

abbrev pub or_fault : Result Frame ReadingFault → Option ReadingFault → Option ReadingFault
or_fault (Ok f) k = k
or_fault (Err k) j = Some k

-- the fault at which a cut ends, if it does not end with the input
abbrev pub damage : List Entry → Option ReadingFault
damage [] = None
damage (e ∷ es) = or_fault e.what (damage es)

-- a record that may be written
pub record Sound (f : Frame) : Type 0 where
  pub issuer : f.issuer ≤ 63
  pub some : 1 ≤ length f.body
  pub short : length f.body ≤ 64

-- the mark, the issuer, the length and the body
abbrev pub bytes_of : Frame → List ℕ
bytes_of f = 0x46 ∷ (0x52 ∷ (f.issuer ∷ (length f.body ∷ f.body)))

-- records one after the other
abbrev pub written : List Frame → List ℕ
written fs = flat_map bytes_of fs

-- the cut of written records, from an offset on
abbrev pub entries : ℕ → List Frame → List Entry
entries at [] = []
entries at (f ∷ fs) = record { offset = at; what = Ok f } ∷ entries (after at f) fs

-- the records of a cut and what a fault leaves over are the input
pub record Covers (bs : List ℕ) (es : List Entry) : Type 0 where
  pub rest : List ℕ
  pub whole : bs ≡ written (frames es) ++ rest
  pub sound : AllByRecursion Sound (frames es)
  pub ends : options.MatchOption (damage es) (rest ≡ []) (λ k. (place_of k ≡ length (written (frames es))) × (rest ≢ []))

pub record ReadingLaws : Type 0 where
  -- a record that was written reads back, whatever stands before and after it
  pub reads_back : (before : List ℕ) (f : Frame) (rest : List ℕ) → Sound f → Stands (before ++ (bytes_of f ++ rest)) (length before) f
      × (drop (after (length before) f) (before ++ (bytes_of f ++ rest)) ≡ rest)
  -- inputs that agree up to the end of a record have the same record there
  pub no_further : (bs cs : List ℕ) (at : ℕ) (f : Frame) → Stands bs at f → take (after at f) cs ≡ take (after at f) bs → Stands cs at f
  -- every input is cut in one way, and only one
  pub one_way : (bs : List ℕ) → (es : List Entry) × (Cut bs 0 es × ((ds : List Entry) → Cut bs 0 ds → ds ≡ es))
  -- the cut covers the input
  pub covers : (bs : List ℕ) (es : List Entry) → Cut bs 0 es → Covers bs es
  -- what was written is cut into what was written
  pub cuts_back : (fs : List Frame) → AllByRecursion Sound fs → Cut (written fs) 0 (entries 0 fs)
