-- Rows of bits: bit k of a principal's row is the link to role k.
use Rattle.std.specs.Prelude.{◌≡◌, ℕ, ◌+◌, ◌/◌, ◌%◌, ◌^◌, Bool, true, ◌&&◌, List, Option, ◌==◌, nat_lt, slice_index}
use Rattle.std.specs.List.{list_any, range_with_len}
use Rattle.model.specs.declared.principal.Principal.{Principal}
use Rattle.model.specs.declared.principal.Principal.TheVariants.{User, Role}
use Rattle.model.specs.Principals.{in_range}
use Rattle.model.specs.Graphs.{Chain}
use Rattle.graphs.specs.Levels.{level_in, on_level}

unfoldable pub bit_at : ℕ → ℕ → Bool
bit_at row k = row / 2 ^ k % 2 == 1

-- users first, then roles
abbrev pub row_of : Principal → ℕ
row_of (User n) = n
row_of (Role n) = 64 + n

-- the links that the rows hold
unfoldable pub in_rows : List ℕ → Principal → ℕ → Bool
in_rows rows p k = (in_range p && nat_lt k 64) && bit_at (slice_index rows (row_of p)) k

-- f holds of a number below n. Shut, so that 64 cases are not written out.
unfoldable pub some_below : (ℕ → Bool) → ℕ → Bool
some_below f n = list_any f (range_with_len 0 n)

-- role k is in the set, has the level n and a link to role j
unfoldable pub leads : List (Option ℕ) → List ℕ → ℕ → ℕ → ℕ → ℕ → Bool
leads levels rows set n j k = (bit_at set k && on_level (level_in levels k) n) && in_rows rows (Role k) j

-- a link leads from a to a role, and a chain from there to role k
abbrev pub Below : (Principal → ℕ → Bool) → Principal → ℕ → Type 0
Below linked a k = (j : ℕ) × (linked a j ≡ true) × Chain linked (Role j) (Role k)
