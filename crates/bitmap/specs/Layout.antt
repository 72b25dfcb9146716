-- How the bits of a row read.
use Rattle.std.specs.Prelude.{◌≡◌, ℕ, ◌+◌, ◌*◌, ◌%◌, ◌<◌, Bool, true, false, cond, not, ◌&&◌, ◌||◌, ◌==◌, ◌≢◌, nat_lt, Some, None, Option, is_some}
use Rattle.bits.specs.Bit.{bit}
use Rattle.scales.specs.declared.five.FiveState.{FiveState}
use Rattle.scales.specs.declared.five.FiveState.TheVariants.{Deny, Suspend, Taint, Grant, Unassign}
use Rattle.model.specs.declared.cell.Cell.{Cell}
use Rattle.model.specs.declared.cell.Orientation.{Orientation}
use Rattle.model.specs.declared.cell.Orientation.TheVariants.{Up, Down, Neutral}
use Rattle.bitmap.specs.declared.row.Row.{Row}

-- bit k of acl, taint, suspend, deny and neut, in that order, as one number of five bits
abbrev pub code_at : Row → ℕ → ℕ
code_at r k = 16 * bit r.acl k + 8 * bit r.taint k + 4 * bit r.suspend k + 2 * bit r.deny k + bit r.neut k

-- whether bit k + 16 of acl is set
abbrev pub option_at : Row → ℕ → Bool
option_at r k = bit r.acl (k + 16) == 1

abbrev pub cell_as : FiveState → Orientation → Bool → Cell FiveState
cell_as x t o = record { state = x; orientation = t; option = o }

-- the state and the orientation of each of the eight combinations
abbrev pub combination : ℕ → Option (FiveState × Orientation)
combination c =
    cond (c == 0b00000) (Some (Unassign, Up))
    (cond (c == 0b10000) (Some (Grant, Up))
    (cond (c == 0b01000) (Some (Taint, Down))
    (cond (c == 0b00100) (Some (Suspend, Down))
    (cond (c == 0b00010) (Some (Deny, Down))
    (cond (c == 0b01001) (Some (Taint, Neutral))
    (cond (c == 0b00101) (Some (Suspend, Neutral))
    (cond (c == 0b00011) (Some (Deny, Neutral))
    None)))))))

abbrev pub is_code : ℕ → Bool
is_code c = is_some (combination c)

abbrev pub is_grant : FiveState → Bool
is_grant Deny = false
is_grant Suspend = false
is_grant Taint = false
is_grant Grant = true
is_grant Unassign = false

-- the cell of a combination: an option stands only with grant
abbrev pub decoded : Option (FiveState × Orientation) → Bool → Cell FiveState
decoded None o = cell_as Unassign Up false
decoded (Some (x, t)) o = cell_as x t (is_grant x && o)

abbrev pub decode : ℕ → Bool → Cell FiveState
decode c o = decoded (combination c) o

-- the combination of each cell
abbrev pub encode_as : FiveState → Orientation → ℕ
encode_as Unassign Up = 0b00000
encode_as Unassign Down = 0b00000
encode_as Unassign Neutral = 0b00000
encode_as Grant Up = 0b10000
encode_as Grant Down = 0b10000
encode_as Grant Neutral = 0b10000
encode_as Taint Up = 0b01000
encode_as Taint Down = 0b01000
encode_as Taint Neutral = 0b01001
encode_as Suspend Up = 0b00100
encode_as Suspend Down = 0b00100
encode_as Suspend Neutral = 0b00101
encode_as Deny Up = 0b00010
encode_as Deny Down = 0b00010
encode_as Deny Neutral = 0b00011

abbrev pub encode : Cell FiveState → ℕ
encode c = encode_as c.state c.orientation

-- the cell of privilege k
abbrev pub cell_at : Row → ℕ → Cell FiveState
cell_at r k = decode (code_at r k) (option_at r k)

-- bits 0 to 7: one of the eight combinations, and an option only with grant;
-- bits 16 to 23: none but the options; all others: none
abbrev pub valid_by : ℕ → ℕ → Bool → Bool
valid_by k code option =
    cond (nat_lt k 8) (is_code code && (not option || code == 0b10000))
    (cond (nat_lt k 16) (code == 0)
    (cond (nat_lt k 24) (code % 16 == 0)
    (code == 0)))

abbrev pub valid_at : Row → ℕ → Bool
valid_at r k = valid_by k (code_at r k) (option_at r k)

abbrev pub ValidRow : Row → Type 0
ValidRow r = (k : ℕ) → k < 32 → valid_at r k ≡ true

-- one digit of a word set, and no other changed
pub record DigitSet (x y k d : ℕ) : Type 0 where
  pub same : bit y k ≡ d
  pub others : (i : ℕ) → (i ≢ k) → bit y i ≡ bit x i

-- a row with a combination and an option set at k
pub record CodeSet (r t : Row) (k code : ℕ) (option : Bool) : Type 0 where
  pub here : code_at t k ≡ code
  pub option_here : option_at t k ≡ option
  pub others : (i : ℕ) → (i ≢ k) → (i ≢ k + 16) → code_at t i ≡ code_at r i
  pub acl_others : (i : ℕ) → (i ≢ k) → (i ≢ k + 16) → bit t.acl i ≡ bit r.acl i
  pub upper : code_at t (k + 16) % 16 ≡ code_at r (k + 16) % 16
  pub granter : t.granter ≡ r.granter
  pub grantee : t.grantee ≡ r.grantee

-- a row with one cell changed
pub record CellSet (r t : Row) (k : ℕ) (c : Cell FiveState) : Type 0 where
  pub here : cell_at t k ≡ c
  pub others : (i : ℕ) → i < 8 → (i ≢ k) → cell_at t i ≡ cell_at r i
