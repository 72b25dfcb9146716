-- What rows, and the table of all objects, hold.
use Rattle.std.specs.Prelude.{◌≡◌, ℕ, ◌<◌, Bool, true, false, cond, ◌&&◌, ◌==◌, List, Result, MatchResult, fold, slice_index_or}
use Rattle.scales.specs.declared.five.FiveState.{FiveState}
use Rattle.scales.specs.declared.five.FiveState.TheVariants.{Unassign}
use Rattle.scales.specs.Five.{five}
use Rattle.model.specs.States.{join}
use Rattle.model.specs.Joining.{joining}
use Rattle.model.specs.Folds.{any_below}
use Rattle.model.specs.Stores.{assigned, state_towards}
use Rattle.model.specs.declared.cell.Orientation.{Orientation}
use Rattle.bitmap.specs.declared.row.Row.{Row}
use Rattle.bitmap.specs.declared.item.Item.{Item}
use Rattle.bitmap.specs.Layout.{cell_at, valid_at, ValidRow}
use Rattle.bitmap.specs.Items.{Items, pair_of, item_in_use}

abbrev pub empty_row : Row
empty_row = record { granter = 0; grantee = 0; acl = 0; taint = 0; suspend = 0; deny = 0; neut = 0 }

abbrev pub row_at : List Row → ℕ → Row
row_at rows i = slice_index_or rows i empty_row

abbrev pub items_of : List Row → Items FiveState
items_of rows = record { pair = λ i. pair_of (row_at rows i).granter (row_at rows i).grantee; cell = λ i k. cell_at (row_at rows i) k }

pub record Bit (i k : ℕ) : Type 0 where
  pub row : i < 16
  pub place : k < 32

-- the item that a row is made, or the row given back where it is not valid
abbrev pub ItemOf : Row → Result Item Row → Type 0
ItemOf r result = MatchResult result (λ item. item.row ≡ r) (λ back. (back ≡ r) × (ValidRow r → ⊥))

-- every row can be made an item
abbrev pub EachValid : List Row → Type 0
EachValid rows = (i k : ℕ) → Bit i k → valid_at (row_at rows i) k ≡ true

abbrev pub EachInRange : List Row → Type 0
EachInRange rows = (i : ℕ) → i < 16 → ((row_at rows i).granter < 128) × ((row_at rows i).grantee < 128)

-- rows a and b are in use for one pair
pub record SamePair (rows : List Row) (a b : ℕ) : Type 0 where
  pub first : a < 16
  pub second : b < 16
  pub first_used : item_in_use (joining five) (items_of rows) a ≡ true
  pub second_used : item_in_use (joining five) (items_of rows) b ≡ true
  pub same : (items_of rows).pair a ≡ (items_of rows).pair b

-- no pair has two items
abbrev pub OnePerPair : List Row → Type 0
OnePerPair rows = (a b : ℕ) → SamePair rows a b → a ≡ b

-- a row is in use while one of its cells is not unassign
unfoldable pub row_in_use : Row → Bool
row_in_use r = any_below 8 (λ k. assigned (joining five) (cell_at r k).state)

-- whether a row is in use for a pair, or for a grantee
abbrev pub row_is_of : ℕ → ℕ → Row → Bool
row_is_of g e r = row_in_use r && (r.granter == g && r.grantee == e)

abbrev pub row_is_for : ℕ → Row → Bool
row_is_for e r = row_in_use r && r.grantee == e

-- what a row gives a grantee: its option, and its state in an orientation
abbrev pub row_option : ℕ → ℕ → Row → Bool
row_option e k r = cond (row_is_for e r) (cell_at r k).option false

abbrev pub row_state : ℕ → ℕ → Orientation → Row → FiveState
row_state e k t r = cond (row_is_for e r) (state_towards (joining five) t (cell_at r k)) Unassign

-- the join of what the rows give a grantee in an orientation, row by row
abbrev pub rows_strongest : ℕ → ℕ → Orientation → List Row → FiveState
rows_strongest e k t rows = fold (λ before row. join five (row_state e k t row) before) Unassign rows
