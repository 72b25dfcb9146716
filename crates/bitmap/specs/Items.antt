-- The sixteen items of one object: the pair that each was last given to, and its eight cells.
use Rattle.std.specs.Prelude.{◌≡◌, ℕ, zero, suc, ◌+◌, ◌*◌, ◌%◌, ◌<◌, Bool, true, false, cond, ◌&&◌, ◌||◌, ◌==◌, ◌≢◌, nat_lt}
use Rattle.model.specs.States.{States}
use Rattle.model.specs.Joining.{Joining, joining}
use Rattle.model.specs.Allowed.{Allowed, unassigned}
use Rattle.model.specs.Folds.{count_below, any_below}
use Rattle.model.specs.Privileges.{bit}
use Rattle.model.specs.Places.{number}
use Rattle.model.specs.Stores.{Cells, assigned, state_towards}
use Rattle.model.specs.declared.cell.Cell.{Cell}
use Rattle.model.specs.declared.cell.Orientation.{Orientation}

-- a pair's number, from those of granter and grantee
abbrev pub pair_of : ℕ → ℕ → ℕ
pair_of g e = g * 128 + e

pub record Items (S : Type 0) : Type 0 where
  pub pair : ℕ → ℕ
  pub cell : ℕ → ℕ → Cell S

-- an item is in use while one of its cells is not unassign
unfoldable pub item_in_use : {S : Type 0} → Joining S → Items S → ℕ → Bool
item_in_use j m i = any_below 8 (λ k. assigned j (m.cell i k).state)

-- what the first n items hold for a pair and a privilege
unfoldable pub held : {S : Type 0} → States S → Items S → ℕ → ℕ → ℕ → Cell S
held s m zero l k = unassigned s
held s m (suc n) l k = cond (item_in_use (joining s) m n && m.pair n == l) (m.cell n k) (held s m n l k)

-- the cells by the numbers of object, granter, grantee and privilege
unfoldable pub numbered : {S : Type 0} → States S → (ℕ → Items S) → ℕ → ℕ → ℕ → ℕ → Cell S
numbered s m o g e k = cond (nat_lt o 32 && (nat_lt g 128 && nat_lt e 128)) (held s (m o) 16 (pair_of g e) k) (unassigned s)

abbrev pub by_number : {S : Type 0} → (ℕ → ℕ → ℕ → ℕ → Cell S) → Cells S
by_number f = λ p. f p.object (number p.granter) (number p.grantee) (bit p.privilege)

-- whether an item in use is a pair's
abbrev pub is_item_of : {S : Type 0} → Joining S → Items S → ℕ → ℕ → Bool
is_item_of j m l i = item_in_use j m i && m.pair i == l

-- no pair has two items, pairs are in range, and every cell is allowed
pub record Kept {S : Type 0} (s : States S) (m : Items S) : Type 0 where
  pub single : (a b : ℕ) → a < 16 → b < 16 → item_in_use (joining s) m a ≡ true → item_in_use (joining s) m b ≡ true → m.pair a ≡ m.pair b → a ≡ b
  pub bounded : (i : ℕ) → i < 16 → item_in_use (joining s) m i ≡ true → m.pair i < 16384
  pub allowed : (i k : ℕ) → Allowed s (m.cell i k)

-- item i can be given to the pair l: it is free or the pair's own, and no other item is the pair's
pub record RoomFor {S : Type 0} (j : Joining S) (m : Items S) (i l : ℕ) : Type 0 where
  pub own : item_in_use j m i ≡ true → m.pair i ≡ l
  pub only : (a : ℕ) → a < 16 → item_in_use j m a ≡ true → m.pair a ≡ l → a ≡ i

-- item i is given to the pair l and its cell k becomes c; the fifteen others stay
pub record ItemSet {S : Type 0} (m n : Items S) (i l k : ℕ) (c : Cell S) : Type 0 where
  pub pair_here : n.pair i ≡ l
  pub cell_here : n.cell i k ≡ c
  pub cells_kept : (q : ℕ) → q < 8 → (q ≢ k) → n.cell i q ≡ m.cell i q
  pub pairs_kept : (a : ℕ) → a < 16 → (a ≢ i) → n.pair a ≡ m.pair a
  pub items_kept : (a q : ℕ) → a < 16 → q < 8 → (a ≢ i) → n.cell a q ≡ m.cell a q

-- what item i gives a grantee: its option, and its state in an orientation
abbrev pub option_in : {S : Type 0} → Joining S → Items S → ℕ → ℕ → ℕ → Bool
option_in j m e k i = cond (item_in_use j m i && m.pair i % 128 == e) (m.cell i k).option false

abbrev pub state_in : {S : Type 0} → Joining S → Items S → ℕ → ℕ → Orientation → ℕ → S
state_in j m e k t i = cond (item_in_use j m i && m.pair i % 128 == e) (state_towards j t (m.cell i k)) j.unassign

-- what a write of the cell c for the pair l and privilege k does to an object's items, if it is answered r
pub record Written {S : Type 0} (s : States S) (m n : Items S) (l k : ℕ) (c : Cell S) (r : Bool) : Type 0 where
  pub told : r ≡ ((joining s).same c.state s.unassign || (any_below 16 (is_item_of (joining s) m l) || nat_lt (count_below 16 (item_in_use (joining s) m)) 16))
  pub here : r ≡ true → held s n 16 l k ≡ c
  pub others : (a q : ℕ) → q < 8 → (a ≡ l → q ≢ k) → held s n 16 a q ≡ held s m 16 a q
  pub refused : r ≡ false → held s n 16 l k ≡ held s m 16 l k
