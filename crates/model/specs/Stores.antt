-- What an assignment store means: one cell at each place.
use Rattle.std.specs.Prelude.{◌≡◌, ℕ, ◌/◌, ◌%◌, ◌≤◌, Bool, false, cond, not, ◌&&◌, ◌||◌, nat_lt}
use Rattle.model.specs.Principals.{in_range, object_in_range}
use Rattle.model.specs.States.{States}
use Rattle.model.specs.Joining.{Joining, joining}
use Rattle.model.specs.Allowed.{Allowed, is_allowed, unassigned}
use Rattle.model.specs.Folds.{count_below, any_below, join_below}
use Rattle.model.specs.Places.{place, place_in_range, same_place, same_orientation, principal_at, privilege_at}
use Rattle.model.specs.declared.principal.Principal.{Principal}
use Rattle.model.specs.declared.privilege.Privilege.{Privilege}
use Rattle.model.specs.declared.cell.Cell.{Cell}
use Rattle.model.specs.declared.cell.Orientation.{Orientation}
use Rattle.model.specs.declared.place.Place.{Place}

abbrev pub Cells : Type 0 → Type 0
Cells S = Place → Cell S

-- the cells with the one at a place changed
abbrev pub put : {S : Type 0} → Cells S → Place → Cell S → Cells S
put cells p c = λ q. cond (same_place p q) c (cells q)

-- whether a state is not unassign
abbrev pub assigned : {S : Type 0} → Joining S → S → Bool
assigned j x = not (j.same x j.unassign)

-- a pair is in use at an object while any cell of it is not unassign
unfoldable pub in_use : {S : Type 0} → Joining S → Cells S → ℕ → Principal → Principal → Bool
in_use j cells o g e = any_below 8 (λ k. assigned j (cells (place o g e (privilege_at k))).state)

-- how many pairs are in use at an object: pair k has granter k / 128 and grantee k % 128
unfoldable pub pairs : {S : Type 0} → Joining S → Cells S → ℕ → ℕ
pairs j cells o = count_below 16384 (λ k. in_use j cells o (principal_at (k / 128)) (principal_at (k % 128)))

-- whether a grantee has an option from any granter
unfoldable pub has_option : {S : Type 0} → Cells S → ℕ → Privilege → Principal → Bool
has_option cells o p e = any_below 128 (λ k. (cells (place o (principal_at k) e p)).option)

-- a cell's state, if it has the orientation
abbrev pub state_towards : {S : Type 0} → Joining S → Orientation → Cell S → S
state_towards j t c = cond (same_orientation t c.orientation) c.state j.unassign

-- the join of the states that every granter in turn gave a grantee in one orientation
unfoldable pub strongest : {S : Type 0} → Joining S → Cells S → ℕ → Privilege → Principal → Orientation → S
strongest j cells o p e t = join_below j 128 (λ k. state_towards j t (cells (place o (principal_at k) e p)))

-- the cell can be revoked, or its pair is in use, or another pair fits
abbrev pub has_room : {S : Type 0} → Joining S → Cells S → Place → Cell S → Bool
has_room j cells p c =
    j.same c.state j.unassign || (in_use j cells p.object p.granter p.grantee || nat_lt (pairs j cells p.object) 16)

-- when a write takes place
abbrev pub writable : {S : Type 0} → States S → Bool → Cells S → Place → Cell S → Bool
writable s full cells p c = full && (place_in_range p && (is_allowed s c && has_room (joining s) cells p c))

-- the cells after a write that was answered r
abbrev pub after_write : {S : Type 0} → Cells S → Place → Cell S → Bool → Cells S
after_write cells p c r = cond r (put cells p c) cells

-- the cells of a new store
abbrev pub no_cells : {S : Type 0} → States S → Cells S
no_cells s = λ _. unassigned s

-- what every store keeps
pub record Sound {S : Type 0} (s : States S) (cells : Cells S) : Type 0 where
  pub allowed : (p : Place) → Allowed s (cells p)
  pub outside : (p : Place) → place_in_range p ≡ false → cells p ≡ unassigned s
  pub room : (o : ℕ) → pairs (joining s) cells o ≤ 16

-- a number out of range: 0, no, no and unassign
pub record AnswersOutside {S : Type 0} (s : States S) (cells : Cells S) : Type 0 where
  pub no_pairs : (o : ℕ) → object_in_range o ≡ false → pairs (joining s) cells o ≡ 0
  pub no_use : (o : ℕ) (g e : Principal) → (object_in_range o && (in_range g && in_range e)) ≡ false → in_use (joining s) cells o g e ≡ false
  pub no_option : (o : ℕ) (p : Privilege) (e : Principal) → (object_in_range o && in_range e) ≡ false → has_option cells o p e ≡ false
  pub no_state : (o : ℕ) (p : Privilege) (e : Principal) (t : Orientation) → (object_in_range o && in_range e) ≡ false → strongest (joining s) cells o p e t ≡ s.unassign
