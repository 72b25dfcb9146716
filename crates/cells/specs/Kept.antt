-- What the list keeps, at every scale: it speaks of places, and of a state that no record has.
use Rattle.std.specs.Prelude.{◌≡◌, ℕ, zero, suc, ◌/◌, ◌%◌, ◌<◌, ◌≤◌, Bool, true, not, ◌&&◌, List, [], ◌∷◌, length, take, ◌==◌, ◌≢◌}
use Rattle.std.specs.List.{list_any}
use Rattle.model.specs.Folds.{any_below, count_below}
use Rattle.model.specs.Places.{place, place_in_range, same_principal, principal_at}
use Rattle.model.specs.declared.principal.Principal.{Principal}
use Rattle.model.specs.declared.principal.Principal.TheVariants.{User}
use Rattle.model.specs.declared.privilege.Privilege.TheVariants.{Read}
use Rattle.model.specs.declared.place.Place.{Place}
use Rattle.cells.specs.declared.record.CellRecord.{CellRecord}

-- a part of record i, or z where there is none
abbrev pub part_at : {S A : Type 0} → (CellRecord S → A) → A → List (CellRecord S) → ℕ → A
part_at f z [] i = z
part_at f z (x ∷ xs) zero = f x
part_at f z (x ∷ xs) (suc i) = part_at f z xs i

abbrev pub nowhere : Place
nowhere = place 32 (User 0) (User 0) Read

abbrev pub place_at : {S : Type 0} → List (CellRecord S) → ℕ → Place
place_at xs = part_at (λ r. r.place) nowhere xs

abbrev pub state_at : {S : Type 0} → S → List (CellRecord S) → ℕ → S
state_at u xs = part_at (λ r. r.state) u xs

-- whether a place is of a pair at an object
abbrev pub is_of : Place → ℕ → Principal → Principal → Bool
is_of p o g e = p.object == o && (same_principal p.granter g && same_principal p.grantee e)

-- whether one of the first n records is of a pair
unfoldable pub used_in : (ℕ → Place) → ℕ → ℕ → Principal → Principal → Bool
used_in at n o g e = any_below n (λ i. is_of (at i) o g e)

-- how many pairs the first n records have at an object
unfoldable pub pairs_in : (ℕ → Place) → ℕ → ℕ → ℕ
pairs_in at n o = count_below 16384 (λ k. used_in at n o (principal_at (k / 128)) (principal_at (k % 128)))

-- whether record i, at place p, is at an object and no record before it is of its pair
abbrev pub first_of : {S : Type 0} → List (CellRecord S) → ℕ → ℕ × Place → Bool
first_of xs o (i, p) = p.object == o && not (list_any (λ r. is_of r.place p.object p.granter p.grantee) (take i xs))

-- whether record i is the first of its pair, at an object
abbrev pub first_at : (ℕ → Place) → ℕ → ℕ → Bool
first_at at o i = (at i).object == o && not (used_in at i o (at i).granter (at i).grantee)

abbrev pub Assigned : {S : Type 0} → S → (ℕ → S) → ℕ → Type 0
Assigned u state n = (i : ℕ) → i < n → state i ≢ u

abbrev pub Ranged : (ℕ → Place) → ℕ → Type 0
Ranged at n = (i : ℕ) → i < n → place_in_range (at i) ≡ true

pub record Twice (at : ℕ → Place) (n i j : ℕ) : Type 0 where
  pub first : i < n
  pub second : j < n
  pub same : at i ≡ at j

-- no cell has two records
abbrev pub Distinct : (ℕ → Place) → ℕ → Type 0
Distinct at n = (i j : ℕ) → Twice at n i j → i ≡ j

-- no object has more than 16 pairs
abbrev pub Roomy : (ℕ → Place) → ℕ → Type 0
Roomy at n = (o : ℕ) → o < 32 → pairs_in at n o ≤ 16

-- all that the list keeps of the first n records of its memory, where no record has the state u
pub record Kept {S : Type 0} (u : S) (xs : List (CellRecord S)) (n : ℕ) : Type 0 where
  pub within : n ≤ length xs
  -- without the full memory no record counts
  pub ample : 0 < n → 4096 ≤ length xs
  pub assigned : Assigned u (state_at u xs) n
  pub ranged : Ranged (place_at xs) n
  pub distinct : Distinct (place_at xs) n
  pub roomy : Roomy (place_at xs) n
