-- What is needed of states to fold them: a join, an equality and unassign, and no order.
use Rattle.std.specs.Prelude.{◌≡◌, Bool, true, false, ◌⊎◌, Decides}
use Rattle.model.specs.States.{States, join, same}

pub record Joining (S : Type 0) : Type 0 where
  pub join : S → S → S
  pub same : S → S → Bool
  pub unassign : S
  pub travels_up : S → Bool

pub record JoinLaws {S : Type 0} (j : Joining S) : Type 0 where
  pub associative : (x y z : S) → j.join (j.join x y) z ≡ j.join x (j.join y z)
  pub commutative : (x y : S) → j.join x y ≡ j.join y x
  pub idempotent : (x : S) → j.join x x ≡ x
  pub neutral_left : (x : S) → j.join j.unassign x ≡ x
  pub neutral_right : (x : S) → j.join x j.unassign ≡ x
  -- a state that travels up and one that travels down join to one of the two
  pub one_of_two : (x y : S) → j.travels_up x ≡ true → j.travels_up y ≡ false → (j.join x y ≡ x) ⊎ (j.join x y ≡ y)
  -- two states that travel alike join to one that travels so
  pub alike : (x y : S) → j.travels_up x ≡ j.travels_up y → j.travels_up (j.join x y) ≡ j.travels_up x
  pub unassign_up : j.travels_up j.unassign ≡ true
  pub told_apart : (x y : S) → Decides (j.same x y) (x ≡ y)

-- the joining of a scale: of two states, the more overriding one
abbrev pub joining : {S : Type 0} → States S → Joining S
joining s = record { join = join s; same = same s; unassign = s.unassign; travels_up = s.travels_up }

-- r is the more overriding of x and y
pub record Stronger {S : Type 0} (s : States S) (x y r : S) : Type 0 where
  pub over_left : s.overrides r x ≡ true
  pub over_right : s.overrides r y ≡ true
  pub either : (r ≡ x) ⊎ (r ≡ y)
