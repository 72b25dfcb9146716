-- What a scale of states is, and the laws that every scale keeps.
use Rattle.std.specs.Prelude.{◌≡◌, ℕ, Bool, true, false, cond, ◌&&◌, List, Some, Option, ◌≢◌, nat_le}
use Rattle.model.specs.declared.scale.StateCommand.{StateCommand}
use Rattle.model.specs.declared.scale.StateCommand.TheVariants.{Grant}

pub record States (S : Type 0) : Type 0 where
  -- `overrides x y`: x overrides y
  pub overrides : S → S → Bool
  -- whether a state travels up the role graph; else it travels down
  pub travels_up : S → Bool
  -- which state, if any, each command assigns
  pub assigned : StateCommand → Option S
  -- the state of what nobody assigned
  pub unassign : S
  -- GRANT's state
  pub granted : S
  -- the bytes of a state's printed name
  pub printed : S → List ℕ

pub record Lawful {S : Type 0} (s : States S) : Type 0 where
  pub reflexive : (x : S) → s.overrides x x ≡ true
  pub antisymmetric : (x y : S) → s.overrides x y ≡ true → s.overrides y x ≡ true → x ≡ y
  pub transitive : (x y z : S) → s.overrides x y ≡ true → s.overrides y z ≡ true → s.overrides x z ≡ true
  -- of two states one overrides the other
  pub total : (x y : S) → s.overrides x y ≡ false → s.overrides y x ≡ true
  pub over_unassign : (x : S) → s.overrides x s.unassign ≡ true
  pub grant_assigned : s.assigned Grant ≡ Some s.granted
  pub grant_differs : s.granted ≡ s.unassign → ⊥
  pub unassign_up : s.travels_up s.unassign ≡ true
  pub grant_up : s.travels_up s.granted ≡ true
  -- what TAINT, SUSPEND and DENY assign travels down
  pub others_down : (c : StateCommand) (x : S) → (c ≢ Grant) → s.assigned c ≡ Some x → s.travels_up x ≡ false

-- the order by a rank: the higher overrides the lower
abbrev pub by_rank : {S : Type 0} → (S → ℕ) → S → S → Bool
by_rank rank x y = nat_le (rank y) (rank x)

-- the more overriding of two states
abbrev pub join : {S : Type 0} → States S → S → S → S
join s x y = cond (s.overrides x y) x y

-- states are equal where each overrides the other
abbrev pub same : {S : Type 0} → States S → S → S → Bool
same s x y = s.overrides x y && s.overrides y x
