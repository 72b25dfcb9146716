-- What a role is answered, and what a role below it is.
use Rattle.std.specs.Prelude.{◌≡◌, ℕ, true, false, ◌≢◌}
use Rattle.model.specs.States.{States}
use Rattle.model.specs.Graphs.{RoleGraph, Above}
use Rattle.model.specs.Places.{place}
use Rattle.model.specs.Stores.{Cells}
use Rattle.model.specs.declared.principal.Principal.{Principal}
use Rattle.model.specs.declared.principal.Principal.TheVariants.{Role}
use Rattle.model.specs.declared.privilege.Privilege.{Privilege}
use Rattle.model.specs.declared.cell.Orientation.TheVariants.{Neutral}
use Rattle.access.specs.Masters.{Masters}
use Rattle.access.specs.Reaching.{IsAnswer}

-- no granter's cell on the role is neutral
abbrev pub NoNeutral : {S : Type 0} → Cells S → ℕ → Privilege → ℕ → Type 0
NoNeutral cells o p r = (granter : Principal) → (cells (place o granter (Role r) p)).orientation ≢ Neutral

-- of the answer s on a role and the answer t on one below it
pub record Follows {S : Type 0} (st : States S) (s t : S) : Type 0 where
  -- what travels down is answered or overridden below
  pub down : st.travels_up s ≡ false → st.overrides t s ≡ true
  -- what travels up from below is answered above, or overridden by one that travels up
  pub up : st.travels_up t ≡ true → (st.overrides s t ≡ true) × (st.travels_up s ≡ true)

-- the law between roles: for each role above another, where the upper one has no neutral cell
abbrev pub BetweenRoles : {S : Type 0} → States S → RoleGraph → Masters → Cells S → Type 0
BetweenRoles {S} st g masters cells =
    (o : ℕ) (p : Privilege) (a b : ℕ) → Above g a b → NoNeutral cells o p a
    → (s t : S) → IsAnswer st g masters cells o p (Role a) s → IsAnswer st g masters cells o p (Role b) t → Follows st s t
