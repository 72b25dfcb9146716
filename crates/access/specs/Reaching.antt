-- Which states reach a principal for an object and a privilege, and which of them is its answer.
use Rattle.std.specs.Prelude.{◌≡◌, ℕ, ◌<◌, true, ◌⊎◌}
use Rattle.model.specs.States.{States}
use Rattle.model.specs.Graphs.{RoleGraph, Above}
use Rattle.model.specs.Places.{place}
use Rattle.model.specs.Stores.{Cells}
use Rattle.model.specs.declared.principal.Principal.{Principal}
use Rattle.model.specs.declared.principal.Principal.TheVariants.{User, Role}
use Rattle.model.specs.declared.privilege.Privilege.{Privilege}
use Rattle.model.specs.declared.cell.Cell.{Cell}
use Rattle.model.specs.declared.cell.Orientation.TheVariants.{Up, Down}
use Rattle.access.specs.Masters.{Masters, Owns}

-- how a cell at the role `at` reaches the role r: it stands there, or is oriented up and stands below, or is oriented down and stands above
abbrev pub Way : {S : Type 0} → RoleGraph → ℕ → ℕ → Cell S → Type 0
Way g r at c = (at ≡ r) ⊎ (((c.orientation ≡ Up) × Above g r at) ⊎ ((c.orientation ≡ Down) × Above g at r))

-- the state s of some cell reaches the role r
pub record ReachesRole {S : Type 0} (g : RoleGraph) (cells : Cells S) (o : ℕ) (p : Privilege) (r : ℕ) (s : S) : Type 0 where
  pub granter : Principal
  pub at : ℕ
  pub in_range : at < 64
  pub state : (cells (place o granter (Role at) p)).state ≡ s
  pub way : Way g r at (cells (place o granter (Role at) p))

-- some granter assigned the state s to the principal q itself
pub record Assigned {S : Type 0} (cells : Cells S) (o : ℕ) (p : Privilege) (q : Principal) (s : S) : Type 0 where
  pub granter : Principal
  pub state : (cells (place o granter q p)).state ≡ s

-- the user u holds a role, by a link of its own, that the state s reaches
pub record ThroughRole {S : Type 0} (g : RoleGraph) (cells : Cells S) (o : ℕ) (p : Privilege) (u : ℕ) (s : S) : Type 0 where
  pub role : ℕ
  pub held : g.linked (User u) role ≡ true
  pub reaches : ReachesRole g cells o p role s

-- these reach a user: its own cells; all that reaches a role it holds; GRANT's state if it owns the object
abbrev pub ReachesUser : {S : Type 0} → States S → RoleGraph → Masters → Cells S → ℕ → Privilege → ℕ → S → Type 0
ReachesUser st g masters cells o p u s =
    Assigned cells o p (User u) s ⊎ (ThroughRole g cells o p u s ⊎ (Owns masters u o × (s ≡ st.granted)))

-- the state s reaches the principal for the object o and the privilege p
abbrev pub Reaching : {S : Type 0} → States S → RoleGraph → Masters → Cells S → ℕ → Privilege → Principal → S → Type 0
Reaching st g masters cells o p (Role r) s = ReachesRole g cells o p r s
Reaching st g masters cells o p (User u) s = ReachesUser st g masters cells o p u s

-- s is one of some states, or unassign, and overrides them all
pub record Strongest {S : Type 0} (st : States S) (among : S → Type 0) (s : S) : Type 0 where
  pub one : among s ⊎ (s ≡ st.unassign)
  pub over : (t : S) → among t → st.overrides s t ≡ true

-- the answer for an object, a privilege and a principal
abbrev pub IsAnswer : {S : Type 0} → States S → RoleGraph → Masters → Cells S → ℕ → Privilege → Principal → S → Type 0
IsAnswer st g masters cells o p q s = Strongest st (Reaching st g masters cells o p q) s
