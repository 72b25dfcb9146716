-- What each role brings to a principal: how the answer is worked out, one role after the other.
use Rattle.std.specs.Prelude.{◌≡◌, ℕ, ◌<◌, true, ◌⊎◌}
use Rattle.model.specs.Graphs.{RoleGraph, Above, Reaches}
use Rattle.model.specs.Places.{place}
use Rattle.model.specs.States.{States}
use Rattle.model.specs.Joining.{Stronger}
use Rattle.model.specs.Stores.{Cells}
use Rattle.model.specs.declared.principal.Principal.{Principal}
use Rattle.model.specs.declared.principal.Principal.TheVariants.{User, Role}
use Rattle.model.specs.declared.privilege.Privilege.{Privilege}
use Rattle.model.specs.declared.cell.Orientation.{Orientation}
use Rattle.model.specs.declared.cell.Orientation.TheVariants.{Up, Down, Neutral}
use Rattle.access.specs.Masters.{Masters, Owns}
use Rattle.access.specs.Reaching.{Assigned, Strongest}

-- a role acts as itself, a user as each role that it holds
abbrev pub ActsAs : RoleGraph → Principal → ℕ → Type 0
ActsAs g (Role own) r = own ≡ r
ActsAs g (User u) r = g.linked (User u) r ≡ true

-- the principal acts as some role that the role r is above
pub record IsUnder (g : RoleGraph) (q : Principal) (r : ℕ) : Type 0 where
  pub role : ℕ
  pub acts : ActsAs g q role
  pub above : Above g r role

-- some granter assigned the state s to q in one orientation
pub record Towards {S : Type 0} (cells : Cells S) (o : ℕ) (p : Privilege) (q : Principal) (t : Orientation) (s : S) : Type 0 where
  pub granter : Principal
  pub state : (cells (place o granter q p)).state ≡ s
  pub oriented : (cells (place o granter q p)).orientation ≡ t

-- what is oriented so at the role r comes to the principal q: up if q reaches r, down if q is under r
abbrev pub Carries : RoleGraph → Principal → ℕ → Orientation → Type 0
Carries g q r Up = Reaches g q (Role r)
Carries g q r Down = IsUnder g q r
Carries g q r Neutral = ⊥

-- assigned to the role r in one orientation, it comes to the principal q
abbrev pub Carried : {S : Type 0} → RoleGraph → Cells S → ℕ → Privilege → Principal → ℕ → Orientation → S → Type 0
Carried g cells o p q r t s = Towards cells o p (Role r) t s × Carries g q r t

-- from a role that the principal need not act as
abbrev pub Inherited : {S : Type 0} → RoleGraph → Cells S → ℕ → Privilege → Principal → ℕ → S → Type 0
Inherited g cells o p q r s = Carried g cells o p q r Up s ⊎ Carried g cells o p q r Down s

-- assigned to the role r, it reaches the principal
abbrev pub From : {S : Type 0} → RoleGraph → Cells S → ℕ → Privilege → Principal → ℕ → S → Type 0
From g cells o p q r s = (ActsAs g q r × Assigned cells o p (Role r) s) ⊎ Inherited g cells o p q r s

-- the user owns the object, and the state is GRANT's
abbrev pub AsOwner : {S : Type 0} → States S → Masters → ℕ → ℕ → S → Type 0
AsOwner st masters o u s = Owns masters u o × (s ≡ st.granted)

-- what no role brings to a principal
abbrev pub Apart : {S : Type 0} → States S → Masters → Cells S → ℕ → Privilege → Principal → S → Type 0
Apart st masters cells o p (Role r) s = ⊥
Apart st masters cells o p (User u) s = Assigned cells o p (User u) s ⊎ AsOwner st masters o u s

-- one of the roles below a number brings it
pub record FromBelow {S : Type 0} (g : RoleGraph) (cells : Cells S) (o : ℕ) (p : Privilege) (q : Principal) (n : ℕ) (s : S) : Type 0 where
  pub role : ℕ
  pub less : role < n
  pub from : From g cells o p q role s

-- what comes to a principal apart from roles, and from the roles below a number
abbrev pub SoFar : {S : Type 0} → States S → RoleGraph → Masters → Cells S → ℕ → Privilege → Principal → ℕ → S → Type 0
SoFar st g masters cells o p q n s = Apart st masters cells o p q s ⊎ FromBelow g cells o p q n s

-- r is the stronger of the best state so far and the strongest of some more
pub record Added {S : Type 0} (st : States S) (more : S → Type 0) (best r : S) : Type 0 where
  pub state : S
  pub strongest : Strongest st more state
  pub stronger : Stronger st best state r
