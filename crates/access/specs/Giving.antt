-- As whom a user gives a privilege for an object.
use Rattle.std.specs.Prelude.{◌≡◌, ℕ, ◌<◌, true, ◌⊎◌, Some, None, Option, MatchOption}
use Rattle.model.specs.Graphs.{RoleGraph, Reaches}
use Rattle.model.specs.Places.{place}
use Rattle.model.specs.Stores.{Cells}
use Rattle.model.specs.declared.principal.Principal.{Principal}
use Rattle.model.specs.declared.principal.Principal.TheVariants.{User, Role}
use Rattle.model.specs.declared.privilege.Privilege.{Privilege}
use Rattle.access.specs.Masters.{Masters, Owns}

-- the principal q has an option, from some granter
pub record Optioned {S : Type 0} (cells : Cells S) (o : ℕ) (p : Privilege) (q : Principal) : Type 0 where
  pub granter : Principal
  pub option : (cells (place o granter q p)).option ≡ true

-- the user u owns the object, or has an option in its own right
abbrev pub InOwnRight : {S : Type 0} → Masters → Cells S → ℕ → ℕ → Privilege → Type 0
InOwnRight masters cells u o p = Owns masters u o ⊎ Optioned cells o p (User u)

-- the role r has an option, and the user u reaches it
pub record Through {S : Type 0} (g : RoleGraph) (cells : Cells S) (u o : ℕ) (p : Privilege) (r : ℕ) : Type 0 where
  pub option : Optioned cells o p (Role r)
  pub reaches : Reaches g (User u) (Role r)

-- the lowest number that passes, or that none does
abbrev pub IsLowest : (ℕ → Type 0) → Option ℕ → Type 0
IsLowest P r = MatchOption r ((k : ℕ) → P k → ⊥) (λ k. P k × ((j : ℕ) → j < k → P j → ⊥))

-- the user does not give as itself, and q is the lowest-numbered such role
pub record LowestRole {S : Type 0} (g : RoleGraph) (masters : Masters) (cells : Cells S) (u o : ℕ) (p : Privilege) (q : Principal) : Type 0 where
  pub not_own : InOwnRight masters cells u o p → ⊥
  pub role : ℕ
  pub is : q ≡ Role role
  pub through : Through g cells u o p role
  pub lowest : (r : ℕ) → r < role → Through g cells u o p r → ⊥

-- the user u gives as the principal q
abbrev pub GivesAs : {S : Type 0} → RoleGraph → Masters → Cells S → ℕ → ℕ → Privilege → Principal → Type 0
GivesAs g masters cells u o p q = (InOwnRight masters cells u o p × (q ≡ User u)) ⊎ LowestRole g masters cells u o p q

-- the granter, or that there is none
abbrev pub GranterIs : {S : Type 0} → RoleGraph → Masters → Cells S → ℕ → ℕ → Privilege → Option Principal → Type 0
GranterIs g masters cells u o p None = (q : Principal) → GivesAs g masters cells u o p q → ⊥
GranterIs g masters cells u o p (Some q) = GivesAs g masters cells u o p q
