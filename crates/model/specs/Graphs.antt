-- What a role graph is, what each call makes of it, and who reaches whom.
use Rattle.std.specs.Prelude.{◌≡◌, ℕ, ◌<◌, ◌≤◌, Bool, true, false, cond, not, ◌&&◌, ◌||◌, Some, None, Option, ◌==◌, nat_lt}
use Rattle.model.specs.declared.principal.Principal.{Principal}
use Rattle.model.specs.declared.principal.Principal.TheVariants.{User, Role}
use Rattle.model.specs.Principals.{in_range, role_level_in_range, user_level}
use Rattle.model.specs.LinkCount.{link_count}
use Rattle.model.specs.Places.{same_principal}

pub record RoleGraph : Type 0 where
  -- the level of each role, if it has one
  pub level : ℕ → Option ℕ
  -- whether a link leads from a principal to a role
  pub linked : Principal → ℕ → Bool

-- no levels and no links
abbrev pub new_graph : RoleGraph
new_graph = record { level = λ _. None; linked = λ _ _. false }

-- the level of a principal that exists: a user in range, or a role with a level
abbrev pub level_of : (ℕ → Option ℕ) → Principal → Option ℕ
level_of level (User n) = user_level n
level_of level (Role n) = level n

-- both levels are there, and the first is smaller
abbrev pub smaller : Option ℕ → Option ℕ → Bool
smaller (Some m) (Some n) = nat_lt m n
smaller (Some m) None = false
smaller None (Some n) = false
smaller None None = false

-- both ends exist, and the level falls from p to role r
abbrev pub falls : (ℕ → Option ℕ) → Principal → ℕ → Bool
falls level p r = smaller (level r) (level_of level p)

abbrev pub vacant : Option ℕ → Bool
vacant None = true
vacant (Some n) = false

-- a role in range that has no level takes one from 0 to 7
abbrev pub takes_level : RoleGraph → ℕ → ℕ → Bool
takes_level g r n = nat_lt r 64 && (role_level_in_range n && vacant (g.level r))

-- a link is taken with full memory, where both ends exist, the level falls, it is absent and fewer than 256 stand
abbrev pub takes_link : Bool → RoleGraph → Principal → ℕ → Bool
takes_link full g p r = ((full && falls g.level p r) && not (g.linked p r)) && nat_lt (link_count g.linked) 256

-- the link from p to r is the link from q to k
abbrev pub same_link : Principal → ℕ → Principal → ℕ → Bool
same_link p r q k = same_principal p q && r == k

abbrev pub with_level : RoleGraph → ℕ → ℕ → RoleGraph
with_level g r n = record { level = λ k. cond (r == k) (Some n) (g.level k); linked = g.linked }

abbrev pub with_link : RoleGraph → Principal → ℕ → RoleGraph
with_link g p r = record { level = g.level; linked = λ q k. same_link p r q k || g.linked q k }

abbrev pub without_link : RoleGraph → Principal → ℕ → RoleGraph
without_link g p r = record { level = g.level; linked = λ q k. not (same_link p r q k) && g.linked q k }

-- a chain of links, perhaps of none, leads from the one to the other
pub data Chain (linked : Principal → ℕ → Bool) : Principal → Principal → Type 0 where
  stay : (a : Principal) → Chain linked a a
  via : (a b : Principal) (r : ℕ) → linked a r ≡ true → Chain linked (Role r) b → Chain linked a b

-- a and b are in range, and equal or joined by a chain of links
pub record Reaches (g : RoleGraph) (a b : Principal) : Type 0 where
  pub from : in_range a ≡ true
  pub to : in_range b ≡ true
  pub chain : Chain g.linked a b

-- role a is above role b
pub record Above (g : RoleGraph) (a b : ℕ) : Type 0 where
  pub differ : a ≡ b → ⊥
  pub reaches : Reaches g (Role a) (Role b)

-- what every graph keeps
pub record Sound (g : RoleGraph) : Type 0 where
  pub low : (r n : ℕ) → g.level r ≡ Some n → n < 8
  pub roles_in_range : (r : ℕ) → 64 ≤ r → g.level r ≡ None
  pub falling : (p : Principal) (r : ℕ) → g.linked p r ≡ true → falls g.level p r ≡ true
  pub few : link_count g.linked ≤ 256
