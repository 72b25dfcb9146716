-- Which numbers name a user, a role or an object.
use Rattle.std.specs.Prelude.{ℕ, Bool, cond, Some, None, Option, nat_lt}
use Rattle.model.specs.declared.principal.Principal.{Principal}
use Rattle.model.specs.declared.principal.Principal.TheVariants.{User, Role}

-- users u0 to u63 and roles r0 to r63
abbrev pub in_range : Principal → Bool
in_range (User n) = nat_lt n 64
in_range (Role n) = nat_lt n 64

-- objects o0 to o31
abbrev pub object_in_range : ℕ → Bool
object_in_range o = nat_lt o 32

-- a role's level, once it has one
abbrev pub role_level_in_range : ℕ → Bool
role_level_in_range n = nat_lt n 8

-- every user in range exists, at a level above that of every role
abbrev pub user_level : ℕ → Option ℕ
user_level n = cond (nat_lt n 64) (Some 8) None
