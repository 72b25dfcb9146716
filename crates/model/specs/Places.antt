-- Where a cell stands, and how principals and privileges are numbered.
use Rattle.std.specs.Prelude.{ℕ, ◌+◌, ◌-◌, Bool, true, false, cond, ◌&&◌, ◌==◌, nat_lt}
use Rattle.model.specs.Principals.{in_range, object_in_range}
use Rattle.model.specs.Privileges.{bit}
use Rattle.model.specs.declared.principal.Principal.{Principal}
use Rattle.model.specs.declared.principal.Principal.TheVariants.{User, Role}
use Rattle.model.specs.declared.privilege.Privilege.{Privilege}
use Rattle.model.specs.declared.privilege.Privilege.TheVariants.{Read, Draw, Hint, Proof, Build, Export, Rename, Drop}
use Rattle.model.specs.declared.cell.Orientation.{Orientation}
use Rattle.model.specs.declared.cell.Orientation.TheVariants.{Up, Down, Neutral}
use Rattle.model.specs.declared.place.Place.{Place}

abbrev pub place : ℕ → Principal → Principal → Privilege → Place
place o g e p = record { object = o; granter = g; grantee = e; privilege = p }

-- every number of it is in range; privileges always are
abbrev pub place_in_range : Place → Bool
place_in_range p = object_in_range p.object && (in_range p.granter && in_range p.grantee)

abbrev pub same_principal : Principal → Principal → Bool
same_principal (User m) (User n) = m == n
same_principal (User m) (Role n) = false
same_principal (Role m) (User n) = false
same_principal (Role m) (Role n) = m == n

abbrev pub same_place : Place → Place → Bool
same_place p q =
    (p.object == q.object) && (same_principal p.granter q.granter && (same_principal p.grantee q.grantee && bit p.privilege == bit q.privilege))

abbrev pub same_orientation : Orientation → Orientation → Bool
same_orientation Up Up = true
same_orientation Up Down = false
same_orientation Up Neutral = false
same_orientation Down Up = false
same_orientation Down Down = true
same_orientation Down Neutral = false
same_orientation Neutral Up = false
same_orientation Neutral Down = false
same_orientation Neutral Neutral = true

-- the principals in order: 64 users, then 64 roles
abbrev pub principal_at : ℕ → Principal
principal_at k = cond (nat_lt k 64) (User k) (Role (k - 64))

-- a principal's place in that order; 128 where none such can be
abbrev pub number : Principal → ℕ
number (User n) = cond (nat_lt n 64) n 128
number (Role n) = cond (nat_lt n 64) (64 + n) 128

-- the privilege of each bit below 8
abbrev pub privilege_at : ℕ → Privilege
privilege_at k =
    cond (k == 0) Read
    (cond (k == 1) Draw
    (cond (k == 2) Hint
    (cond (k == 3) Proof
    (cond (k == 4) Build
    (cond (k == 5) Export
    (cond (k == 6) Rename
    Drop))))))
