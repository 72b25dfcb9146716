-- The bit of each privilege, and which privileges each type of object defines.
use Rattle.std.specs.Prelude.{◌≡◌, ℕ, ◌/◌, ◌%◌, ◌^◌, ◌≤◌, Bool, ◌==◌, Result, MatchResult}
use Rattle.model.specs.declared.privilege.Privilege.{Privilege}
use Rattle.model.specs.declared.privilege.Privilege.TheVariants.{Read, Draw, Hint, Proof, Build, Export, Rename, Drop}
use Rattle.model.specs.declared.privilege.NoPrivilege.{NoPrivilege}
use Rattle.model.specs.declared.kind.Kind.{Kind}
use Rattle.model.specs.declared.kind.Kind.TheVariants.{Library, Face, Hints, Bitmaps}

abbrev pub bit : Privilege → ℕ
bit Read = 0
bit Draw = 1
bit Hint = 2
bit Proof = 3
bit Build = 4
bit Export = 5
bit Rename = 6
bit Drop = 7

-- the privilege of a bit, or an error with a bit that no privilege has
abbrev pub PrivilegeOf : ℕ → Result Privilege NoPrivilege → Type 0
PrivilegeOf b r = MatchResult r (λ p. bit p ≡ b) (λ e. (e.bit ≡ b) × (8 ≤ b))

abbrev pub mask : Kind → ℕ
mask Library = 0xC1
mask Face = 0xFB
mask Hints = 0x8D
mask Bitmaps = 0xB1

-- the type's mask has the privilege's bit
abbrev pub defines : Kind → Privilege → Bool
defines t p = mask t / 2 ^ bit p % 2 == 1
