-- Principals and privileges by their numbers, and places that are the same.
use Rattle.std.proofs.Common.{◌≡◌, ℕ, ◌<◌, true, false, rules, ◌⊎◌, arith}
use Rattle.std.proofs.lemmas.Bool.Decides.{nat_tests}
use Rattle.model.specs.Principals.{in_range}
use Rattle.model.specs.Privileges.{bit}
use Rattle.model.specs.Places.{same_principal, same_place, principal_at, number, privilege_at}
use Rattle.model.specs.declared.principal.Principal.{Principal}
use Rattle.model.specs.declared.principal.Principal.TheVariants.{User, Role}
use Rattle.model.specs.declared.privilege.Privilege.{Privilege}
use Rattle.model.specs.declared.place.Place.{Place}

pub number_in : (p : Principal) → in_range p ≡ true → number p < 128
number_in (User n) e = grind (arith, nat_tests)
number_in (Role n) e = grind (arith, nat_tests)

pub in_number : (p : Principal) → number p < 128 → in_range p ≡ true
in_number (User n) e = grind (arith, nat_tests)
in_number (Role n) e = grind (arith, nat_tests)

pub at_number : (p : Principal) → in_range p ≡ true → principal_at (number p) ≡ p
at_number (User n) e = grind (arith, nat_tests)
at_number (Role n) e = grind (arith, nat_tests)

pub number_at : (k : ℕ) → k < 128 → number (principal_at k) ≡ k
number_at k lt = grind (arith, nat_tests)

-- principals in range with one number are one
pub number_same : (p q : Principal) → in_range p ≡ true → in_range q ≡ true → number p ≡ number q → p ≡ q
number_same p q x y e = search rules

pub bit_below : (p : Privilege) → bit p < 8
bit_below p = search rules

pub at_bit : (p : Privilege) → privilege_at (bit p) ≡ p
at_bit p = search rules

pub bit_at : (k : ℕ) → k < 8 → bit (privilege_at k) ≡ k
bit_at k lt = grind (arith, nat_tests)

pub bit_same : (p q : Privilege) → bit p ≡ bit q → p ≡ q
bit_same p q e = search rules

-- the same principal, and the same place
pub principal_same : (p q : Principal) → same_principal p q ≡ true → p ≡ q
principal_same p q e = search rules

pub same_principals : (p q : Principal) → p ≡ q → same_principal p q ≡ true
same_principals p q e = search rules

pub place_eq : (a b : Place) → a.object ≡ b.object → a.granter ≡ b.granter → a.grantee ≡ b.grantee → a.privilege ≡ b.privilege → a ≡ b
place_eq a b x y z w = search rules

pub same_true : (a b : Place) → same_place a b ≡ true → a ≡ b
same_true a b h = grind (arith, nat_tests)

pub true_same : (a b : Place) → a ≡ b → same_place a b ≡ true
true_same a b e = search rules

pub cases_place : (a b : Place) → (a ≡ b) ⊎ (a ≡ b → ⊥)
cases_place a b = search rules

pub differ_place : (a b : Place) → (a ≡ b → ⊥) → same_place a b ≡ false
differ_place a b ne = grind (arith, nat_tests)
