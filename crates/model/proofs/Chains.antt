-- Principals, levels and chains of links.
use Rattle.std.proofs.Common.{◌≡◌, ℕ, ◌<◌, Bool, true, ◌⊎◌, Some, None, Decides, Option, sym, refl, ap, ◌∙◌, subst, inl, inr, ⊎_elim, eq-eqb, rules}
use borrow.Author.Tests.{clash}
use Rattle.model.specs.declared.principal.Principal.{Principal}
use Rattle.model.proofs.Numbering.{principal_same, same_principals}
use Rattle.model.specs.declared.principal.Principal.TheVariants.{User, Role}
use Rattle.model.specs.Places.{same_principal}
use Rattle.model.specs.Graphs.{RoleGraph, smaller, falls, level_of, Chain, stay, via, Reaches, Above}

pub same_self : (a : Principal) → same_principal a a ≡ true
same_self (User n) = eq-eqb n n refl
same_self (Role n) = eq-eqb n n refl

pub decides_same : (a b : Principal) → Decides (same_principal a b) (a ≡ b)
decides_same a b = (principal_same a b, same_principals a b)

-- a chain between two that differ begins with a link
pub first_link : {linked : Principal → ℕ → Bool} {a b : Principal} → Chain linked a b → (a ≡ b) ⊎ ((r : ℕ) × (linked a r ≡ true) × Chain linked (Role r) b)
first_link (stay a) = inl refl
first_link (via a b r e c) = inr (r, e, c)

pub stay_at : {linked : Principal → ℕ → Bool} (a b : Principal) → a ≡ b → Chain linked a b
stay_at {linked} a b e = let P : Principal → Type 0 = λ x. Chain linked a x in subst P e (stay a)

pub joined : {linked : Principal → ℕ → Bool} {a b c : Principal} → Chain linked a b → Chain linked b c → Chain linked a c
joined (stay a) d = d
joined (via a b r e ch) d = via a _ r e (joined ch d)

-- no chain leads from a role to a user
role_to_user : {linked : Principal → ℕ → Bool} {a b : Principal} → Chain linked a b → (r n : ℕ) → a ≡ Role r → b ≡ User n → ⊥
role_to_user (stay a) r n p q = search rules
role_to_user (via a b k e ch) r n p q = role_to_user ch k n refl q

pub no_chain_to_user : {linked : Principal → ℕ → Bool} (a : Principal) (n : ℕ) → (a ≡ User n → ⊥) → Chain linked a (User n) → ⊥
no_chain_to_user {linked} a n ne ch =
    ⊎_elim ne (λ (f : (r : ℕ) × (linked a r ≡ true) × Chain linked (Role r) (User n)). role_to_user f.2 f.0 n refl refl) (first_link ch)

pub smaller_less : (a b : Option ℕ) (m n : ℕ) → smaller a b ≡ true → a ≡ Some m → b ≡ Some n → m < n
smaller_less a b m n e p q = search rules

pub smaller_right : (a b : Option ℕ) → smaller a b ≡ true → (n : ℕ) × (b ≡ Some n)
smaller_right a (Some n) e = (n, refl)
smaller_right None None e = absurd (clash e)
smaller_right (Some m) None e = absurd (clash e)

smaller_trans : (a b c : Option ℕ) → smaller a b ≡ true → smaller b c ≡ true → smaller a c ≡ true
smaller_trans (Some l) (Some m) (Some n) e f = search rules
smaller_trans (Some l) (Some m) None e f = absurd (clash f)
smaller_trans (Some l) None c e f = absurd (clash e)
smaller_trans None (Some m) c e f = absurd (clash e)
smaller_trans None None c e f = absurd (clash e)

-- where levels fall along links, they fall along chains
along : (level : ℕ → Option ℕ) {linked : Principal → ℕ → Bool} → ((p : Principal) (r : ℕ) → linked p r ≡ true → falls level p r ≡ true) → {a b : Principal} → Chain linked a b → (k : ℕ) → b ≡ Role k → (a ≡ b) ⊎ (falls level a k ≡ true)
along level f (stay a) k q = inl refl
along level f (via a b r e ch) k q =
    inr
    (⊎_elim
    (λ (z : Role r ≡ b). let w : r ≡ k = cc in ap (λ x. falls level a x) (sym w) ∙ f a r e)
    (λ (z : falls level (Role r) k ≡ true). smaller_trans (level k) (level r) (level_of level a) z (f a r e))
    (along level f ch k q))

pub chain_falls : (level : ℕ → Option ℕ) {linked : Principal → ℕ → Bool} → ((p : Principal) (r : ℕ) → linked p r ≡ true → falls level p r ≡ true) → (a : Principal) (k : ℕ) → (a ≡ Role k → ⊥) → Chain linked a (Role k) → falls level a k ≡ true
chain_falls level f a k ne ch =
    ⊎_elim (λ (z : a ≡ Role k). absurd (ne z)) (λ (z : falls level a k ≡ true). z) (along level f ch k refl)

role_apart : (a b : ℕ) → (a ≡ b → ⊥) → Role a ≡ Role b → ⊥
role_apart a b ne e = ne (cc)

-- the answer to whether a is above b, where they differ
pub above_decided : (g : RoleGraph) (a b : ℕ) (r : Bool) → (a ≡ b → ⊥) → Decides r (Reaches g (Role a) (Role b)) → Decides r (Above g a b)
above_decided g a b r ne d = search rules

pub above_falls : (g : RoleGraph) (a b : ℕ) → ((p : Principal) (r : ℕ) → g.linked p r ≡ true → falls g.level p r ≡ true) → Above g a b → falls g.level (Role a) b ≡ true
above_falls g a b f h = chain_falls g.level f (Role a) b (role_apart a b h.differ) h.reaches.chain
