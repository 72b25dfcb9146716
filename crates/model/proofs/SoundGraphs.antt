-- Every call keeps a graph sound, and counts its links.
use Rattle.std.proofs.Common.{◌≡◌, ℕ, ◌+◌, ◌<◌, ◌≤◌, Bool, true, false, cond, not, eqb, ltb, Some, None, Option, sym, refl, ap, ◌∙◌, ⊎_elim, arith, ne_eqb, eqb-true, rules}
use Rattle.std.proofs.lemmas.Bool.{and_parts, or_cases}
use Rattle.model.specs.declared.principal.Principal.{Principal}
use Rattle.model.specs.declared.principal.Principal.TheVariants.{User, Role}
use Rattle.model.specs.Principals.{in_range, user_level}
use Rattle.model.specs.LinkCount.{link_count}
use Rattle.model.specs.Graphs.{RoleGraph, Sound, same_link, falls, takes_level, takes_link, with_level, with_link, without_link}
use Rattle.model.proofs.Chains.{smaller_right}
use Rattle.model.proofs.Numbering.{principal_same}
use Rattle.model.proofs.LinkCounts.{count_more, count_less}

none_some : {A : Type 0} (n : ℕ) → None ≡ Some n → A
none_some n e = search rules

-- a link stands only between numbers in range
pub lower_in_range : (level : ℕ → Option ℕ) → ((r : ℕ) → 64 ≤ r → level r ≡ None) → (p : Principal) (r : ℕ) → falls level p r ≡ true → r < 64
lower_in_range level b p r f = search rules

pub upper_in_range : (level : ℕ → Option ℕ) → ((r : ℕ) → 64 ≤ r → level r ≡ None) → (p : Principal) (r : ℕ) → falls level p r ≡ true → in_range p ≡ true
upper_in_range level b (User n) r f = in_case (ltb n 64) (smaller_right (level r) (user_level n) f)
  where
    in_case : (t : Bool) → (m : ℕ) × (cond t (Some 8) None ≡ Some m) → t ≡ true
    in_case true h = refl
    in_case false h = none_some h.0 h.1
upper_in_range level b (Role n) r f = search rules

pub record TakesLevel (g : RoleGraph) (r n : ℕ) : Type 0 where
  pub role : r < 64
  pub low : n < 8
  pub none : g.level r ≡ None

pub level_taken : (g : RoleGraph) (r n : ℕ) → takes_level g r n ≡ true → TakesLevel g r n
level_taken g r n e = search rules

pub record TakesLink (full : Bool) (g : RoleGraph) (p : Principal) (r : ℕ) : Type 0 where
  pub memory : full ≡ true
  pub upper : in_range p ≡ true
  pub lower : r < 64
  pub fall : falls g.level p r ≡ true
  pub absent : g.linked p r ≡ false
  pub few : link_count g.linked < 256

pub link_taken : (full : Bool) (g : RoleGraph) (p : Principal) (r : ℕ) → Sound g → takes_link full g p r ≡ true → TakesLink full g p r
link_taken full g p r s e = search rules

-- a level that stands stays
module _ (g : RoleGraph) (r n : ℕ) (v : g.level r ≡ None) where
  level_kept : (k m : ℕ) → g.level k ≡ Some m → (with_level g r n).level k ≡ Some m
  level_kept k m e = search rules

  falls_kept : (p : Principal) (k : ℕ) → falls g.level p k ≡ true → falls (with_level g r n).level p k ≡ true
  falls_kept p k f = search rules

pub sound_with_level : (g : RoleGraph) (r n : ℕ) → Sound g → takes_level g r n ≡ true → Sound (with_level g r n)
sound_with_level g r n s e =
    let t = level_taken g r n e in
    record {
      low = λ k m q. low_case k m t.low (eqb r k) q;
      roles_in_range = λ k l. ap (λ b. cond b (Some n) (g.level k)) (ne_eqb r k (λ z. omega (arith, t.role))) ∙ s.roles_in_range k l;
      falling = λ p k q. falls_kept g r n t.none p k (s.falling p k q);
      few = s.few;
    }
  where
    low_case : (k m : ℕ) → n < 8 → (b : Bool) → cond b (Some n) (g.level k) ≡ Some m → m < 8
    low_case k m l true q = let z : n ≡ m = cc in omega arith
    low_case k m l false q = s.low k m q

pub count_with_link : (full : Bool) (g : RoleGraph) (p : Principal) (r : ℕ) → Sound g → takes_link full g p r ≡ true → link_count (with_link g p r).linked ≡ 1 + link_count g.linked
count_with_link full g p r s e =
    let t = link_taken full g p r s e in count_more g.linked p r t.upper t.lower t.absent

pub sound_with_link : (full : Bool) (g : RoleGraph) (p : Principal) (r : ℕ) → Sound g → takes_link full g p r ≡ true → Sound (with_link g p r)
sound_with_link full g p r s e =
    let t = link_taken full g p r s e in
    record {
      low = s.low;
      roles_in_range = s.roles_in_range;
      falling = λ q k h.
          ⊎_elim
          (λ (z : same_link p r q k ≡ true).
          let a = and_parts _ _ z in
          ap (λ y. falls g.level y k) (sym (principal_same p q a.0)) ∙ ap (λ y. falls g.level p y) (sym (eqb-true r k a.1)) ∙ t.fall)
          (λ (z : g.linked q k ≡ true). s.falling q k z)
          (or_cases (same_link p r q k) (g.linked q k) h);
      few = omega (arith, t.few, count_with_link full g p r s e);
    }

pub count_without_link : (g : RoleGraph) (p : Principal) (r : ℕ) → Sound g → g.linked p r ≡ true → link_count g.linked ≡ 1 + link_count (without_link g p r).linked
count_without_link g p r s e =
    let f = s.falling p r e in
    count_less g.linked p r (upper_in_range g.level s.roles_in_range p r f) (lower_in_range g.level s.roles_in_range p r f) e

pub sound_without_link : (g : RoleGraph) (p : Principal) (r : ℕ) → Sound g → g.linked p r ≡ true → Sound (without_link g p r)
sound_without_link g p r s e = record {
  low = s.low;
  roles_in_range = s.roles_in_range;
  falling = λ q k h. s.falling q k (and_parts (not (same_link p r q k)) (g.linked q k) h).1;
  few = omega (arith, s.few, count_without_link g p r s e);
}
