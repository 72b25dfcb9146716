-- There is one granter at most.
use Rattle.std.proofs.Common.{◌≡◌, ℕ, Some, None, Option, sym, refl, ap, subst, ◌∙◌, inl, inr, ⊎_elim}
use Rattle.std.proofs.lemmas.Bool.{cases_order}
use Rattle.std.specs.Option.{option_map}
use Rattle.model.specs.Graphs.{RoleGraph}
use Rattle.model.specs.Stores.{Cells}
use Rattle.model.specs.declared.principal.Principal.{Principal}
use Rattle.model.specs.declared.principal.Principal.TheVariants.{Role}
use Rattle.model.specs.declared.privilege.Privilege.{Privilege}
use Rattle.access.specs.Masters.{Masters}
use Rattle.access.specs.Giving.{InOwnRight, Through, IsLowest, GivesAs, LowestRole, GranterIs}

module _ {S : Type 0} (g : RoleGraph) (masters : Masters) (cells : Cells S) (u o : ℕ) (p : Privilege) where
  one_lowest : (a b : Principal) → LowestRole g masters cells u o p a → LowestRole g masters cells u o p b → a ≡ b
  one_lowest a b x y =
      let same : x.role ≡ y.role =
      ⊎_elim (λ e. e) (⊎_elim (λ lt. absurd (y.lowest x.role lt x.through)) (λ lt. absurd (x.lowest y.role lt y.through))) (cases_order x.role y.role) in
      x.is ∙ ap Role same ∙ sym y.is

  one_giver : (a b : Principal) → GivesAs g masters cells u o p a → GivesAs g masters cells u o p b → a ≡ b
  one_giver a b (inl x) (inl y) = x.1 ∙ sym y.1
  one_giver a b (inl x) (inr y) = absurd (y.not_own x.0)
  one_giver a b (inr x) (inl y) = absurd (x.not_own y.0)
  one_giver a b (inr x) (inr y) = one_lowest a b x y

  pub one_granter : (a b : Option Principal) → GranterIs g masters cells u o p a → GranterIs g masters cells u o p b → a ≡ b
  one_granter None None x y = refl
  one_granter None (Some q) x y = absurd (x q y)
  one_granter (Some q) None x y = absurd (y q x)
  one_granter (Some q) (Some r) x y = ap Some (one_giver q r x y)

  -- a user who does not give as itself gives as the lowest-numbered role
  pub lowest_gives : (r : Option ℕ) → (InOwnRight masters cells u o p → ⊥) → IsLowest (Through g cells u o p) r → (q : Option Principal) → q ≡ option_map Role r → GranterIs g masters cells u o p q
  lowest_gives None not_own lowest q e = subst (GranterIs g masters cells u o p) (sym e) none
    where
      none : (q : Principal) → GivesAs g masters cells u o p q → ⊥
      none q (inl h) = not_own h.0
      none q (inr h) = lowest h.role h.through
  lowest_gives (Some k) not_own lowest q e = subst (GranterIs g masters cells u o p) (sym e) (inr (record { not_own = not_own; role = k; is = refl; through = lowest.0; lowest = lowest.1 }))
