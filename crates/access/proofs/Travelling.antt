-- What travels between a role and one below it.
use Rattle.std.proofs.Common.{◌≡◌, ℕ, Bool, true, false, ◌⊎◌, sym, refl, subst, inl, inr, ⊎_elim}
use Rattle.std.proofs.lemmas.Bool.{cases_eq, both_ways}
use Rattle.model.specs.States.{States, Lawful}
use Rattle.model.specs.Allowed.{Allowed}
use Rattle.model.specs.Graphs.{RoleGraph, Above}
use Rattle.model.specs.Places.{place}
use Rattle.model.specs.Stores.{Cells, Sound}
use Rattle.model.specs.declared.principal.Principal.{Principal}
use Rattle.model.specs.declared.principal.Principal.TheVariants.{Role}
use Rattle.model.specs.declared.privilege.Privilege.{Privilege}
use Rattle.model.specs.declared.cell.Cell.{Cell}
use Rattle.model.specs.declared.cell.Orientation.{Orientation}
use Rattle.model.specs.declared.cell.Orientation.TheVariants.{Up, Down, Neutral}
use Rattle.model.proofs.Chains.{joined}
use Rattle.access.specs.Masters.{Masters}
use Rattle.access.specs.Reaching.{Way, ReachesRole, IsAnswer}
use Rattle.access.specs.Between.{NoNeutral, Follows, BetweenRoles}

above_through : (g : RoleGraph) (a b c : ℕ) → (a ≡ c → ⊥) → Above g a b → Above g b c → Above g a c
above_through g a b c ne x y = record { differ = ne; reaches = record { from = x.reaches.from; to = y.reaches.to; chain = joined x.reaches.chain y.reaches.chain } }

module _ {S : Type 0} (st : States S) (law : Lawful st) (g : RoleGraph) (masters : Masters) (cells : Cells S) (sound : Sound st cells) (o : ℕ) (p : Privilege) (a b : ℕ) (above : Above g a b) where
  abbrev cell : Principal → ℕ → Cell S
  cell granter at = cells (place o granter (Role at) p)

  fits : (granter : Principal) (at : ℕ) → Allowed st (cell granter at)
  fits granter at = sound.allowed (place o granter (Role at) p)

  -- what travels up and reaches the lower role reaches the upper one
  rises : (granter : Principal) (at : ℕ) → st.travels_up (cell granter at).state ≡ true → Way g b at (cell granter at) → Way g a at (cell granter at)
  rises granter at up (inl e) = inr (inl ((fits granter at).upward up, subst (Above g a) (sym e) above))
  rises granter at up (inr (inl h)) = ⊎_elim (λ e. inl (sym e)) (λ ne. inr (inl (h.0, above_through g a b at ne above h.1))) (cases_eq a at)
  rises granter at up (inr (inr h)) = let oriented = (fits granter at).upward up in absurd (cc (oriented, h.0))

  module _ (no_neutral : NoNeutral cells o p a) where
    sinks_there : (granter : Principal) (d : Orientation) → (cell granter a).orientation ≡ d → (d ≡ Up → ⊥) → (cell granter a).orientation ≡ Down
    sinks_there granter Up e ne = absurd (ne refl)
    sinks_there granter Down e ne = e
    sinks_there granter Neutral e ne = absurd (no_neutral granter e)

    -- what travels down and reaches the upper role reaches the lower one
    sinks : (granter : Principal) (at : ℕ) → st.travels_up (cell granter at).state ≡ false → Way g a at (cell granter at) → Way g b at (cell granter at)
    sinks granter at down (inl e) =
        let there = sinks_there granter _ refl ((fits granter a).downward (subst (λ k. st.travels_up (cell granter k).state ≡ false) e down)) in
        inr (inr (subst (λ k. (cell granter k).orientation ≡ Down) (sym e) there, subst (λ k. Above g k b) (sym e) above))
    sinks granter at down (inr (inl h)) = absurd ((fits granter at).downward down h.0)
    sinks granter at down (inr (inr h)) = ⊎_elim (λ e. inl e) (λ ne. inr (inr (h.0, above_through g at a b ne h.1 above))) (cases_eq at b)

    module _ (s t : S) (upper : IsAnswer st g masters cells o p (Role a) s) (lower : IsAnswer st g masters cells o p (Role b) t) where
      downward : st.travels_up s ≡ false → st.overrides t s ≡ true
      downward down = go upper.one
        where
          go : ReachesRole g cells o p a s ⊎ (s ≡ st.unassign) → st.overrides t s ≡ true
          go (inl h) = lower.over s (record { granter = h.granter; at = h.at; in_range = h.in_range; state = h.state; way = sinks h.granter h.at (rw h.state down) h.way })
          go (inr e) = rw e (law.over_unassign t)

      stronger : st.travels_up t ≡ true → st.overrides s t ≡ true
      stronger up = go lower.one
        where
          go : ReachesRole g cells o p b t ⊎ (t ≡ st.unassign) → st.overrides s t ≡ true
          go (inl h) = upper.over t (record { granter = h.granter; at = h.at; in_range = h.in_range; state = h.state; way = rises h.granter h.at (rw h.state up) h.way })
          go (inr e) = rw e (law.over_unassign s)

      -- else the two would be one state
      travels_up : st.travels_up t ≡ true → (k : Bool) → st.travels_up s ≡ k → st.travels_up s ≡ true
      travels_up up true e = e
      travels_up up false e = let same = law.antisymmetric s t (stronger up) (downward e) in absurd (both_ways (st.travels_up t) (rw same at e) up)

      pub follows : Follows st s t
      follows = record { down = downward; up = λ up. (stronger up, travels_up up _ refl) }

pub between_roles : {S : Type 0} (st : States S) → Lawful st → (g : RoleGraph) (masters : Masters) (cells : Cells S) → Sound st cells → BetweenRoles st g masters cells
between_roles st law g masters cells sound o p a b above no_neutral s t upper lower =
    follows st law g masters cells sound o p a b above no_neutral s t upper lower
