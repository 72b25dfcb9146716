-- What a store tells of a grantee, in terms of its cells.
use Rattle.std.proofs.Common.{◌≡◌, ℕ, Bool, true, false, cond, ◌⊎◌, Decides, sym, refl, ap, ◌∙◌, subst, inl, inr, ⊎_elim}
use Rattle.std.proofs.lemmas.Bool.{cases_Bool, cond-true, and_left, and_right, both_ways}
use Rattle.model.specs.Principals.{in_range, object_in_range}
use Rattle.model.specs.States.{States, Lawful}
use Rattle.model.specs.Joining.{joining, Stronger}
use Rattle.model.specs.Places.{place, same_orientation, principal_at, number}
use Rattle.model.specs.Stores.{Cells, state_towards, strongest, has_option, Sound}
use Rattle.model.specs.declared.principal.Principal.{Principal}
use Rattle.model.specs.declared.privilege.Privilege.{Privilege}
use Rattle.model.specs.declared.cell.Cell.{Cell}
use Rattle.model.specs.declared.cell.Orientation.{Orientation}
use Rattle.model.specs.declared.cell.Orientation.TheVariants.{Up, Down, Neutral}
use Rattle.model.proofs.Counting.{any_witness, any_some}
use Rattle.model.proofs.Numbering.{number_in, at_number}
use Rattle.access.specs.Reaching.{Strongest, Assigned}
use Rattle.access.specs.Giving.{Optioned}
use Rattle.access.specs.RoleByRole.{Towards}
use Rattle.access.proofs.StrongestOf.{OrUnassign, Among, strongest_as, strongest_same, strongest_of_fold, strongest_of_both}

same_towards : (t u : Orientation) → same_orientation t u ≡ true → u ≡ t
same_towards Up Up e = refl
same_towards Up Down e = absurd (cc)
same_towards Up Neutral e = absurd (cc)
same_towards Down Up e = absurd (cc)
same_towards Down Down e = refl
same_towards Down Neutral e = absurd (cc)
same_towards Neutral Up e = absurd (cc)
same_towards Neutral Down e = absurd (cc)
same_towards Neutral Neutral e = refl

towards_same : (t : Orientation) → same_orientation t t ≡ true
towards_same Up = refl
towards_same Down = refl
towards_same Neutral = refl

module _ {S : Type 0} (st : States S) (cells : Cells S) (sound : Sound st cells) (o : ℕ) (p : Privilege) (q : Principal) where
  -- the cell that a granter gave to q
  abbrev cell : Principal → Cell S
  cell granter = cells (place o granter q p)

  -- a granter out of range gave nothing
  no_granter : (granter : Principal) → in_range granter ≡ false → cell granter ≡ record { state = st.unassign; orientation = Up; option = false }
  no_granter granter out = sound.outside (place o granter q p) (and_right (object_in_range o) _ (and_left (in_range granter) (in_range q) out))

  module _ (law : Lawful st) where
    read_towards : (t : Orientation) → Strongest st (Towards cells o p q t) (strongest (joining st) cells o p q t)
    unfolding strongest
    read_towards t = strongest_as st law (Among 128 f) (Towards cells o p q t) _ to from (strongest_of_fold st law 128 f)
      where
        f : ℕ → S
        f k = state_towards (joining st) t (cell (principal_at k))

        to : (s : S) → Among 128 f s → OrUnassign st (Towards cells o p q t) s
        to s m = go (same_orientation t c.orientation) refl
          where
            c : Cell S
            c = cell (principal_at m.0)

            go : (b : Bool) → same_orientation t c.orientation ≡ b → OrUnassign st (Towards cells o p q t) s
            go true e = inl (record { granter = principal_at m.0; state = sym (cond-true _ c.state st.unassign e) ∙ m.2; oriented = same_towards t _ e })
            go false e = inr (sym m.2 ∙ ap (λ b. cond b c.state st.unassign) e)

        from : (s : S) → Towards cells o p q t s → OrUnassign st (Among 128 f) s
        from s h = ⊎_elim
            (λ (e : in_range h.granter ≡ true). inl (number h.granter, number_in h.granter e, ap (λ g. state_towards (joining st) t (cell g)) (at_number h.granter e) ∙ cond-true _ (cell h.granter).state st.unassign (ap (same_orientation t) h.oriented ∙ towards_same t) ∙ h.state))
            (λ (e : in_range h.granter ≡ false). inr (sym h.state ∙ ap (λ c. c.state) (no_granter h.granter e)))
            (cases_Bool (in_range h.granter))

    pub told_towards : (t : Orientation) (s : S) → s ≡ strongest (joining st) cells o p q t → Strongest st (Towards cells o p q t) s
    told_towards t s e = subst (Strongest st (Towards cells o p q t)) (sym e) (read_towards t)

  option_read : has_option cells o p q ≡ true → Optioned cells o p q
  unfolding has_option
  option_read e = let w = any_witness 128 (λ k. (cell (principal_at k)).option) e in record { granter = principal_at w.0; option = w.2 }

  option_stands : Optioned cells o p q → has_option cells o p q ≡ true
  unfolding has_option
  option_stands h = ⊎_elim
      (λ (e : in_range h.granter ≡ true). any_some 128 (number h.granter) (λ k. (cell (principal_at k)).option) (number_in h.granter e) (ap (λ g. (cell g).option) (at_number h.granter e) ∙ h.option))
      (λ (e : in_range h.granter ≡ false). absurd (both_ways _ (ap (λ c. c.option) (no_granter h.granter e)) h.option))
      (cases_Bool (in_range h.granter))

  pub told_option : (r : Bool) → r ≡ has_option cells o p q → Decides r (Optioned cells o p q)
  told_option r e = ((λ y. option_read (sym e ∙ y)), (λ h. e ∙ option_stands h))

module _ {S : Type 0} (st : States S) (law : Lawful st) (cells : Cells S) (o : ℕ) (p : Privilege) (q : Principal) where
  -- one of the three orientations is that of each cell
  pub in_any_orientation : (up down both neutral r : S) → Strongest st (Towards cells o p q Up) up → Strongest st (Towards cells o p q Down) down → Strongest st (Towards cells o p q Neutral) neutral → Stronger st up down both → Stronger st both neutral r → Strongest st (Assigned cells o p q) r
  in_any_orientation up down both neutral r x y z j k =
      strongest_same st law (λ t. (Towards cells o p q Up t ⊎ Towards cells o p q Down t) ⊎ Towards cells o p q Neutral t) (Assigned cells o p q) r to from
      (strongest_of_both st law _ _ both neutral r (strongest_of_both st law _ _ up down both x y j) z k)
    where
      to : (t : S) → (Towards cells o p q Up t ⊎ Towards cells o p q Down t) ⊎ Towards cells o p q Neutral t → Assigned cells o p q t
      to t (inl (inl h)) = record { granter = h.granter; state = h.state }
      to t (inl (inr h)) = record { granter = h.granter; state = h.state }
      to t (inr h) = record { granter = h.granter; state = h.state }

      from : (t : S) → Assigned cells o p q t → (Towards cells o p q Up t ⊎ Towards cells o p q Down t) ⊎ Towards cells o p q Neutral t
      from t h = go (cells (place o h.granter q p)).orientation refl
        where
          go : (d : Orientation) → (cells (place o h.granter q p)).orientation ≡ d → (Towards cells o p q Up t ⊎ Towards cells o p q Down t) ⊎ Towards cells o p q Neutral t
          go Up e = inl (inl (record { granter = h.granter; state = h.state; oriented = e }))
          go Down e = inl (inr (record { granter = h.granter; state = h.state; oriented = e }))
          go Neutral e = inr (record { granter = h.granter; state = h.state; oriented = e })
