-- What the items of each object answer is what the cells answer.
use Rattle.std.proofs.Common.{◌≡◌, ℕ, ◌+◌, ◌*◌, ◌/◌, ◌%◌, ◌<◌, true, false, cond, ◌&&◌, eqb, ltb, ◌⊎◌, sym, refl, ap, ◌∙◌, subst, inl, inr, ⊎_elim, arith}
use Rattle.std.proofs.lemmas.Bool.{cases_Bool, eqb-true, eq-eqb, and_parts, and_from, both_ways, cond-true, cond-false, cond_both, lt-ltb, ltb-true}
use Rattle.std.proofs.lemmas.Nat.{div-add-mod', mod_below, div_below}
use Rattle.model.specs.Principals.{in_range, object_in_range}
use Rattle.model.specs.Privileges.{bit}
use Rattle.model.specs.States.{States, Lawful}
use Rattle.model.specs.Joining.{joining, JoinLaws}
use Rattle.model.specs.Allowed.{Allowed, unassigned}
use Rattle.model.specs.Folds.{count_below, any_below, join_below}
use Rattle.model.specs.Places.{place_in_range, number, principal_at, privilege_at}
use Rattle.model.specs.Stores.{assigned, in_use, pairs, has_option, state_towards, strongest, Sound}
use Rattle.model.specs.declared.principal.Principal.{Principal}
use Rattle.model.specs.declared.privilege.Privilege.{Privilege}
use Rattle.model.specs.declared.place.Place.{Place}
use Rattle.model.specs.declared.cell.Cell.{Cell}
use Rattle.model.specs.declared.cell.Orientation.{Orientation}
use Rattle.model.proofs.Joins.{join_laws}
use Rattle.model.proofs.Counting.{any_some, any_same, any_iff, count_same, count_owned, count_most}
use Rattle.model.proofs.JoinFolds.{same_joined}
use Rattle.model.proofs.Numbering.{number_in, in_number, number_at, bit_at}
use Rattle.model.proofs.Outside.{towards_none, unassigned_allowed, answers_outside_lem}
use Rattle.bitmap.specs.Items.{Items, item_in_use, held, pair_of, numbered, by_number, is_item_of, Kept, option_in, state_in}
use Rattle.bitmap.proofs.Held.{held_one, held_cases, held_used}

remainder : (g e : ℕ) → e < 128 → (g * 128 + e) % 128 ≡ e
remainder g e lt = omega arith

range_in : (o g e : ℕ) → o < 32 → g < 128 → e < 128 → (ltb o 32 && (ltb g 128 && ltb e 128)) ≡ true
range_in o g e lo lg le = and_from _ _ (lt-ltb o 32 lo) (and_from _ _ (lt-ltb g 128 lg) (lt-ltb e 128 le))

module _ {S : Type 0} (s : States S) (law : Lawful s) (m : ℕ → Items S) where
  laws : JoinLaws (joining s)
  laws = join_laws s law

  pub numbered_in : (o g e k : ℕ) → o < 32 → g < 128 → e < 128 → numbered s m o g e k ≡ held s (m o) 16 (pair_of g e) k
  unfolding numbered
  numbered_in o g e k lo lg le = cond-true _ (held s (m o) 16 (pair_of g e) k) (unassigned s) (range_in o g e lo lg le)

  numbered_out : (o g e k : ℕ) → (ltb o 32 && (ltb g 128 && ltb e 128)) ≡ false → numbered s m o g e k ≡ unassigned s
  unfolding numbered
  numbered_out o g e k h = cond-false _ (held s (m o) 16 (pair_of g e) k) (unassigned s) h

  -- a question put to each granter is one put to each item
  module _ {A : Type 0} (C : Cell S → A) (z : A) (plain : C (unassigned s) ≡ z) (o e k : ℕ) (lo : o < 32) (le : e < 128) (kept : Kept s (m o)) where
    to_items : (g : ℕ) → g < 128 → (C (numbered s m o g e k) ≡ z) ⊎ ((i : ℕ) × (i < 16) × (C (numbered s m o g e k) ≡ cond (item_in_use (joining s) (m o) i && eqb ((m o).pair i % 128) e) (C ((m o).cell i k)) z))
    to_items g lg =
        let is = numbered_in o g e k lo lg le in
        ⊎_elim
        (λ none. inl (ap C (is ∙ none) ∙ plain))
        (λ w.
        let both = and_parts (item_in_use (joining s) (m o) w.0) (eqb ((m o).pair w.0) (pair_of g e)) w.2 in
        let own = eqb-true ((m o).pair w.0) (pair_of g e) both.1 in
        inr (
          w.0,
          w.1,
          ap C (is ∙ w.3)
              ∙ sym (cond-true (item_in_use (joining s) (m o) w.0 && eqb ((m o).pair w.0 % 128) e) (C ((m o).cell w.0 k)) z
              (and_from _ _ both.0 (eq-eqb ((m o).pair w.0 % 128) e (ap (λ (n : ℕ). n % 128) own ∙ remainder g e le)))),
        ))
        (held_cases s (m o) 16 (pair_of g e) k)

    from_items : (i : ℕ) → i < 16 → (cond (item_in_use (joining s) (m o) i && eqb ((m o).pair i % 128) e) (C ((m o).cell i k)) z ≡ z) ⊎ ((g : ℕ) × (g < 128) × (cond (item_in_use (joining s) (m o) i && eqb ((m o).pair i % 128) e) (C ((m o).cell i k)) z ≡ C (numbered s m o g e k)))
    from_items i li =
        ⊎_elim
        (λ yes.
        let both = and_parts (item_in_use (joining s) (m o) i) (eqb ((m o).pair i % 128) e) yes in
        let g = (m o).pair i / 128 in
        let lg = div_below ((m o).pair i) 128 128 (omega arith) (kept.bounded i li both.0) in
        let own : (m o).pair i ≡ pair_of g e = sym (div-add-mod' ((m o).pair i) 128) ∙ ap (λ (n : ℕ). g * 128 + n) (eqb-true ((m o).pair i % 128) e both.1) in
        inr (
          g,
          lg,
          cond-true (item_in_use (joining s) (m o) i && eqb ((m o).pair i % 128) e) (C ((m o).cell i k)) z yes
              ∙ sym (ap C (numbered_in o g e k lo lg le ∙ held_one s (m o) 16 i (pair_of g e) k li both.0 own (λ a la ua same. kept.single a i la li ua both.0 (same ∙ sym own)))),
        ))
        (λ none. inl (cond-false (item_in_use (joining s) (m o) i && eqb ((m o).pair i % 128) e) (C ((m o).cell i k)) z none))
        (cases_Bool (item_in_use (joining s) (m o) i && eqb ((m o).pair i % 128) e))

  -- a principal in the place of its number
  at_granter : (o k e p : ℕ) → k < 128 → numbered s m o (number (principal_at k)) e p ≡ numbered s m o k e p
  at_granter o k e p lt = ap (λ (n : ℕ). numbered s m o n e p) (number_at k lt)

  pub tell_option : (o : ℕ) (p : Privilege) (e : Principal) → o < 32 → in_range e ≡ true → Kept s (m o) → has_option (by_number (numbered s m)) o p e ≡ any_below 16 (option_in (joining s) (m o) (number e) (bit p))
  unfolding has_option
  tell_option o p e lo re kept =
      let le = number_in e re in
      any_same 128 (λ k. (numbered s m o (number (principal_at k)) (number e) (bit p)).option) (λ k. (numbered s m o k (number e) (bit p)).option) (λ k lt. ap (λ (c : Cell S). c.option) (at_granter o k (number e) (bit p) lt))
      ∙ any_iff 128 16 (λ g. (numbered s m o g (number e) (bit p)).option) (option_in (joining s) (m o) (number e) (bit p))
      (λ g lg yes. ⊎_elim (λ none. absurd (both_ways _ none yes)) (λ w. any_some 16 w.0 (option_in (joining s) (m o) (number e) (bit p)) w.1 (sym w.2 ∙ yes)) (to_items (λ (c : Cell S). c.option) false refl o (number e) (bit p) lo le kept g lg))
      (λ i li yes. ⊎_elim (λ none. absurd (both_ways _ none yes)) (λ w. any_some 128 w.0 (λ g. (numbered s m o g (number e) (bit p)).option) w.1 (sym w.2 ∙ yes)) (from_items (λ (c : Cell S). c.option) false refl o (number e) (bit p) lo le kept i li))

  pub tell_strongest : (o : ℕ) (p : Privilege) (e : Principal) (t : Orientation) → o < 32 → in_range e ≡ true → Kept s (m o) → strongest (joining s) (by_number (numbered s m)) o p e t ≡ join_below (joining s) 16 (state_in (joining s) (m o) (number e) (bit p) t)
  unfolding strongest
  tell_strongest o p e t lo re kept =
      let le = number_in e re in
      let C : Cell S → S = state_towards (joining s) t in
      let plain : C (unassigned s) ≡ s.unassign = towards_none (joining s) t (unassigned s) refl in
      let far : ℕ → S = λ k. C (numbered s m o (number (principal_at k)) (number e) (bit p)) in
      let near : ℕ → S = λ k. C (numbered s m o k (number e) (bit p)) in
      let same : (k : ℕ) → k < 128 → far k ≡ near k = λ k lt. ap C (at_granter o k (number e) (bit p) lt) in
      same_joined (joining s) laws 128 128 far near (λ k lt. inr (k, lt, same k lt)) (λ k lt. inr (k, lt, sym (same k lt)))
      ∙ same_joined (joining s) laws 128 16 near (state_in (joining s) (m o) (number e) (bit p) t)
      (to_items C s.unassign plain o (number e) (bit p) lo le kept)
      (from_items C s.unassign plain o (number e) (bit p) lo le kept)

  used_is : (o g e : ℕ) → o < 32 → g < 128 → e < 128 → any_below 8 (λ k. assigned (joining s) (numbered s m o g e k).state) ≡ any_below 16 (is_item_of (joining s) (m o) (pair_of g e))
  used_is o g e lo lg le =
      any_same 8 (λ k. assigned (joining s) (numbered s m o g e k).state) (λ k. assigned (joining s) (held s (m o) 16 (pair_of g e) k).state) (λ k lk. ap (λ (c : Cell S). assigned (joining s) c.state) (numbered_in o g e k lo lg le))
      ∙ held_used s law (m o) 16 (pair_of g e)

  use_numbered : (o : ℕ) (g e : Principal) → in_use (joining s) (by_number (numbered s m)) o g e ≡ any_below 8 (λ k. assigned (joining s) (numbered s m o (number g) (number e) k).state)
  unfolding in_use
  use_numbered o g e =
      any_same 8 (λ k. assigned (joining s) (numbered s m o (number g) (number e) (bit (privilege_at k))).state) (λ k. assigned (joining s) (numbered s m o (number g) (number e) k).state)
      (λ k lk. ap (λ (n : ℕ). assigned (joining s) (numbered s m o (number g) (number e) n).state) (bit_at k lk))

  pub tell_used : (o : ℕ) (g e : Principal) → o < 32 → in_range g ≡ true → in_range e ≡ true → in_use (joining s) (by_number (numbered s m)) o g e ≡ any_below 16 (is_item_of (joining s) (m o) (pair_of (number g) (number e)))
  tell_used o g e lo rg re = use_numbered o g e ∙ used_is o (number g) (number e) lo (number_in g rg) (number_in e re)

  pub tell_pairs : (o : ℕ) → o < 32 → Kept s (m o) → pairs (joining s) (by_number (numbered s m)) o ≡ count_below 16 (item_in_use (joining s) (m o))
  unfolding pairs
  tell_pairs o lo kept =
      count_same 16384 (λ k. in_use (joining s) (by_number (numbered s m)) o (principal_at (k / 128)) (principal_at (k % 128))) (λ k. any_below 16 (is_item_of (joining s) (m o) k))
      (λ k below.
      let lg : k / 128 < 128 = div_below k 128 128 (omega arith) (omega arith) in
      let le : k % 128 < 128 = mod_below k 128 (omega arith) in
      use_numbered o (principal_at (k / 128)) (principal_at (k % 128))
      ∙ ap (λ (n : ℕ). any_below 8 (λ p. assigned (joining s) (numbered s m o n (number (principal_at (k % 128))) p).state)) (number_at (k / 128) lg)
      ∙ ap (λ (n : ℕ). any_below 8 (λ p. assigned (joining s) (numbered s m o (k / 128) n p).state)) (number_at (k % 128) le)
      ∙ used_is o (k / 128) (k % 128) lo lg le
      ∙ ap (λ (n : ℕ). any_below 16 (is_item_of (joining s) (m o) n)) (div-add-mod' k 128))
      ∙ count_owned 16384 16 (m o).pair (item_in_use (joining s) (m o)) kept.bounded kept.single

  range_numbers : (p : Place) → place_in_range p ≡ false → (ltb p.object 32 && (ltb (number p.granter) 128 && ltb (number p.grantee) 128)) ≡ false
  range_numbers p out =
      ⊎_elim
      (λ yes.
      let a = and_parts (ltb p.object 32) _ yes in
      let b = and_parts (ltb (number p.granter) 128) (ltb (number p.grantee) 128) a.1 in
      absurd (both_ways (place_in_range p) out (and_from (object_in_range p.object) _ a.0 (and_from (in_range p.granter) (in_range p.grantee) (in_number p.granter (ltb-true _ 128 b.0)) (in_number p.grantee (ltb-true _ 128 b.1))))))
      (λ none. none)
      (cases_Bool (ltb p.object 32 && (ltb (number p.granter) 128 && ltb (number p.grantee) 128)))

  pub cells_outside : (p : Place) → place_in_range p ≡ false → by_number (numbered s m) p ≡ unassigned s
  cells_outside p out = numbered_out p.object (number p.granter) (number p.grantee) (bit p.privilege) (range_numbers p out)

  module _ (each : (o : ℕ) → Kept s (m o)) where
    cell_allowed : (p : Place) → Allowed s (by_number (numbered s m) p)
    unfolding numbered
    cell_allowed p =
        let o = p.object in
        let l = pair_of (number p.granter) (number p.grantee) in
        let none : Allowed s (unassigned s) = unassigned_allowed s law in
        cond_both (ltb o 32 && (ltb (number p.granter) 128 && ltb (number p.grantee) 128)) (held s (m o) 16 l (bit p.privilege)) (unassigned s) (Allowed s)
        (λ _. ⊎_elim
        (λ e. subst (Allowed s) (sym e) none)
        (λ w. subst (Allowed s) (sym w.3) ((each o).allowed w.0 (bit p.privilege)))
        (held_cases s (m o) 16 l (bit p.privilege)))
        (λ _. none)

    pub table_sound : Sound s (by_number (numbered s m))
    table_sound = record {
      allowed = cell_allowed;
      outside = cells_outside;
      room = λ o.
          ⊎_elim
          (λ yes. omega (arith, tell_pairs o (ltb-true o 32 yes) (each o), count_most 16 (item_in_use (joining s) (m o))))
          (λ none. omega (arith, (answers_outside_lem s law (by_number (numbered s m)) cells_outside).no_pairs o none))
          (cases_Bool (ltb o 32));
    }
