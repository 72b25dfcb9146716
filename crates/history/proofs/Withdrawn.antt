-- An assignment that was withdrawn leaves no trace in later answers.
use Rattle.std.proofs.Common.{◌≡◌, ℕ, ◌<◌, ◌≤◌, Bool, true, false, ◌⊎◌, List, [], ◌∷◌, ◌++◌, Some, Ok, Err, Option, sym, refl, ap, ◌∙◌, subst, inl, inr, arith}
use mathlib.Core.Path.{fun_ext}
use mathlib.Core.List.{Memᴰ}
use borrow.Author.Tests.{both_ways}
use Rattle.std.proofs.lemmas.Bool.{cases_Bool}
use Rattle.model.specs.States.{States, Lawful}
use Rattle.model.specs.Joining.{JoinLaws, joining}
use Rattle.model.specs.Allowed.{unassigned}
use Rattle.model.specs.Principals.{in_range}
use Rattle.model.specs.Places.{place, privilege_at}
use Rattle.model.specs.Stores.{Cells, put, assigned, in_use, pairs, has_room}
use Rattle.model.specs.declared.principal.Principal.{Principal}
use Rattle.model.specs.declared.principal.Principal.TheVariants.{User, Role}
use Rattle.model.specs.declared.privilege.Privilege.{Privilege}
use Rattle.model.specs.declared.cell.Cell.{Cell}
use Rattle.model.specs.declared.place.Place.{Place}
use Rattle.model.proofs.Joins.{join_laws}
use Rattle.model.proofs.Numbering.{cases_place}
use Rattle.model.proofs.Outside.{unassigned_none}
use Rattle.access.specs.Giving.{Optioned, InOwnRight, GivesAs}
use Rattle.reading.specs.Questions.{Question, ask, AllYes, FirstNo}
use Rattle.reading.proofs.Asking.{no_first}
use Rattle.grammar.specs.declared.sentence.Sentence.TheVariants.{Revoke}
use Rattle.standing.specs.Faults.{number_of}
use Rattle.standing.specs.declared.fault.StandingFault.TheVariants.{Room}
use Rattle.standing.specs.declared.report.Report.TheVariants.{DoneBy}
use Rattle.history.specs.World.{World, new_world, with_cells}
use Rattle.history.specs.Deeds.{Assignment, Deed, unsaid, make_role, make_object, add_link, cut_link, assign, check, Asks, assigning}
use Rattle.history.specs.Asking.{Exists, Made, Defined, HasState, HasGranter, HasRoom, questions}
use Rattle.history.specs.Steps.{Answer, Effect, Refuses, Does, Step, Turn, Run}
use Rattle.history.specs.Lasting.{NoneSets, Assigned}
use Rattle.history.specs.Withdrawing.{content, contents, Revoked, LeavesNoTrace}
use Rattle.history.proofs.Faults.{one_fault}
use Rattle.history.proofs.Runs.{differ, asks_one, granter_one, BothDamaged, same_content, damaged_step, run_parts, run_alike}
use Rattle.history.proofs.LastSets.{last_one, assigned_one, AssignsAt, assigned_to, assigned_from, last_assigned}
use Rattle.history.proofs.Pairs.{put_here, put_else, use_witness, use_some, pairs_sub, pairs_less, room_cases, room_from}
use Rattle.history.proofs.Sound.{Proper, proper, SoundWorld, granter_in_range, step_sound, run_sound, new_sound}

-- two lists of questions that are answered alike
abbrev Agree : List Question → List Question → Type 0
Agree [] [] = Unit {0}
Agree [] (r ∷ rs) = ⊥
Agree (q ∷ qs) [] = ⊥
Agree (q ∷ qs) (r ∷ rs) = (q.yes → r.yes) × (r.yes → q.yes) × (q.number ≡ r.number) × Agree qs rs

-- the first no, if it is not that to the last question
agree_first : (qs rs : List Question) (q r : Question) (k : ℕ) → Agree qs rs → (k ≡ q.number → ⊥) → FirstNo (qs ++ (q ∷ [])) k → FirstNo (rs ++ (r ∷ [])) k
agree_first [] [] q r k a n (inl x) = absurd (n x.1)
agree_first [] [] q r k a n (inr x) = absurd x.1
agree_first [] (r' ∷ rs) q r k a n x = absurd a
agree_first (q' ∷ qs) [] q r k a n x = absurd a
agree_first (q' ∷ qs) (r' ∷ rs) q r k a n (inl x) = inl (λ y. x.0 (a.1 y), x.1 ∙ a.2)
agree_first (q' ∷ qs) (r' ∷ rs) q r k a n (inr x) = inr (a.0 x.0, agree_first qs rs q r k a.3 n x.1)

module _ {S : Type 0} (st : States S) (law : Lawful st) (p : Place) where
  laws : JoinLaws (joining st)
  laws = join_laws st law

  -- g is f without what stands at p
  record Bare (f g : Cells S) : Type 0 where
    bare : g p ≡ unassigned st
    plain : (f p).option ≡ false
    elsewhere : (q : Place) → (p ≡ q → ⊥) → f q ≡ g q

  -- v is w without what stands at p
  record Without (w v : World S) : Type 0 where
    cells : Bare w.cells v.cells
    rest : v ≡ with_cells w v.cells

  options : (f g : Cells S) → Bare f g → (o : ℕ) (k : Privilege) (q : Principal) → Optioned f o k q → Optioned g o k q
  options f g x o k q h = elim (cases_place p (place o h.granter q k)) [
    | inl e ↦ absurd (both_ways _ (subst (λ z. (f z).option ≡ false) e x.plain) h.option)
    | inr n ↦ record { granter = h.granter; option = subst (λ c. c.option ≡ true) (x.elsewhere _ n) h.option }
  ]

  options_back : (f g : Cells S) → Bare f g → (o : ℕ) (k : Privilege) (q : Principal) → Optioned g o k q → Optioned f o k q
  options_back f g x o k q h = elim (cases_place p (place o h.granter q k)) [
    | inl e ↦ absurd (both_ways _ (subst (λ z. (g z).option ≡ false) e (ap (λ (c : Cell S). c.option) x.bare)) h.option)
    | inr n ↦ record { granter = h.granter; option = subst (λ c. c.option ≡ true) (sym (x.elsewhere _ n)) h.option }
  ]

  -- with the same options there are the same granters
  module _ (w : World S) (f g : Cells S) (to : (o : ℕ) (k : Privilege) (q : Principal) → Optioned f o k q → Optioned g o k q) (back : (o : ℕ) (k : Privilege) (q : Principal) → Optioned g o k q → Optioned f o k q) where
    own_right : (u o : ℕ) (k : Privilege) → InOwnRight w.masters f u o k → InOwnRight w.masters g u o k
    own_right u o k (inl e) = inl e
    own_right u o k (inr h) = inr (to o k (User u) h)

    own_right_back : (u o : ℕ) (k : Privilege) → InOwnRight w.masters g u o k → InOwnRight w.masters f u o k
    own_right_back u o k (inl e) = inl e
    own_right_back u o k (inr h) = inr (back o k (User u) h)

    gives_on : (u o : ℕ) (k : Privilege) (h : Principal) → GivesAs w.graph w.masters f u o k h → GivesAs w.graph w.masters g u o k h
    gives_on u o k h (inl x) = inl (own_right u o k x.0, x.1)
    gives_on u o k h (inr x) = inr (record {
      not_own = λ a. x.not_own (own_right_back u o k a);
      role = x.role;
      is = x.is;
      through = record { option = to o k (Role x.role) x.through.option; reaches = x.through.reaches };
      lowest = λ j l t. x.lowest j l (record { option = back o k (Role j) t.option; reaches = t.reaches });
    })

  gives : (w : World S) (g : Cells S) → Bare w.cells g → (u o : ℕ) (k : Privilege) (h : Principal) → GivesAs w.graph w.masters w.cells u o k h → GivesAs w.graph w.masters g u o k h
  gives w g x = gives_on w w.cells g (options w.cells g x) (options_back w.cells g x)

  gives_back : (w : World S) (g : Cells S) → Bare w.cells g → (u o : ℕ) (k : Privilege) (h : Principal) → GivesAs w.graph w.masters g u o k h → GivesAs w.graph w.masters w.cells u o k h
  gives_back w g x = gives_on w g w.cells (options_back w.cells g x) (options w.cells g x)

  used_back : (f g : Cells S) → Bare f g → (o : ℕ) (b t : Principal) → in_use (joining st) g o b t ≡ true → in_use (joining st) f o b t ≡ true
  used_back f g x o b t u =
      let h = use_witness st laws g o b t u in
      elim (cases_place p (place o b t (privilege_at h.0))) [
        | inl e ↦ absurd (both_ways _ (unassigned_none (joining st) laws) (subst (λ c. assigned (joining st) c.state ≡ true) (ap g (sym e) ∙ x.bare) h.2))
        | inr n ↦ use_some st laws f o b t h.0 h.1 (subst (λ c. assigned (joining st) c.state ≡ true) (sym (x.elsewhere _ n)) h.2)
      ]

  -- where there is room with the cell, there is room without it
  room_without : (f g : Cells S) → Bare f g → ((o : ℕ) → pairs (joining st) f o ≤ 16) → (q : Place) (c : Cell S) → in_range q.granter ≡ true → in_range q.grantee ≡ true → has_room (joining st) f q c ≡ true → has_room (joining st) g q c ≡ true
  room_without f g x few q c rb rt room = room_from st laws g q c (go (room_cases st laws f q c room))
    where
      go : (c.state ≡ st.unassign) ⊎ ((in_use (joining st) f q.object q.granter q.grantee ≡ true) ⊎ (pairs (joining st) f q.object < 16))
          → (c.state ≡ st.unassign) ⊎ ((in_use (joining st) g q.object q.granter q.grantee ≡ true) ⊎ (pairs (joining st) g q.object < 16))
      go (inl e) = inl e
      go (inr (inl u)) = elim (cases_Bool (in_use (joining st) g q.object q.granter q.grantee)) [
        | inl h ↦ inr (inl h)
        | inr n ↦ (
            let l = pairs_less st laws g f q.object q.granter q.grantee rb rt (used_back f g x q.object) n u in
            let m = few q.object in
            inr (inr (omega arith)))
      ]
      go (inr (inr h)) = (let m = pairs_sub st laws g f q.object (used_back f g x q.object) in inr (inr (omega arith)))

  all_kept : (w : World S) (g : Cells S) → Bare w.cells g → SoundWorld st law w → (d : Deed S) → Proper st law d → AllYes (questions st w d) → AllYes (questions st (with_cells w g) d)
  all_kept w g x s (unsaid f) pr y = y
  all_kept w g x s (make_role u r n) pr y = y
  all_kept w g x s (make_object u o m) pr y = y
  all_kept w g x s (add_link u q r) pr y = y
  all_kept w g x s (cut_link u q r) pr y = y
  all_kept w g x s (check o k q) pr y = y
  all_kept w g x s (assign z) pr y =
      let granter : HasGranter w z = y.1.1.1.1.0 in
      let room : HasRoom st w z = y.1.1.1.1.1.0 in (
        y.0,
        (
          y.1.0,
          (
            y.1.1.0,
            (
              y.1.1.1.0,
              (
                (granter.0, gives w g x z.issuer z.object z.privilege granter.0 granter.1),
                (
                  (λ h k c e.
                      let k' = gives_back w g x z.issuer z.object z.privilege h k in
                      room_without w.cells g x s.cells.room (place z.object h z.grantee z.privilege) c (granter_in_range st law w s z.issuer z.object z.privilege h k') pr.1 (room h k' c e)),
                  tt,
                ),
              ),
            ),
          ),
        ),
      )

  asked_first : World S → Assignment S → List Question
  asked_first w z =
      ask 1 (w.memory ≡ true)
      ∷ ask 10 (Made w.masters z.object × Exists w.graph z.grantee)
      ∷ ask 14 (HasState z)
      ∷ ask 15 (Defined w.masters z.object z.privilege)
      ∷ ask 16 (HasGranter w z)
      ∷ []

  agree : (w : World S) (g : Cells S) → Bare w.cells g → (z : Assignment S) → Agree (asked_first w z) (asked_first (with_cells w g) z)
  unfolding asked_first
  agree w g x z = (
    λ h. h,
    λ h. h,
    refl,
    (
      λ h. h,
      λ h. h,
      refl,
      (
        λ h. h,
        λ h. h,
        refl,
        (
          λ h. h,
          λ h. h,
          refl,
          (
            λ h. (h.0, gives w g x z.issuer z.object z.privilege h.0 h.1),
            λ h. (h.0, gives_back w g x z.issuer z.object z.privilege h.0 h.1),
            refl,
            tt,
          ),
        ),
      ),
    ),
  )

  first_kept : (w : World S) (g : Cells S) → Bare w.cells g → (d : Deed S) (k : ℕ) → (k ≡ 17 → ⊥) → FirstNo (questions st w d) k → FirstNo (questions st (with_cells w g) d) k
  unfolding asked_first
  first_kept w g x (unsaid f) k l y = y
  first_kept w g x (make_role u r n) k l y = y
  first_kept w g x (make_object u o m) k l y = y
  first_kept w g x (add_link u q r) k l y = y
  first_kept w g x (cut_link u q r) k l y = y
  first_kept w g x (assign z) k l y =
      agree_first (asked_first w z) (asked_first (with_cells w g) z) (ask 17 (HasRoom st w z)) (ask 17 (HasRoom st (with_cells w g) z)) k (agree w g x z) l y
  first_kept w g x (check o k q) n l y = y

  put_kept : (f g : Cells S) (r : Place) (c : Cell S) → ((q : Place) → (p ≡ q → ⊥) → f q ≡ g q) → (q : Place) → (p ≡ q → ⊥) → put f r c q ≡ put g r c q
  put_kept f g r c h q n = elim (cases_place r q) [
    | inl e ↦ ap (put f r c) (sym e) ∙ put_here st laws f r c ∙ sym (put_here st laws g r c) ∙ ap (put g r c) e
    | inr k ↦ put_else st laws f r c q k ∙ h q n ∙ sym (put_else st laws g r c q k)
  ]

  bare_put : (f g : Cells S) (r : Place) (c : Cell S) → (p ≡ r → ⊥) → Bare f g → Bare (put f r c) (put g r c)
  bare_put f g r c o x = record {
    bare = put_else st laws g r c p (λ e. o (sym e)) ∙ x.bare;
    plain = ap (λ (d : Cell S). d.option) (put_else st laws f r c p (λ e. o (sym e))) ∙ x.plain;
    elsewhere = put_kept f g r c x.elsewhere;
  }

  with_rest : (w v w' v' : World S) → w' ≡ w → v' ≡ v → Without w v → Without w' v'
  with_rest w v w' v' a b x = rw (a, b) x

  -- the same record, accepted in both worlds
  effects : (w : World S) (g : Cells S) → Bare w.cells g → (d : Deed S) (a b : Answer S) (w' v' : World S) → ((c : Cell S) → AssignsAt st law p d a c → ⊥) → Effect st w d a w' → Effect st (with_cells w g) d b v' → Without w' v'
  effects w g x (unsaid f) a b w' v' n y z = absurd y
  effects w g x (make_role u r m) a b w' v' n y z = with_rest _ _ w' v' y.1 z.1 (record { cells = x; rest = refl })
  effects w g x (make_object u o m) a b w' v' n y z = with_rest _ _ w' v' y.1 z.1 (record { cells = x; rest = refl })
  effects w g x (add_link u q r) a b w' v' n y z = with_rest _ _ w' v' y.1 z.1 (record { cells = x; rest = refl })
  effects w g x (cut_link u q r) a b w' v' n y z = with_rest _ _ w' v' y.1 z.1 (record { cells = x; rest = refl })
  effects w g x (check o k q) a b w' v' n y z = with_rest w (with_cells w g) w' v' y.after z.after (record { cells = x; rest = refl })
  effects w g x (assign y) a b w' v' n h k =
      let q : Place = place y.object h.granter y.grantee y.privilege in
      let e : k.granter ≡ h.granter = granter_one st law w y.issuer y.object y.privilege k.granter h.granter (gives_back w g x y.issuer y.object y.privilege k.granter k.gives) h.gives in
      let s : ◌≡◌ {A = Option (Cell S)} (Some k.cell) (Some h.cell) = sym k.states ∙ h.states in
      let c : k.cell ≡ h.cell = cc in
      let v : v' ≡ with_cells w (put g q h.cell) = k.after ∙ (λ i. with_cells w (put g (place y.object (e i) y.grantee y.privilege) (c i))) in
      with_rest _ _ w' v' h.after v (record { cells = bare_put w.cells g q h.cell apart x; rest = refl })
    where
      apart : p ≡ place y.object h.granter y.grantee y.privilege → ⊥
      apart r = n h.cell (h.told ∙ ap (λ z. Ok (DoneBy z.granter)) (sym r), (y.issuer, λ i. assign (record { issuer = y.issuer; object = (sym r i).object; grantee = (sym r i).grantee; privilege = (sym r i).privilege; cell = h.states i })))

  not_for_room : (w : World S) (d : Deed S) (a : Answer S) (v : World S) (y : Refuses st w d a v) → (a ≡ Err Room → ⊥) → number_of y.why ≡ 17 → ⊥
  not_for_room w d a v y r e = r (y.told ∙ ap Err (one_fault d y.why Room y.whole (λ f q. differ (cc)) e))

  both_do : (w : World S) (g : Cells S) → Bare w.cells g → SoundWorld st law w → (d : Deed S) → Proper st law d → (a b : Answer S) (w' v' : World S) → ((c : Cell S) → AssignsAt st law p d a c → ⊥) → (a ≡ Err Room → ⊥) → Does st w d a w' → Does st (with_cells w g) d b v' → Without w' v'
  both_do w g x s d pr a b w' v' n r (inl y) (inl z) = with_rest w (with_cells w g) w' v' y.after z.after (record { cells = x; rest = refl })
  both_do w g x s d pr a b w' v' n r (inl y) (inr z) = absurd (no_first (questions st (with_cells w g) d) _ z.yes (first_kept w g x d (number_of y.why) (not_for_room w d a w' y r) y.first))
  both_do w g x s d pr a b w' v' n r (inr y) (inl z) = absurd (no_first (questions st (with_cells w g) d) _ (all_kept w g x s d pr y.yes) z.first)
  both_do w g x s d pr a b w' v' n r (inr y) (inr z) = effects w g x d a b w' v' n y.effect z.effect

  both_step : (w v : World S) → Without w v → SoundWorld st law w → (t u : Turn S) (w' v' : World S) → ((c : Cell S) → Assigned st p t c → ⊥) → (t.answer ≡ Err Room → ⊥) → content t.entry.what ≡ content u.entry.what → Step st w t.entry t.answer w' → Step st v u.entry u.answer v' → Without w' v'
  both_step w v x s t u w' v' n r e y z = go (same_content st law t.entry.what u.entry.what e)
    where
      go : (t.entry.what ≡ u.entry.what) ⊎ BothDamaged st law t.entry.what u.entry.what → Without w' v'
      go (inl q) =
          let d : z.asked ≡ y.asked = asks_one st law u.entry.what z.asked y.asked z.asks (subst (λ k. Asks st k y.asked) q y.asks) in
          both_do w v.cells x.cells s y.asked (proper st law t.entry.what y.asked y.asks) t.answer u.answer w' v'
          (λ c h. n c (assigned_to st law p t y.asked c y.asks h)) r y.does
          (subst (λ k. Does st k y.asked u.answer v') x.rest (subst (λ k. Does st v k u.answer v') d z.does))
      go (inr q) =
          let h = damaged_step st law w t.entry q.first t.answer w' q.is_first y in
          let k = damaged_step st law v u.entry q.second u.answer v' q.is_second z in
          with_rest w v w' v' h.1 k.1 x

  both_run : (w v : World S) (ts us : List (Turn S)) (w' v' : World S) → Without w v → SoundWorld st law w → NoneSets (Assigned st p) ts → ((t : Turn S) → Memᴰ t ts → t.answer ≡ Err Room → ⊥) → Run st w ts w' → Run st v us v' → contents us ≡ contents ts → Without w' v'
  both_run w v [] [] w' v' x s n r y z e = with_rest w v w' v' y z x
  both_run w v [] (u ∷ us) w' v' x s n r y z e = differ (cc)
  both_run w v (t ∷ ts) [] w' v' x s n r y z e = differ (cc)
  both_run w v (t ∷ ts) (u ∷ us) w' v' x s n r y z e =
      let c : content u.entry.what ≡ content t.entry.what = cc in
      let cs : contents us ≡ contents ts = cc in
      let h = both_step w v x s t u y.0 z.0 (n t (Memᴰ.head refl)) (r t (Memᴰ.head refl)) (sym c) y.1 z.1 in
      both_run y.0 z.0 ts us w' v' h (step_sound st law w t y.0 s y.1) (λ k m. n k (Memᴰ.tail m)) (λ k m. r k (Memᴰ.tail m)) y.2 z.2 cs

  -- an accepted assignment at p sets the cell there
  assigns : (w : World S) (t : Turn S) (v : World S) (c : Cell S) → Step st w t.entry t.answer v → Assigned st p t c → v ≡ with_cells w (put w.cells p c)
  assigns w t v c y h = go y.does
    where
      at : AssignsAt st law p y.asked t.answer c
      at = assigned_from st law p t y.asked c y.asks h

      go : Does st w y.asked t.answer v → v ≡ with_cells w (put w.cells p c)
      go (inl x) = let a = at.0 in let b = x.told in differ (cc)
      go (inr x) =
          let f : Effect st w (assigning at.1.0 p c) t.answer v = subst (λ k. Effect st w k t.answer v) at.1.1 x.effect in
          let k = f.told in
          let o = at.0 in
          let e : f.granter ≡ p.granter = cc in
          let m = f.states in
          let q : f.cell ≡ c = cc in
          f.after ∙ (λ i. with_cells w (put w.cells (place p.object (e i) p.grantee p.privilege) (q i)))

  -- REVOKE assigns unassign
  revokes : (t : Turn S) → Revoked t p → Assigned st p t (unassigned st)
  revokes t r = record {
    told = r.told;
    issuer = r.said.frame.issuer;
    asked = subst (λ x. Asks st x (assigning r.said.frame.issuer p (unassigned st))) (sym r.said.is) (Ok (Revoke p.privilege p.object p.grantee), r.said.says, refl);
  }

  begun : (w : World S) (c : Cell S) → w.cells p ≡ unassigned st → c.option ≡ false → Without (with_cells w (put w.cells p c)) w
  begun w c e o = record {
    cells = record { bare = e; plain = ap (λ (k : Cell S). k.option) (put_here st laws w.cells p c) ∙ o; elsewhere = λ q n. put_else st laws w.cells p c q n };
    rest = refl;
  }

  ended : (w v : World S) → Without w v → with_cells w (put w.cells p (unassigned st)) ≡ v
  ended w v x = ap (with_cells w) same ∙ sym x.rest
    where
      same : put w.cells p (unassigned st) ≡ v.cells
      same = fun_ext (λ q. elim (cases_place p q) [
        | inl e ↦ ap (put w.cells p (unassigned st)) (sym e) ∙ put_here st laws w.cells p (unassigned st) ∙ sym x.cells.bare ∙ ap v.cells e
        | inr n ↦ put_else st laws w.cells p (unassigned st) q n ∙ x.cells.elsewhere q n
      ])

pub leaves_no_trace : {S : Type 0} (st : States S) (law : Lawful st) (memory : Bool) (ts : List (Turn S)) (w : World S) → Run st (new_world st memory) ts w → LeavesNoTrace st memory ts
leaves_no_trace st law memory ts w r before given between revoked after p c e h before' between' after' v r' sb sm sa =
    let new = new_world st memory in
    let r₀ = run_parts st law new before (given ∷ (between ++ (revoked ∷ after))) w (subst (λ l. Run st new l w) e r) in
    let r₁ = run_parts st law r₀.2.0 between (revoked ∷ after) w r₀.2.2 in
    let q₀ = run_parts st law new before' (between' ++ after') v r' in
    let q₁ = run_parts st law q₀.0 between' after' v q₀.2 in
    let start = run_alike st law new before' before q₀.0 r₀.0 q₀.1 r₀.1 sb in
    let first = assigns st law p r₀.0 given r₀.2.0 c r₀.2.1 h.assigned in
    let none = last_one (Assigned st p) (assigned_one st law p) (unassigned st) before (r₀.0.cells p) (unassigned st) (last_assigned st law memory before r₀.0 r₀.1 p) h.fresh in
    let x₀ = begun st law p r₀.0 c none h.no_option in
    let sound = step_sound st law r₀.0 given r₀.2.0 (run_sound st law new before r₀.0 (new_sound st law memory) r₀.1) r₀.2.1 in
    let x₁ : Without st law p r₀.2.0 q₀.0 = rw (first, start.1) x₀ in
    let x₂ = both_run st law p r₀.2.0 q₀.0 between between' r₁.0 q₁.0 x₁ sound h.alone h.roomy r₁.1 q₁.1 sm in
    let last = assigns st law p r₁.0 revoked r₁.2.0 (unassigned st) r₁.2.1 (revokes st law p revoked h.withdrawn) in
    let met : r₁.2.0 ≡ q₁.0 = last ∙ ended st law p r₁.0 q₁.0 x₂ in
    (run_alike st law q₁.0 after' after v w q₁.2 (subst (λ k. Run st k after w) met r₁.2.2) sa).0
