-- Cells, levels, masters and links are what the records set last.
use Rattle.std.proofs.Common.{◌≡◌, ℕ, Bool, ◌⊎◌, List, [], ◌∷◌, ◌++◌, Some, None, Ok, Err, Option, sym, refl, ap, ◌∙◌, subst, inl, inr}
use mathlib.Core.List.Memᴰ
use mathlib.Core.List.{Memᴰ}
use Rattle.std.proofs.lemmas.Bool.{cond-true, cond-false}
use Rattle.model.specs.States.{States, Lawful}
use Rattle.model.specs.Places.{place, same_place}
use Rattle.model.specs.declared.cell.Cell.{Cell}
use Rattle.model.specs.declared.place.Place.{Place}
use Rattle.model.proofs.Numbering.{cases_place, true_same, differ_place}
use Rattle.standing.specs.declared.report.Report.TheVariants.{Done, DoneBy, State}
use Rattle.history.specs.World.{World, new_world}
use Rattle.history.specs.Deeds.{Deed, unsaid, make_role, make_object, add_link, cut_link, assign, check, Asks, assigning}
use Rattle.history.specs.Steps.{Answer, Does, Step, Turn, Run}
use Rattle.history.specs.Lasting.{NoneSets, SetLast, LastSet, Assigned, LastAssigned}
use Rattle.history.proofs.Runs.{differ, asks_one}

module _ {S V : Type 0} (sets : Turn S → V → Type 0) where
  none_in : NoneSets sets []
  none_in t m x s = Memᴰ.not-nil m

  one_more : (t : Turn S) (ts : List (Turn S)) → ((x : V) → sets t x → ⊥) → NoneSets sets ts → NoneSets sets (t ∷ ts)
  one_more t ts n none r m x s =
      elim (Memᴰ.cases_cons m) [ inl q ↦ n x (subst (λ k. sets k x) q s) | inr k ↦ none r k x s ]

  -- a record of a list sets it, so it is not so that none does
  set_some : (ts : List (Turn S)) (x : V) → SetLast sets ts x → NoneSets sets ts → ⊥
  set_some ts x h none =
      none h.turn (subst (λ l. Memᴰ h.turn l) (sym h.is) (Memᴰ.append_right h.before (Memᴰ.head refl))) x h.sets_it

  first_or_later : (t : Turn S) (ts : List (Turn S)) (x : V) → SetLast sets (t ∷ ts) x → (sets t x × NoneSets sets ts) ⊎ SetLast sets ts x
  first_or_later t ts x h = go h.before h.is
    where
      go : (before : List (Turn S)) → (t ∷ ts) ≡ before ++ (h.turn ∷ h.later) → (sets t x × NoneSets sets ts) ⊎ SetLast sets ts x
      go [] q =
          let a : h.turn ≡ t = cc in
          let b : h.later ≡ ts = cc in
          inl (subst (λ k. sets k x) a h.sets_it, subst (λ l. NoneSets sets l) b h.none_later)
      go (y ∷ ys) q =
          let b : ts ≡ ys ++ (h.turn ∷ h.later) = cc in
          inr (record { before = ys; turn = h.turn; later = h.later; is = b; sets_it = h.sets_it; none_later = h.none_later })

  module _ (one : (t : Turn S) (x y : V) → sets t x → sets t y → x ≡ y) where
    set_one : (ts : List (Turn S)) (x y : V) → SetLast sets ts x → SetLast sets ts y → x ≡ y
    set_one [] x y h k = go h.before h.is
      where
        go : (before : List (Turn S)) → [] ≡ before ++ (h.turn ∷ h.later) → x ≡ y
        go [] q = differ (cc)
        go (z ∷ zs) q = differ (cc)
    set_one (t ∷ ts) x y h k = go (first_or_later t ts x h) (first_or_later t ts y k) (set_one ts x y)
      where
        go : (sets t x × NoneSets sets ts) ⊎ SetLast sets ts x → (sets t y × NoneSets sets ts) ⊎ SetLast sets ts y → (SetLast sets ts x → SetLast sets ts y → x ≡ y) → x ≡ y
        go (inl a) (inl b) h = one t x y a.0 b.0
        go (inl a) (inr b) h = absurd (set_some ts y b a.1)
        go (inr a) (inl b) h = absurd (set_some ts x a b.1)
        go (inr a) (inr b) h = h a b

    -- it was last set to one value
    pub last_one : (start : V) (ts : List (Turn S)) (x y : V) → LastSet sets start ts x → LastSet sets start ts y → x ≡ y
    last_one start ts x y (inl a) (inl b) = a.1 ∙ sym b.1
    last_one start ts x y (inl a) (inr b) = absurd (set_some ts y b a.0)
    last_one start ts x y (inr a) (inl b) = absurd (set_some ts x a b.0)
    last_one start ts x y (inr a) (inr b) = set_one ts x y a b

module _ {S : Type 0} (st : States S) (law : Lawful st) where
  -- what a run leaves, from what each of its steps sets or keeps
  module _ {V : Type 0} (sets : Turn S → V → Type 0) (held : World S → V)
      (step : (w : World S) (t : Turn S) (v : World S) → Step st w t.entry t.answer v → sets t (held v) ⊎ (((x : V) → sets t x → ⊥) × (held v ≡ held w))) where
    pub since : (w : World S) (ts : List (Turn S)) (v : World S) → Run st w ts v → LastSet sets (held w) ts (held v)
    since w [] v r = inl (none_in sets, ap held r)
    since w (t ∷ ts) v r = go (since r.0 ts v r.2) (step w t r.0 r.1)
      where
        go : LastSet sets (held r.0) ts (held v) → sets t (held r.0) ⊎ (((x : V) → sets t x → ⊥) × (held r.0 ≡ held w)) → LastSet sets (held w) (t ∷ ts) (held v)
        go (inr h) s =
            inr (record { before = t ∷ h.before; turn = h.turn; later = h.later; is = ap (λ l. t ∷ l) h.is; sets_it = h.sets_it; none_later = h.none_later })
        go (inl h) (inl s) = inr (record { before = []; turn = t; later = ts; is = refl; sets_it = subst (sets t) (sym h.1) s; none_later = h.0 })
        go (inl h) (inr s) = inl (one_more sets t ts s.0 h.0, h.1 ∙ s.1)

  -- where what a record sets is told by what it asks and is answered
  module _ {V : Type 0} (sets : Turn S → V → Type 0) (by : Deed S → Answer S → V → Type 0) (held : World S → V)
      (to : (t : Turn S) (d : Deed S) (x : V) → Asks st t.entry.what d → by d t.answer x → sets t x)
      (from : (t : Turn S) (d : Deed S) (x : V) → Asks st t.entry.what d → sets t x → by d t.answer x)
      (does : (w : World S) (d : Deed S) (a : Answer S) (v : World S) → Does st w d a v → by d a (held v) ⊎ (((x : V) → by d a x → ⊥) × (held v ≡ held w))) where
    step_sets : (w : World S) (t : Turn S) (v : World S) → Step st w t.entry t.answer v → sets t (held v) ⊎ (((x : V) → sets t x → ⊥) × (held v ≡ held w))
    step_sets w t v s = elim (does w s.asked t.answer v s.does) [
      | inl b ↦ inl (to t s.asked (held v) s.asks b)
      | inr n ↦ inr (λ x k. n.0 x (from t s.asked x s.asks k), n.1)
    ]

    pub run_sets : (w : World S) (ts : List (Turn S)) (v : World S) → Run st w ts v → LastSet sets (held w) ts (held v)
    run_sets = since sets held step_sets

  -- an assignment at a place
  abbrev pub AssignsAt : Place → Deed S → Answer S → Cell S → Type 0
  AssignsAt p d a c = (a ≡ Ok (DoneBy p.granter)) × ((u : ℕ) × (d ≡ assigning u p c))

  pub assigned_to : (p : Place) (t : Turn S) (d : Deed S) (c : Cell S) → Asks st t.entry.what d → AssignsAt p d t.answer c → Assigned st p t c
  assigned_to p t d c a b = record { told = b.0; issuer = b.1.0; asked = subst (λ k. Asks st t.entry.what k) b.1.1 a }

  pub assigned_from : (p : Place) (t : Turn S) (d : Deed S) (c : Cell S) → Asks st t.entry.what d → Assigned st p t c → AssignsAt p d t.answer c
  assigned_from p t d c a b = (b.told, (b.issuer, asks_one st law t.entry.what d (assigning b.issuer p c) a b.asked))

  pub assigned_one : (p : Place) (t : Turn S) (c e : Cell S) → Assigned st p t c → Assigned st p t e → c ≡ e
  assigned_one p t c e x y =
      let m : assigning x.issuer p c ≡ assigning y.issuer p e = asks_one st law t.entry.what _ _ x.asked y.asked in
      let k : ◌≡◌ {A = Option (Cell S)} (Some c) (Some e) = cell_of m in
      cc
    where
      cell_of : assigning x.issuer p c ≡ assigning y.issuer p e → ◌≡◌ {A = Option (Cell S)} (Some c) (Some e)
      cell_of m = ap cell_in m
        where
          cell_in : Deed S → Option (Cell S)
          cell_in (unsaid f) = None
          cell_in (make_role u r n) = None
          cell_in (make_object u o m) = None
          cell_in (add_link u q r) = None
          cell_in (cut_link u q r) = None
          cell_in (assign z) = z.cell
          cell_in (check o k q) = None

  refused_none : (p : Place) (d : Deed S) (a : Answer S) (f : _) → a ≡ Err f → (c : Cell S) → AssignsAt p d a c → ⊥
  refused_none p d a f e c s = let h = s.0 in differ (cc)

  done_none : (p : Place) (d : Deed S) (a : Answer S) → a ≡ Ok Done → (c : Cell S) → AssignsAt p d a c → ⊥
  done_none p d a e c s = let h = s.0 in differ (cc)

  state_none : (p : Place) (d : Deed S) (a : Answer S) (s : S) → a ≡ Ok (State s) → (c : Cell S) → AssignsAt p d a c → ⊥
  state_none p d a x e c s = let h = s.0 in differ (cc)

  at_place : (p : Place) (w : World S) (d : Deed S) (a : Answer S) (v : World S) → Does st w d a v → AssignsAt p d a (v.cells p) ⊎ (((c : Cell S) → AssignsAt p d a c → ⊥) × (v.cells p ≡ w.cells p))
  at_place p w d a v (inl x) = inr (refused_none p d a x.why x.told, ap (λ u. u.cells p) x.after)
  at_place p w (unsaid f) a v (inr x) = absurd x.effect
  at_place p w (make_role i r n) a v (inr x) = inr (done_none p (make_role i r n) a x.effect.0, ap (λ u. u.cells p) x.effect.1)
  at_place p w (make_object i o m) a v (inr x) = inr (done_none p (make_object i o m) a x.effect.0, ap (λ u. u.cells p) x.effect.1)
  at_place p w (add_link i q r) a v (inr x) = inr (done_none p (add_link i q r) a x.effect.0, ap (λ u. u.cells p) x.effect.1)
  at_place p w (cut_link i q r) a v (inr x) = inr (done_none p (cut_link i q r) a x.effect.0, ap (λ u. u.cells p) x.effect.1)
  at_place p w (check o k q) a v (inr x) = inr (state_none p (check o k q) a x.effect.state x.effect.told, ap (λ u. u.cells p) x.effect.after)
  at_place p w (assign x) a v (inr y) = elim (cases_place q p) [
    | inl e ↦ inl (hit e)
    | inr n ↦ inr (miss n, ap (λ u. u.cells p) y.effect.after ∙ cond-false (same_place q p) y.effect.cell (w.cells p) (differ_place q p n))
  ]
    where
      q : Place
      q = place x.object y.effect.granter x.grantee x.privilege

      hit : q ≡ p → AssignsAt p (assign x) a (v.cells p)
      hit e =
          let h : v.cells p ≡ y.effect.cell = ap (λ u. u.cells p) y.effect.after ∙ cond-true (same_place q p) y.effect.cell (w.cells p) (true_same q p e) in
          let c : x.cell ≡ Some (v.cells p) = y.effect.states ∙ ap Some (sym h) in
          (y.effect.told ∙ ap (λ r. Ok (DoneBy r.granter)) e, (x.issuer, λ i. assign (record { issuer = x.issuer; object = (e i).object; grantee = (e i).grantee; privilege = (e i).privilege; cell = c i })))

      miss : (q ≡ p → ⊥) → (c : Cell S) → AssignsAt p (assign x) a c → ⊥
      miss n c s =
          let j = y.effect.told in
          let h = s.0 in
          let b : y.effect.granter ≡ p.granter = cc in
          let r = s.1.1 in
          let o : x.object ≡ p.object = cc in
          let t : x.grantee ≡ p.grantee = cc in
          let k : x.privilege ≡ p.privilege = cc in
          n (λ i. record { object = o i; granter = b i; grantee = t i; privilege = k i })

  pub last_assigned : (memory : Bool) (ts : List (Turn S)) (w : World S) → Run st (new_world st memory) ts w → LastAssigned st ts w
  last_assigned memory ts w r p =
      run_sets (Assigned st p) (AssignsAt p) (λ u. u.cells p) (assigned_to p) (assigned_from p) (at_place p) (new_world st memory) ts w r
