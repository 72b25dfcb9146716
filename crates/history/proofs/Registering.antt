-- Levels, masters and links are those of the accepted ROLE, OBJECT, LINK and CUT records.
use Rattle.std.proofs.Common.{◌≡◌, ℕ, Bool, true, false, not, ◌&&◌, ◌||◌, eqb, ◌⊎◌, List, Some, Ok, Option, refl, ap, ◌∙◌, subst, inl, inr, eq-eqb, ne_eqb, eqb-true}
use Rattle.std.proofs.lemmas.Bool.{cases_eq, cases_Bool, cond-true, cond-false, and_parts, and_from, both_ways}
use Rattle.model.specs.States.{States, Lawful}
use Rattle.model.specs.Graphs.{same_link}
use Rattle.model.specs.declared.principal.Principal.{Principal}
use Rattle.model.proofs.Numbering.{principal_same, same_principals}
use Rattle.access.specs.declared.master.Master.{Master}
use Rattle.standing.specs.declared.report.Report.TheVariants.{Done}
use Rattle.history.specs.World.{World, new_world}
use Rattle.history.specs.Deeds.{Deed, unsaid, make_role, make_object, add_link, cut_link, assign, check, Asks}
use Rattle.history.specs.Steps.{Answer, Effect, Does, Turn, Run}
use Rattle.history.specs.Lasting.{Performed, GivesLevel, GivesMaster, SetsLink, Registered}
use Rattle.history.proofs.Runs.{differ, asks_one}
use Rattle.history.proofs.LastSets.{run_sets}

same_link_true : (p q : Principal) (k r : ℕ) → p ≡ q → k ≡ r → same_link p k q r ≡ true
same_link_true p q k r e f = and_from _ _ (same_principals p q e) (eq-eqb k r f)

module _ {S : Type 0} (st : States S) (law : Lawful st) where
  -- what a deed sets, if it is accepted and reports no granter
  abbrev DoneSets : {V : Type 0} → (Deed S → V → Type 0) → Deed S → Answer S → V → Type 0
  DoneSets change d a x = (a ≡ Ok Done) × change d x

  done_sets : {V : Type 0} (change : Deed S → V → Type 0) (held : World S → V)
      → ((w : World S) (d : Deed S) (a : Answer S) (v : World S) → Effect st w d a v → DoneSets change d a (held v) ⊎ (((x : V) → change d x → ⊥) × (held v ≡ held w)))
      → (w : World S) (d : Deed S) (a : Answer S) (v : World S) → Does st w d a v → DoneSets change d a (held v) ⊎ (((x : V) → DoneSets change d a x → ⊥) × (held v ≡ held w))
  done_sets change held effects w d a v (inl x) = inr (λ y h. (let e = h.0 in let f = x.told in differ (cc)), ap held x.after)
  done_sets change held effects w d a v (inr x) = elim (effects w d a v x.effect) [
    | inl h ↦ inl h
    | inr n ↦ inr (λ y h. n.0 y h.1, n.1)
  ]

  performed : (t : Turn S) (kind : ℕ → Deed S) (d : Deed S) (u : ℕ) → t.answer ≡ Ok Done → d ≡ kind u → Asks st t.entry.what d → Performed st t kind
  performed t kind d u e f a = record { told = e; issuer = u; asked = subst (λ k. Asks st t.entry.what k) f a }

  -- the level of a role
  abbrev SetsLevel : ℕ → Deed S → Option ℕ → Type 0
  SetsLevel r (unsaid f) x = ⊥
  SetsLevel r (make_role u k n) x = (k ≡ r) × (x ≡ Some n)
  SetsLevel r (make_object u o m) x = ⊥
  SetsLevel r (add_link u q k) x = ⊥
  SetsLevel r (cut_link u q k) x = ⊥
  SetsLevel r (assign y) x = ⊥
  SetsLevel r (check o p q) x = ⊥

  level_to : (r : ℕ) (t : Turn S) (d : Deed S) (x : Option ℕ) → Asks st t.entry.what d → DoneSets (SetsLevel r) d t.answer x → GivesLevel st r t x
  level_to r t (unsaid f) x a h = absurd h.1
  level_to r t (make_role u k n) x a h = (n, h.1.1, performed t (λ i. make_role i r n) (make_role u k n) u h.0 (ap (λ j. make_role u j n) h.1.0) a)
  level_to r t (make_object u o m) x a h = absurd h.1
  level_to r t (add_link u q k) x a h = absurd h.1
  level_to r t (cut_link u q k) x a h = absurd h.1
  level_to r t (assign y) x a h = absurd h.1
  level_to r t (check o p q) x a h = absurd h.1

  level_from : (r : ℕ) (t : Turn S) (d : Deed S) (x : Option ℕ) → Asks st t.entry.what d → GivesLevel st r t x → DoneSets (SetsLevel r) d t.answer x
  level_from r t d x a g =
      (g.2.told, subst (λ k. SetsLevel r k x) (asks_one st law t.entry.what _ d g.2.asked a) (refl, g.1))

  level_effects : (r : ℕ) (w : World S) (d : Deed S) (a : Answer S) (v : World S) → Effect st w d a v → DoneSets (SetsLevel r) d a (v.graph.level r) ⊎ (((x : Option ℕ) → SetsLevel r d x → ⊥) × (v.graph.level r ≡ w.graph.level r))
  level_effects r w (unsaid f) a v x = absurd x
  level_effects r w (make_role u k n) a v x =
      let after = ap (λ z. z.graph.level r) x.1 in
      elim (cases_eq k r) [
        | inl e ↦ inl (x.0, (e, after ∙ cond-true (eqb k r) (Some n) (w.graph.level r) (eq-eqb k r e)))
        | inr ne ↦ inr (λ y h. ne h.0, after ∙ cond-false (eqb k r) (Some n) (w.graph.level r) (ne_eqb k r ne))
      ]
  level_effects r w (make_object u o m) a v x = inr (λ y h. h, ap (λ z. z.graph.level r) x.1)
  level_effects r w (add_link u q k) a v x = inr (λ y h. h, ap (λ z. z.graph.level r) x.1)
  level_effects r w (cut_link u q k) a v x = inr (λ y h. h, ap (λ z. z.graph.level r) x.1)
  level_effects r w (assign y) a v x = inr (λ y h. h, ap (λ z. z.graph.level r) x.after)
  level_effects r w (check o p q) a v x = inr (λ y h. h, ap (λ z. z.graph.level r) x.after)

  -- the type and the owner of an object
  abbrev SetsMaster : ℕ → Deed S → Option Master → Type 0
  SetsMaster o (unsaid f) x = ⊥
  SetsMaster o (make_role u k n) x = ⊥
  SetsMaster o (make_object u k m) x = (k ≡ o) × (x ≡ Some m)
  SetsMaster o (add_link u q k) x = ⊥
  SetsMaster o (cut_link u q k) x = ⊥
  SetsMaster o (assign y) x = ⊥
  SetsMaster o (check k p q) x = ⊥

  master_to : (o : ℕ) (t : Turn S) (d : Deed S) (x : Option Master) → Asks st t.entry.what d → DoneSets (SetsMaster o) d t.answer x → GivesMaster st o t x
  master_to o t (unsaid f) x a h = absurd h.1
  master_to o t (make_role u k n) x a h = absurd h.1
  master_to o t (make_object u k m) x a h = (m, h.1.1, performed t (λ i. make_object i o m) (make_object u k m) u h.0 (ap (λ j. make_object u j m) h.1.0) a)
  master_to o t (add_link u q k) x a h = absurd h.1
  master_to o t (cut_link u q k) x a h = absurd h.1
  master_to o t (assign y) x a h = absurd h.1
  master_to o t (check k p q) x a h = absurd h.1

  master_from : (o : ℕ) (t : Turn S) (d : Deed S) (x : Option Master) → Asks st t.entry.what d → GivesMaster st o t x → DoneSets (SetsMaster o) d t.answer x
  master_from o t d x a g =
      (g.2.told, subst (λ k. SetsMaster o k x) (asks_one st law t.entry.what _ d g.2.asked a) (refl, g.1))

  master_effects : (o : ℕ) (w : World S) (d : Deed S) (a : Answer S) (v : World S) → Effect st w d a v → DoneSets (SetsMaster o) d a (v.masters o) ⊎ (((x : Option Master) → SetsMaster o d x → ⊥) × (v.masters o ≡ w.masters o))
  master_effects o w (unsaid f) a v x = absurd x
  master_effects o w (make_role u k n) a v x = inr (λ y h. h, ap (λ z. z.masters o) x.1)
  master_effects o w (make_object u k m) a v x =
      let after = ap (λ z. z.masters o) x.1 in
      elim (cases_eq k o) [
        | inl e ↦ inl (x.0, (e, after ∙ cond-true (eqb k o) (Some m) (w.masters o) (eq-eqb k o e)))
        | inr ne ↦ inr (λ y h. ne h.0, after ∙ cond-false (eqb k o) (Some m) (w.masters o) (ne_eqb k o ne))
      ]
  master_effects o w (add_link u q k) a v x = inr (λ y h. h, ap (λ z. z.masters o) x.1)
  master_effects o w (cut_link u q k) a v x = inr (λ y h. h, ap (λ z. z.masters o) x.1)
  master_effects o w (assign y) a v x = inr (λ y h. h, ap (λ z. z.masters o) x.after)
  master_effects o w (check k p q) a v x = inr (λ y h. h, ap (λ z. z.masters o) x.after)

  -- a link
  abbrev ChangesLink : Principal → ℕ → Deed S → Bool → Type 0
  ChangesLink q r (unsaid f) x = ⊥
  ChangesLink q r (make_role u k n) x = ⊥
  ChangesLink q r (make_object u o m) x = ⊥
  ChangesLink q r (add_link u p k) x = (p ≡ q) × (k ≡ r) × (x ≡ true)
  ChangesLink q r (cut_link u p k) x = (p ≡ q) × (k ≡ r) × (x ≡ false)
  ChangesLink q r (assign y) x = ⊥
  ChangesLink q r (check o p k) x = ⊥

  link_to : (q : Principal) (r : ℕ) (t : Turn S) (d : Deed S) (x : Bool) → Asks st t.entry.what d → DoneSets (ChangesLink q r) d t.answer x → SetsLink st q r t x
  link_to q r t (unsaid f) x a h = absurd h.1
  link_to q r t (make_role u k n) x a h = absurd h.1
  link_to q r t (make_object u o m) x a h = absurd h.1
  link_to q r t (add_link u p k) x a h = inl (h.1.2, performed t (λ i. add_link i q r) (add_link u p k) u h.0 (λ i. add_link u (h.1.0 i) (h.1.1 i)) a)
  link_to q r t (cut_link u p k) x a h = inr (h.1.2, performed t (λ i. cut_link i q r) (cut_link u p k) u h.0 (λ i. cut_link u (h.1.0 i) (h.1.1 i)) a)
  link_to q r t (assign y) x a h = absurd h.1
  link_to q r t (check o p k) x a h = absurd h.1

  link_from : (q : Principal) (r : ℕ) (t : Turn S) (d : Deed S) (x : Bool) → Asks st t.entry.what d → SetsLink st q r t x → DoneSets (ChangesLink q r) d t.answer x
  link_from q r t d x a (inl g) = (g.1.told, subst (λ k. ChangesLink q r k x) (asks_one st law t.entry.what _ d g.1.asked a) (refl, refl, g.0))
  link_from q r t d x a (inr g) = (g.1.told, subst (λ k. ChangesLink q r k x) (asks_one st law t.entry.what _ d g.1.asked a) (refl, refl, g.0))

  other_link : (p q : Principal) (k r : ℕ) → same_link p k q r ≡ false → p ≡ q → k ≡ r → ⊥
  other_link p q k r n e f = both_ways _ n (same_link_true p q k r e f)

  link_effects : (q : Principal) (r : ℕ) (w : World S) (d : Deed S) (a : Answer S) (v : World S) → Effect st w d a v → DoneSets (ChangesLink q r) d a (v.graph.linked q r) ⊎ (((x : Bool) → ChangesLink q r d x → ⊥) × (v.graph.linked q r ≡ w.graph.linked q r))
  link_effects q r w (unsaid f) a v x = absurd x
  link_effects q r w (make_role u k n) a v x = inr (λ y h. h, ap (λ z. z.graph.linked q r) x.1)
  link_effects q r w (make_object u o m) a v x = inr (λ y h. h, ap (λ z. z.graph.linked q r) x.1)
  link_effects q r w (add_link u p k) a v x =
      let after = ap (λ z. z.graph.linked q r) x.1 in
      elim (cases_Bool (same_link p k q r)) [
        | inl e ↦ (let b = and_parts _ _ e in inl (x.0, (principal_same p q b.0, eqb-true k r b.1, after ∙ ap (λ z. z || w.graph.linked q r) e)))
        | inr n ↦ inr (λ y h. other_link p q k r n h.0 h.1, after ∙ ap (λ z. z || w.graph.linked q r) n)
      ]
  link_effects q r w (cut_link u p k) a v x =
      let after = ap (λ z. z.graph.linked q r) x.1 in
      elim (cases_Bool (same_link p k q r)) [
        | inl e ↦ (let b = and_parts _ _ e in inl (x.0, (principal_same p q b.0, eqb-true k r b.1, after ∙ ap (λ z. not z && w.graph.linked q r) e)))
        | inr n ↦ inr (λ y h. other_link p q k r n h.0 h.1, after ∙ ap (λ z. not z && w.graph.linked q r) n)
      ]
  link_effects q r w (assign y) a v x = inr (λ y h. h, ap (λ z. z.graph.linked q r) x.after)
  link_effects q r w (check o p k) a v x = inr (λ y h. h, ap (λ z. z.graph.linked q r) x.after)

  pub registered : (memory : Bool) (ts : List (Turn S)) (w : World S) → Run st (new_world st memory) ts w → Registered st ts w
  registered memory ts w run = record {
    levels = λ r.
        run_sets st law (GivesLevel st r) (DoneSets (SetsLevel r)) (λ z. z.graph.level r) (level_to r) (level_from r)
        (done_sets (SetsLevel r) (λ z. z.graph.level r) (level_effects r)) (new_world st memory) ts w run;
    masters = λ o.
        run_sets st law (GivesMaster st o) (DoneSets (SetsMaster o)) (λ z. z.masters o) (master_to o) (master_from o)
        (done_sets (SetsMaster o) (λ z. z.masters o) (master_effects o)) (new_world st memory) ts w run;
    links = λ q r.
        run_sets st law (SetsLink st q r) (DoneSets (ChangesLink q r)) (λ z. z.graph.linked q r) (link_to q r) (link_from q r)
        (done_sets (ChangesLink q r) (λ z. z.graph.linked q r) (link_effects q r)) (new_world st memory) ts w run;
  }
