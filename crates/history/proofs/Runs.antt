-- Steps and runs: each record has one answer, and one world after it.
use Rattle.std.proofs.Common.{◌≡◌, ℕ, true, ◌⊎◌, List, [], ◌∷◌, ◌++◌, Some, Ok, Err, Option, Result, sym, refl, ap, ◌∙◌, subst, inl, inr, arith}
use Rattle.model.specs.States.{States, Lawful}
use Rattle.model.specs.Places.{place}
use Rattle.model.specs.Stores.{put}
use Rattle.model.specs.declared.principal.Principal.{Principal}
use Rattle.model.specs.declared.privilege.Privilege.{Privilege}
use Rattle.model.specs.declared.cell.Cell.{Cell}
use Rattle.access.specs.Reaching.{Reaching}
use Rattle.access.specs.Giving.{GivesAs}
use Rattle.access.proofs.StrongestOf.{strongest_only}
use Rattle.access.proofs.OneGranter.{one_granter}
use Rattle.reading.specs.Questions.{FirstNo}
use Rattle.reading.specs.Records.{Frame}
use Rattle.reading.specs.Cut.{Entry}
use Rattle.reading.specs.declared.fault.ReadingFault.{ReadingFault}
use Rattle.reading.proofs.Asking.{one_first, no_first}
use Rattle.wording.specs.declared.fault.WordingFault.TheVariants.{Reading}
use Rattle.wording.proofs.Laws.{parsed}
use Rattle.standing.specs.Faults.{number_of}
use Rattle.standing.specs.declared.fault.StandingFault.{StandingFault}
use Rattle.standing.specs.declared.fault.StandingFault.TheVariants.{Wording, Memory}
use Rattle.standing.specs.declared.report.Report.TheVariants.{DoneBy, State}
use Rattle.history.specs.World.{World, with_cells}
use Rattle.history.specs.Deeds.{Deed, unsaid, make_role, make_object, add_link, cut_link, assign, check, deed_or_fault, Asks}
use Rattle.history.specs.Asking.{questions}
use Rattle.history.specs.Steps.{Answer, Effect, Does, Step, Turn, Run}
use Rattle.history.specs.Withdrawing.{unplaced, content, but_offset, contents, answers_but_offsets}
use Rattle.history.specs.Laws.{entries, OneRun, Unchanged}
use Rattle.history.proofs.Faults.{one_fault}

-- two constructors are never equal
pub differ : {P : Type 0} → ◌≡◌ {A = ℕ} 0 1 → P
differ e = absurd (omega arith)

module _ {S : Type 0} (st : States S) (law : Lawful st) where
  -- a record asks for one thing
  pub asks_one : (x : Result Frame ReadingFault) (d e : Deed S) → Asks st x d → Asks st x e → d ≡ e
  asks_one (Err k) d e a b = a ∙ sym b
  asks_one (Ok f) d e a b =
      a.2 ∙ ap (deed_or_fault st f.issuer) ((parsed f.body b.0 b.1).only a.0 a.1) ∙ sym b.2

  module _ (w : World S) where
    -- a user gives as one principal only
    pub granter_one : (u o : ℕ) (p : Privilege) (g h : Principal) → GivesAs w.graph w.masters w.cells u o p g → GivesAs w.graph w.masters w.cells u o p h → g ≡ h
    granter_one u o p g h x y =
        let e : ◌≡◌ {A = Option Principal} (Some g) (Some h) = one_granter w.graph w.masters w.cells u o p (Some g) (Some h) x y in
        cc

    effect_one : (d : Deed S) (a b : Answer S) (u v : World S) → Effect st w d a u → Effect st w d b v → (a ≡ b) × (u ≡ v)
    effect_one (unsaid f) a b u v x y = absurd x
    effect_one (make_role i r n) a b u v x y = (x.0 ∙ sym y.0, x.1 ∙ sym y.1)
    effect_one (make_object i o m) a b u v x y = (x.0 ∙ sym y.0, x.1 ∙ sym y.1)
    effect_one (add_link i q r) a b u v x y = (x.0 ∙ sym y.0, x.1 ∙ sym y.1)
    effect_one (cut_link i q r) a b u v x y = (x.0 ∙ sym y.0, x.1 ∙ sym y.1)
    effect_one (assign k) a b u v x y =
        let e : x.granter ≡ y.granter = granter_one k.issuer k.object k.privilege x.granter y.granter x.gives y.gives in
        let c : ◌≡◌ {A = Option (Cell S)} (Some x.cell) (Some y.cell) = sym x.states ∙ y.states in
        let s : x.cell ≡ y.cell = cc in (
          x.told ∙ ap (λ g. Ok (DoneBy g)) e ∙ sym y.told,
          x.after ∙ (λ i. with_cells w (put w.cells (place k.object (e i) k.grantee k.privilege) (s i))) ∙ sym y.after,
        )
    effect_one (check o p q) a b u v x y = (
      x.told ∙ ap (λ s. Ok (State s)) (strongest_only st law (Reaching st w.graph w.masters w.cells o p q) x.state y.state x.is_answer y.is_answer) ∙ sym y.told,
      x.after ∙ sym y.after,
    )

    pub does_one : (d : Deed S) (a b : Answer S) (u v : World S) → Does st w d a u → Does st w d b v → (a ≡ b) × (u ≡ v)
    does_one d a b u v (inl x) (inl y) =
        (x.told ∙ ap Err (one_fault d x.why y.why x.whole y.whole (one_first (questions st w d) _ _ x.first y.first)) ∙ sym y.told, x.after ∙ sym y.after)
    does_one d a b u v (inl x) (inr y) = absurd (no_first (questions st w d) _ y.yes x.first)
    does_one d a b u v (inr x) (inl y) = absurd (no_first (questions st w d) _ x.yes y.first)
    does_one d a b u v (inr x) (inr y) = effect_one d a b u v x.effect y.effect

    -- a record has one answer, and one world after it
    pub step_one : (e : Entry) (a b : Answer S) (u v : World S) → Step st w e a u → Step st w e b v → (a ≡ b) × (u ≡ v)
    step_one e a b u v x y =
        does_one y.asked a b u v (subst (λ d. Does st w d a u) (asks_one e.what x.asked y.asked x.asks y.asks) x.does) y.does

  pub one_run : OneRun st
  one_run w [] [] u v r s e = (refl, r ∙ sym s)
  one_run w [] (y ∷ ys) u v r s e = differ (cc)
  one_run w (x ∷ xs) [] u v r s e = differ (cc)
  one_run w (x ∷ xs) (y ∷ ys) u v r s e =
      let c : x.entry ≡ y.entry = cc in
      let cs : entries xs ≡ entries ys = cc in
      let one = step_one w y.entry x.answer y.answer r.0 s.0 (subst (λ k. Step st w k x.answer r.0) c r.1) s.1 in
      let h = one_run s.0 xs ys u v (subst (λ z. Run st z xs u) one.1 r.2) s.2 cs in
      let f : x ≡ y = λ i. record { entry = c i; answer = one.0 i } in
      (λ i. f i ∷ h.0 i, h.1)

  -- a run of two lists is two runs
  pub run_parts : (w : World S) (xs ys : List (Turn S)) (v : World S) → Run st w (xs ++ ys) v → (u : World S) × Run st w xs u × Run st u ys v
  run_parts w [] ys v r = (w, refl, r)
  run_parts w (x ∷ xs) ys v r =
      let h = run_parts r.0 xs ys v r.2 in
      (h.0, (r.0, r.1, h.1), h.2)

  pub run_joined : (w : World S) (xs ys : List (Turn S)) (u v : World S) → Run st w xs u → Run st u ys v → Run st w (xs ++ ys) v
  run_joined w [] ys u v r s = subst (λ k. Run st k ys v) r s
  run_joined w (x ∷ xs) ys u v r s = (r.0, r.1, run_joined r.0 xs ys u v r.2 s)

  refusal_changes_nothing : (w v : World S) (d : Deed S) (f : StandingFault) → Does st w d (Err f) v → v ≡ w
  refusal_changes_nothing w v d f (inl x) = x.after
  refusal_changes_nothing w v (unsaid k) f (inr x) = absurd x.effect
  refusal_changes_nothing w v (make_role i r n) f (inr x) = let h = x.effect.0 in differ (cc)
  refusal_changes_nothing w v (make_object i o m) f (inr x) = let h = x.effect.0 in differ (cc)
  refusal_changes_nothing w v (add_link i q r) f (inr x) = let h = x.effect.0 in differ (cc)
  refusal_changes_nothing w v (cut_link i q r) f (inr x) = let h = x.effect.0 in differ (cc)
  refusal_changes_nothing w v (assign k) f (inr x) = let h = x.effect.told in differ (cc)
  refusal_changes_nothing w v (check o p q) f (inr x) = x.effect.after

  check_changes_nothing : (w v : World S) (d : Deed S) (s : S) → Does st w d (Ok (State s)) v → v ≡ w
  check_changes_nothing w v d s (inl x) = x.after
  check_changes_nothing w v (unsaid k) s (inr x) = absurd x.effect
  check_changes_nothing w v (make_role i r n) s (inr x) = let h = x.effect.0 in differ (cc)
  check_changes_nothing w v (make_object i o m) s (inr x) = let h = x.effect.0 in differ (cc)
  check_changes_nothing w v (add_link i q r) s (inr x) = let h = x.effect.0 in differ (cc)
  check_changes_nothing w v (cut_link i q r) s (inr x) = let h = x.effect.0 in differ (cc)
  check_changes_nothing w v (assign k) s (inr x) = let h = x.effect.told in differ (cc)
  check_changes_nothing w v (check o p q) s (inr x) = x.effect.after

  pub unchanged : Unchanged st
  unchanged = record {
    refused = λ w v e f x. refusal_changes_nothing w v x.asked f x.does;
    checked = λ w v e s x. check_changes_nothing w v x.asked s x.does;
  }

  -- what a damaged record is answered: its fault, or want of memory
  abbrev Damaged : World S → ReadingFault → Answer S → Type 0
  Damaged w k a = ((w.memory ≡ true) × (a ≡ Err (Wording (Reading k)))) ⊎ ((w.memory ≡ true → ⊥) × (a ≡ Err Memory))

  pub damaged_does : (w : World S) (k : ReadingFault) (a : Answer S) (v : World S) → Does st w (unsaid (Reading k)) a v → Damaged w k a × (v ≡ w)
  damaged_does w k a v (inl x) = (go x.first, x.after)
    where
      go : FirstNo (questions st w (unsaid (Reading k))) (number_of x.why) → Damaged w k a
      go (inl y) = inr (y.0, x.told ∙ ap Err (one_fault {S = S} (unsaid (Reading k)) x.why Memory x.whole (λ f e. differ (cc)) y.1))
      go (inr y) = inl (
        y.0,
        elim y.1 [
          | inl z ↦ x.told ∙ ap Err (one_fault {S = S} (unsaid (Reading k)) x.why (Wording (Reading k)) x.whole (λ f e. (let q : Reading k ≡ f = cc in ap unsaid q)) z.1)
          | inr z ↦ absurd z.1
        ],
      )
  damaged_does w k a v (inr x) = absurd x.effect

  unplaced_plain : (k j : ReadingFault) → unplaced k ≡ unplaced j → but_offset {S = S} (Err (Wording (Reading k))) ≡ but_offset (Err (Wording (Reading j)))
  unplaced_plain k j e = ap (λ f. Err (Wording (Reading f))) e

  -- two records with one content: they ask for the same, or are damaged in the same way
  pub record BothDamaged (x y : Result Frame ReadingFault) : Type 0 where
    pub first : ReadingFault
    pub second : ReadingFault
    pub is_first : x ≡ Err first
    pub is_second : y ≡ Err second
    pub alike : unplaced first ≡ unplaced second

  pub same_content : (x y : Result Frame ReadingFault) → content x ≡ content y → (x ≡ y) ⊎ BothDamaged x y
  same_content (Ok f) (Ok g) e = inl (cc)
  same_content (Ok f) (Err k) e = differ (cc)
  same_content (Err k) (Ok f) e = differ (cc)
  same_content (Err k) (Err j) e = inr (record { first = k; second = j; is_first = refl; is_second = refl; alike = cc })

  -- what a damaged record does
  pub damaged_step : (w : World S) (e : Entry) (k : ReadingFault) (a : Answer S) (v : World S) → e.what ≡ Err k → Step st w e a v → Damaged w k a × (v ≡ w)
  damaged_step w e k a v q x =
      let d : x.asked ≡ unsaid (Reading k) = subst (λ z. Asks st z x.asked) q x.asks in
      damaged_does w k a v (subst (λ z. Does st w z a v) d x.does)

  both_damaged : (w : World S) (k j : ReadingFault) (a b : Answer S) → unplaced k ≡ unplaced j → Damaged w k a → Damaged w j b → but_offset a ≡ but_offset b
  both_damaged w k j a b e (inl x) (inl y) = ap but_offset x.1 ∙ unplaced_plain k j e ∙ sym (ap but_offset y.1)
  both_damaged w k j a b e (inl x) (inr y) = absurd (y.0 x.0)
  both_damaged w k j a b e (inr x) (inl y) = absurd (x.0 y.0)
  both_damaged w k j a b e (inr x) (inr y) = ap but_offset (x.1 ∙ sym y.1)

  step_alike : (w : World S) (e f : Entry) (a b : Answer S) (u v : World S) → content e.what ≡ content f.what → Step st w e a u → Step st w f b v → (but_offset a ≡ but_offset b) × (u ≡ v)
  step_alike w e f a b u v q x y = go (same_content e.what f.what q)
    where
      go : (e.what ≡ f.what) ⊎ BothDamaged e.what f.what → (but_offset a ≡ but_offset b) × (u ≡ v)
      go (inl s) =
          let d : x.asked ≡ y.asked = asks_one f.what x.asked y.asked (subst (λ z. Asks st z x.asked) s x.asks) y.asks in
          let h = does_one w y.asked a b u v (subst (λ z. Does st w z a u) d x.does) y.does in
          (ap but_offset h.0, h.1)
      go (inr s) =
          let h = damaged_step w e s.first a u s.is_first x in
          let k = damaged_step w f s.second b v s.is_second y in
          (both_damaged w s.first s.second a b s.alike h.0 k.0, h.1 ∙ sym k.1)

  -- the same contents from the same world: the same answers but for offsets, and the same world
  pub run_alike : (w : World S) (xs ys : List (Turn S)) (u v : World S) → Run st w xs u → Run st w ys v → contents xs ≡ contents ys → (answers_but_offsets xs ≡ answers_but_offsets ys) × (u ≡ v)
  run_alike w [] [] u v r s e = (refl, r ∙ sym s)
  run_alike w [] (y ∷ ys) u v r s e = differ (cc)
  run_alike w (x ∷ xs) [] u v r s e = differ (cc)
  run_alike w (x ∷ xs) (y ∷ ys) u v r s e =
      let c : content x.entry.what ≡ content y.entry.what = cc in
      let cs : contents xs ≡ contents ys = cc in
      let one = step_alike w x.entry y.entry x.answer y.answer r.0 s.0 c r.1 s.1 in
      let h = run_alike s.0 xs ys u v (subst (λ z. Run st z xs u) one.1 r.2) s.2 cs in
      (λ i. one.0 i ∷ h.0 i, h.1)
