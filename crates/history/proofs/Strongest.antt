-- Each accepted CHECK was answered the state that the definitions give, and neither it nor a refused record changed anything.
use Rattle.std.proofs.Common.{◌≡◌, ℕ, Bool, List, [], ◌∷◌, Ok, Err, sym, refl, subst, inl, inr}
use Rattle.model.specs.States.{States, Lawful}
use Rattle.model.specs.declared.principal.Principal.{Principal}
use Rattle.model.specs.declared.privilege.Privilege.{Privilege}
use Rattle.access.specs.Reaching.{IsAnswer}
use Rattle.reading.specs.Cut.{Entry}
use Rattle.standing.specs.declared.report.Report.TheVariants.{Done, DoneBy, State}
use Rattle.history.specs.World.{World, new_world}
use Rattle.history.specs.Deeds.{check}
use Rattle.history.specs.Steps.{Answer, Does, Step, Turn, Run}
use Rattle.history.specs.Laws.{StrongestAnswers, ChangesNothing, KeepsWorld}
use Rattle.history.proofs.Runs.{differ, asks_one, one_run, run_parts, run_joined, unchanged}

module _ {S : Type 0} (st : States S) (law : Lawful st) where
  told : (w : World S) (o : ℕ) (p : Privilege) (q : Principal) (a : Answer S) (s : S) (v : World S) → Does st w (check o p q) a v → a ≡ Ok (State s) → IsAnswer st w.graph w.masters w.cells o p q s
  told w o p q a s v (inl x) e = let h = x.told in differ (cc)
  told w o p q a s v (inr x) e =
      let h = x.effect.told in
      let z : x.effect.state ≡ s = cc in
      subst (IsAnswer st w.graph w.masters w.cells o p q) z x.effect.is_answer

  pub strongest_answers : (memory : Bool) (ts : List (Turn S)) (w : World S) → Run st (new_world st memory) ts w → StrongestAnswers st memory ts
  strongest_answers memory ts w r before t after o p q s is asks e u first =
      let parts = run_parts st law (new_world st memory) before (t ∷ after) w (subst (λ l. Run st (new_world st memory) l w) is r) in
      let same : parts.0 ≡ u = (one_run st law (new_world st memory) before before parts.0 u parts.1 first refl).1 in
      let step = parts.2.1 in
      let d = asks_one st law t.entry.what step.asked (check o p q) step.asks asks in
      subst (λ z. IsAnswer st z.graph z.masters z.cells o p q s) same
      (told parts.0 o p q t.answer s parts.2.0 (subst (λ z. Does st parts.0 z t.answer parts.2.0) d step.does) e)

  kept : (w : World S) (e : Entry) (a : Answer S) (v : World S) → ChangesNothing a → Step st w e a v → v ≡ w
  kept w e (Err f) v c x = (unchanged st law).refused w v e f x
  kept w e (Ok Done) v c x = absurd c
  kept w e (Ok (DoneBy g)) v c x = absurd c
  kept w e (Ok (State s)) v c x = (unchanged st law).checked w v e s x

  pub keeps_world : (w : World S) (ts : List (Turn S)) (v : World S) → Run st w ts v → KeepsWorld st w ts
  keeps_world w ts v r before t after is c u first =
      let parts = run_parts st law w before (t ∷ after) v (subst (λ l. Run st w l v) is r) in
      let same : parts.0 ≡ u = (one_run st law w before before parts.0 u parts.1 first refl).1 in
      let step : Step st u t.entry t.answer parts.2.0 = subst (λ z. Step st z t.entry t.answer parts.2.0) same parts.2.1 in
      run_joined st law w before (t ∷ []) u u first (parts.2.0, step, sym (kept u t.entry t.answer parts.2.0 c step))
