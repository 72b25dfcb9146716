-- What every history keeps: a sound graph, owners in range, and allowed cells in range, in sixteen pairs.
use Rattle.std.proofs.Common.{◌≡◌, ℕ, ◌<◌, ◌≤◌, Bool, true, false, ◌&&◌, eqb, ◌⊎◌, List, [], ◌∷◌, IfSome, Some, None, Ok, Err, Decides, Option, Result, sym, refl, ap, ◌∙◌, subst, inl, inr, arith, lt-ltb, eq-eqb, ne_eqb}
use borrow.Author.Tests.{both_ways, clash}
use Rattle.std.proofs.lemmas.Bool.{cases_Bool, cases_eq, and_from, and_parts, cond-true, cond-false, not_from_false}
use Rattle.model.specs.States.{States, Lawful}
use Rattle.model.specs.Joining.{JoinLaws, joining}
use Rattle.model.specs.Allowed.{Allowed, set_by, fitting, unassigned}
use Rattle.model.specs.Principals.{in_range, object_in_range}
use Rattle.model.specs.Graphs as graphs
use Rattle.model.specs.Graphs.{vacant, takes_level, takes_link, new_graph}
use Rattle.model.specs.Places.{place, place_in_range}
use Rattle.model.specs.Stores as stores
use Rattle.model.specs.Stores.{Cells, put}
use Rattle.model.specs.declared.principal.Principal.{Principal}
use Rattle.model.specs.declared.principal.Principal.TheVariants.{User, Role}
use Rattle.model.specs.declared.privilege.Privilege.{Privilege}
use Rattle.model.specs.declared.scale.StateCommand.{StateCommand}
use Rattle.model.specs.declared.scale.StateCommand.TheVariants as command
use Rattle.model.specs.declared.cell.Cell.{Cell}
use Rattle.model.specs.declared.place.Place.{Place}
use Rattle.model.proofs.Allowing.{set_allowed}
use Rattle.model.proofs.Joins.{join_laws}
use Rattle.model.proofs.LinkCounts.{count_none}
use Rattle.model.proofs.Numbering.{cases_place}
use Rattle.model.proofs.Outside.{unassigned_allowed}
use Rattle.model.proofs.SoundGraphs.{sound_with_level, sound_with_link, sound_without_link}
use Rattle.access.specs.Masters.{Owns}
use Rattle.access.specs.Giving.{Optioned, GivesAs}
use Rattle.access.specs.declared.master.Master.{Master}
use Rattle.reading.specs.Records.{Frame}
use Rattle.reading.specs.declared.fault.ReadingFault.{ReadingFault}
use Rattle.words.specs.Words.{index}
use Rattle.grammar.specs.Sentences.{Within}
use Rattle.grammar.specs.declared.sentence.Restriction.{Restriction}
use Rattle.grammar.specs.declared.sentence.Restriction.TheVariants as restriction
use Rattle.grammar.specs.declared.sentence.Sentence.{Sentence}
use Rattle.grammar.specs.declared.sentence.Sentence.TheVariants as sentence
use Rattle.wording.specs.Answers.{Answers}
use Rattle.wording.specs.Ranges.{range}
use Rattle.wording.specs.declared.fault.WordingFault.{WordingFault}
use Rattle.history.specs.World.{World, new_world}
use Rattle.history.specs.Deeds.{Assignment, Deed, unsaid, make_role, make_object, add_link, cut_link, assign, check, restricting, deed, deed_or_fault, Asks}
use Rattle.history.specs.Asking.{HasRoom}
use Rattle.history.specs.Steps.{Answer, Assigns, Does, Step, Turn, Run}
use Rattle.history.proofs.Runs.{differ}
use Rattle.history.proofs.Pairs.{put_here, put_else, pairs_put, no_pairs}

in_range_index : (q : Principal) → index q ≤ 63 → in_range q ≡ true
in_range_index (User n) l = lt-ltb n 64 (omega arith)
in_range_index (Role n) l = lt-ltb n 64 (omega arith)

module _ {S : Type 0} (st : States S) (law : Lawful st) where
  -- what a record asks for is in range, and its cell allowed
  abbrev pub Proper : Deed S → Type 0
  Proper (unsaid f) = Unit {0}
  Proper (make_role u r n) = (r < 64) × (n < 8)
  Proper (make_object u o m) = (o < 32) × (m.owner < 64)
  Proper (add_link u q r) = (r < 64) × (in_range q ≡ true)
  Proper (cut_link u q r) = (r < 64) × (in_range q ≡ true)
  Proper (assign x) = (x.object < 32) × (in_range x.grantee ≡ true) × ((c : Cell S) → x.cell ≡ Some c → Allowed st c)
  Proper (check o p q) = (o < 32) × (in_range q ≡ true)

  set_cell_allowed : (k : StateCommand) (neutral option : Bool) → fitting k neutral option ≡ true → (c : Cell S) → set_by st k neutral option ≡ Some c → Allowed st c
  set_cell_allowed k neutral option fits c e =
      let h : Decides (fitting k neutral option) (Allowed st c) =
      subst (λ z. IfSome z (λ d. Decides (fitting k neutral option) (Allowed st d))) e (set_allowed st law k neutral option) in
      h.0 fits

  restriction_fits : (r : Restriction) (neutral : Bool) → fitting (restricting r) neutral false ≡ true
  restriction_fits restriction.Taint neutral = refl
  restriction_fits restriction.Suspend neutral = refl
  restriction_fits restriction.Deny neutral = refl

  pub proper_sentence : (u : ℕ) (s : Sentence) → Within range s → Proper (deed st u s)
  proper_sentence u (sentence.Role r n) w = let a = w.0 in let b = w.1 in (omega arith, omega arith)
  proper_sentence u (sentence.Object o t owner) w = let a = w.0 in let b = w.1 in (omega arith, omega arith)
  proper_sentence u (sentence.Link r q) w = let a = w.0 in (omega arith, in_range_index q w.1)
  proper_sentence u (sentence.Cut r q) w = let a = w.0 in (omega arith, in_range_index q w.1)
  proper_sentence u (sentence.Grant p o q option) w = let a = w.0 in (omega arith, in_range_index q w.1, set_cell_allowed command.Grant false option refl)
  proper_sentence u (sentence.Restrict r p o q neutral) w = let a = w.0 in (omega arith, in_range_index q w.1, set_cell_allowed (restricting r) neutral false (restriction_fits r neutral))
  proper_sentence u (sentence.Revoke p o q) w =
      let a = w.0 in
      (omega arith, in_range_index q w.1, λ c e. (let k : unassigned st ≡ c = cc in subst (Allowed st) k (unassigned_allowed st law)))
  proper_sentence u (sentence.Check p o q) w = let a = w.0 in (omega arith, in_range_index q w.1)

  proper_body : (u : ℕ) (bs : List ℕ) (r : Result Sentence WordingFault) → Answers bs r → Proper (deed_or_fault st u r)
  proper_body u bs (Ok s) a = proper_sentence u s a.within
  proper_body u bs (Err f) a = tt

  pub proper : (x : Result Frame ReadingFault) (d : Deed S) → Asks st x d → Proper d
  proper (Err k) d e = subst Proper (sym e) tt
  proper (Ok f) d a = subst Proper (sym a.2) (proper_body f.issuer f.body a.0 a.1)

  pub record SoundWorld (w : World S) : Type 0 where
    pub graph : graphs.Sound w.graph
    pub owners : (o : ℕ) (m : Master) → w.masters o ≡ Some m → m.owner < 64
    pub cells : stores.Sound st w.cells

  -- an option stands in range only
  option_in_range : (cells : Cells S) → stores.Sound st cells → (o : ℕ) (p : Privilege) (g q : Principal) → (cells (place o g q p)).option ≡ true → place_in_range (place o g q p) ≡ true
  option_in_range cells s o p g q e = elim (cases_Bool (place_in_range (place o g q p))) [
    | inl y ↦ y
    | inr n ↦ absurd (both_ways _ (ap (λ (c : Cell S). c.option) (s.outside (place o g q p) n)) e)
  ]

  -- whoever gives is in range
  pub granter_in_range : (w : World S) → SoundWorld w → (u o : ℕ) (p : Privilege) (g : Principal) → GivesAs w.graph w.masters w.cells u o p g → in_range g ≡ true
  granter_in_range w s u o p g (inl x) = subst (λ z. in_range z ≡ true) (sym x.1) (own x.0)
    where
      own : Owns w.masters u o ⊎ Optioned w.cells o p (User u) → in_range (User u) ≡ true
      own (inl h) = lt-ltb u 64 (subst (λ z. z < 64) h.owner (s.owners o h.master h.stands))
      own (inr h) = (and_parts (in_range h.granter) (in_range (User u)) (and_parts (object_in_range o) (in_range h.granter && in_range (User u)) (option_in_range w.cells s.cells o p h.granter (User u) h.option)).1).1
  granter_in_range w s u o p g (inr x) = subst (λ z. in_range z ≡ true) (sym x.is) x.through.reaches.to

  put_sound : (cells : Cells S) (p : Place) (c : Cell S) → stores.Sound st cells → place_in_range p ≡ true → Allowed st c → stores.has_room (joining st) cells p c ≡ true → stores.Sound st (put cells p c)
  put_sound cells p c s inside fine room = record {
    allowed = λ q. elim (cases_place p q) [
      | inl e ↦ subst (Allowed st) (sym (put_here st laws cells p c) ∙ ap (put cells p c) e) fine
      | inr n ↦ subst (Allowed st) (sym (put_else st laws cells p c q n)) (s.allowed q)
    ];
    outside = λ q out. elim (cases_place p q) [
      | inl e ↦ absurd (both_ways _ out (subst (λ z. place_in_range z ≡ true) e inside))
      | inr n ↦ put_else st laws cells p c q n ∙ s.outside q out
    ];
    room = pairs_put st laws cells p c s.room room;
  }
    where
      laws : JoinLaws (joining st)
      laws = join_laws st law

  assigns_sound : (w : World S) (x : Assignment S) (a : Answer S) (v : World S) → Proper (assign x) → SoundWorld w → HasRoom st w x → Assigns w x a v → SoundWorld v
  assigns_sound w x a v p s room e =
      subst SoundWorld (sym e.after) (record {
        graph = s.graph;
        owners = s.owners;
        cells = put_sound w.cells (place x.object e.granter x.grantee x.privilege) e.cell s.cells
            (and_from _ _ (lt-ltb _ 32 p.0) (and_from _ _ (granter_in_range w s x.issuer x.object x.privilege e.granter e.gives) p.1))
            (p.2 e.cell e.states) (room e.granter e.gives e.cell e.states);
      })

  vacant_from : (o : Option ℕ) → o ≡ None → vacant o ≡ true
  vacant_from o e = ap vacant e

  does_sound : (w : World S) (d : Deed S) (a : Answer S) (v : World S) → Proper d → SoundWorld w → Does st w d a v → SoundWorld v
  does_sound w d a v p s (inl x) = subst SoundWorld (sym x.after) s
  does_sound w (unsaid f) a v p s (inr x) = absurd x.effect
  does_sound w (make_role u r n) a v p s (inr x) =
      subst SoundWorld (sym x.effect.1) (record {
        graph = sound_with_level w.graph r n s.graph (and_from _ _ (lt-ltb r 64 p.0) (and_from _ _ (lt-ltb n 8 p.1) (vacant_from _ x.yes.1.1.0)));
        owners = s.owners;
        cells = s.cells;
      })
  does_sound w (make_object u o m) a v p s (inr x) =
      subst SoundWorld (sym x.effect.1) (record {
        graph = s.graph;
        owners = λ k n e. elim (cases_eq o k) [
          | inl q ↦ (let h : ◌≡◌ {A = Option Master} (Some m) (Some n) = sym (cond-true (eqb o k) (Some m) (w.masters k) (eq-eqb o k q)) ∙ e in let z : m ≡ n = cc in subst (λ y. y.owner < 64) z p.1)
          | inr q ↦ s.owners k n (sym (cond-false (eqb o k) (Some m) (w.masters k) (ne_eqb o k q)) ∙ e)
        ];
        cells = s.cells;
      })
  does_sound w (add_link u q r) a v p s (inr x) =
      subst SoundWorld (sym x.effect.1) (record {
        graph = sound_with_link true w.graph q r s.graph
            (and_from _ _ (and_from _ _ x.yes.1.1.1.0 (not_from_false _ x.yes.1.1.1.1.0)) (lt-ltb _ 256 x.yes.1.1.1.1.1.0));
        owners = s.owners;
        cells = s.cells;
      })
  does_sound w (cut_link u q r) a v p s (inr x) =
      subst SoundWorld (sym x.effect.1) (record {
        graph = sound_without_link w.graph q r s.graph x.yes.1.1.1.0;
        owners = s.owners;
        cells = s.cells;
      })
  does_sound w (assign y) a v p s (inr x) = assigns_sound w y a v p s x.yes.1.1.1.1.1.0 x.effect
  does_sound w (check o k q) a v p s (inr x) = subst SoundWorld (sym x.effect.after) s

  pub step_sound : (w : World S) (t : Turn S) (v : World S) → SoundWorld w → Step st w t.entry t.answer v → SoundWorld v
  step_sound w t v s x = does_sound w x.asked t.answer v (proper t.entry.what x.asked x.asks) s x.does

  pub run_sound : (w : World S) (ts : List (Turn S)) (v : World S) → SoundWorld w → Run st w ts v → SoundWorld v
  run_sound w [] v s r = subst SoundWorld (sym r) s
  run_sound w (t ∷ ts) v s r = run_sound r.0 ts v (step_sound w t r.0 s r.1) r.2

  pub new_sound : (memory : Bool) → SoundWorld (new_world st memory)
  new_sound memory = record {
    graph = record {
      low = λ r n e. differ (cc);
      roles_in_range = λ r l. refl;
      falling = λ q r e. absurd (clash e);
      few = (let z = count_none in omega arith);
    };
    owners = λ o m e. differ (cc);
    cells = record {
      allowed = λ p. unassigned_allowed st law;
      outside = λ p out. refl;
      room = no_pairs st (join_laws st law);
    };
  }
