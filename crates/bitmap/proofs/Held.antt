-- What the items of one object hold for a pair, and what one item that is set changes.
use Rattle.std.proofs.Common.{◌≡◌, ℕ, zero, suc, ◌<◌, Bool, true, false, cond, ◌&&◌, ◌||◌, eqb, ◌⊎◌, sym, refl, ap, ◌∙◌, subst, inl, inr, ⊎_elim, arith}
use Rattle.std.proofs.lemmas.Bool.{cases_eq, cases_Bool, eqb-true, eq-eqb, ne_eqb, and_parts, and_left, and_right, and_from, both_ways, cond-true, cond-false, not_from_false}
use Rattle.model.specs.States.{States, Lawful}
use Rattle.model.specs.Joining.{joining, JoinLaws}
use Rattle.model.specs.Allowed.{Allowed, unassigned}
use Rattle.model.specs.Folds.{any_below}
use Rattle.model.specs.Stores.{assigned}
use Rattle.model.specs.declared.cell.Cell.{Cell}
use Rattle.model.proofs.Joins.{join_laws}
use Rattle.model.proofs.Counting.{any_none, any_some, any_same}
use Rattle.model.proofs.Outside.{unassigned_none, allowed_unassigned}
use Rattle.bitmap.specs.Items.{Items, item_in_use, held, is_item_of, Kept, RoomFor, ItemSet}

-- a write of a cell for the pair l and privilege k is asked
pub record Asked {S : Type 0} (s : States S) (m : Items S) (l k : ℕ) : Type 0 where
  pub kept : Kept s m
  pub pair : l < 16384
  pub privilege : k < 8

module _ {S : Type 0} (s : States S) where
  -- the item is not the pair's
  apart : (m : Items S) (i l : ℕ) → (item_in_use (joining s) m i ≡ true → m.pair i ≡ l → ⊥) → is_item_of (joining s) m l i ≡ false
  apart m i l ne = ⊎_elim (λ up. and_right (item_in_use (joining s) m i) (eqb (m.pair i) l) (ne_eqb (m.pair i) l (ne up))) (λ idle. and_left (item_in_use (joining s) m i) (eqb (m.pair i) l) idle) (cases_Bool (item_in_use (joining s) m i))

  -- no item among the first n is the pair's
  pub held_none : (m : Items S) (n l k : ℕ) → ((i : ℕ) → i < n → item_in_use (joining s) m i ≡ true → m.pair i ≡ l → ⊥) → held s m n l k ≡ unassigned s
  unfolding held
  held_none m zero l k h = refl
  held_none m (suc n) l k h =
      cond-false (is_item_of (joining s) m l n) (m.cell n k) (held s m n l k) (apart m n l (h n (omega arith)))
      ∙ held_none m n l k (λ i lt. h i (omega arith))

  -- the one item that is the pair's
  pub held_one : (m : Items S) (n i l k : ℕ) → i < n → item_in_use (joining s) m i ≡ true → m.pair i ≡ l → ((a : ℕ) → a < n → item_in_use (joining s) m a ≡ true → m.pair a ≡ l → a ≡ i) → held s m n l k ≡ m.cell i k
  unfolding held
  held_one m zero i l k lt up own single = absurd (omega arith)
  held_one m (suc n) i l k lt up own single =
      ⊎_elim
      (λ e.
      cond-true (is_item_of (joining s) m l n) (m.cell n k) (held s m n l k)
      (and_from (item_in_use (joining s) m n) (eqb (m.pair n) l) (ap (item_in_use (joining s) m) (sym e) ∙ up) (eq-eqb (m.pair n) l (ap m.pair (sym e) ∙ own)))
      ∙ ap (λ (a : ℕ). m.cell a k) (sym e))
      (λ ne.
      cond-false (is_item_of (joining s) m l n) (m.cell n k) (held s m n l k) (apart m n l (λ up_n f. ne (sym (single n (omega arith) up_n f))))
      ∙ held_one m n i l k (omega arith) up own (λ a below. single a (omega arith)))
      (cases_eq i n)

  -- what is held comes from no item, or from one
  pub held_cases : (m : Items S) (n l k : ℕ) → (held s m n l k ≡ unassigned s) ⊎ ((i : ℕ) × (i < n) × (is_item_of (joining s) m l i ≡ true) × (held s m n l k ≡ m.cell i k))
  unfolding held
  held_cases m zero l k = inl refl
  held_cases m (suc n) l k =
      ⊎_elim
      (λ yes. inr (n, omega arith, yes, cond-true (is_item_of (joining s) m l n) (m.cell n k) (held s m n l k) yes))
      (λ none.
      let is = cond-false (is_item_of (joining s) m l n) (m.cell n k) (held s m n l k) none in
      ⊎_elim (λ e. inl (is ∙ e)) (λ w. inr (w.0, omega (arith, w.1), w.2, is ∙ w.3)) (held_cases m n l k))
      (cases_Bool (is_item_of (joining s) m l n))

  -- where the items that are the pair's are the same, so is what they hold
  held_same : (m n : Items S) (b l k : ℕ) → ((i : ℕ) → i < b → is_item_of (joining s) m l i ≡ is_item_of (joining s) n l i) → ((i : ℕ) → i < b → is_item_of (joining s) m l i ≡ true → m.cell i k ≡ n.cell i k) → held s m b l k ≡ held s n b l k
  unfolding held
  held_same m n zero l k h f = refl
  held_same m n (suc b) l k h f =
      let rest = held_same m n b l k (λ i lt. h i (omega arith)) (λ i lt. f i (omega arith)) in
      ⊎_elim
      (λ yes.
      cond-true (is_item_of (joining s) m l b) (m.cell b k) (held s m b l k) yes
      ∙ f b (omega arith) yes
      ∙ sym (cond-true (is_item_of (joining s) n l b) (n.cell b k) (held s n b l k) (sym (h b (omega arith)) ∙ yes)))
      (λ none.
      cond-false (is_item_of (joining s) m l b) (m.cell b k) (held s m b l k) none
      ∙ rest
      ∙ sym (cond-false (is_item_of (joining s) n l b) (n.cell b k) (held s n b l k) (sym (h b (omega arith)) ∙ none)))
      (cases_Bool (is_item_of (joining s) m l b))

  use_same : (m n : Items S) (i : ℕ) → ((q : ℕ) → q < 8 → m.cell i q ≡ n.cell i q) → item_in_use (joining s) m i ≡ item_in_use (joining s) n i
  unfolding item_in_use
  use_same m n i h = any_same 8 (λ k. assigned (joining s) (m.cell i k).state) (λ k. assigned (joining s) (n.cell i k).state) (λ q lt. ap (λ (c : Cell S). assigned (joining s) c.state) (h q lt))

  opened : (m : Items S) (i : ℕ) → item_in_use (joining s) m i ≡ true → any_below 8 (λ k. assigned (joining s) (m.cell i k).state) ≡ true
  unfolding item_in_use
  opened m i e = e

  last_no : (n : ℕ) (p : ℕ → Bool) → p n ≡ false → any_below (suc n) p ≡ any_below n p
  unfolding any_below
  last_no n p e = ap (λ (b : Bool). b || any_below n p) e

  module _ (law : Lawful s) where
    laws : JoinLaws (joining s)
    laws = join_laws s law

    -- an item that is not in use holds nothing
    pub idle_cell : (m : Items S) → ((i k : ℕ) → Allowed s (m.cell i k)) → (i k : ℕ) → k < 8 → item_in_use (joining s) m i ≡ false → m.cell i k ≡ unassigned s
    unfolding item_in_use
    idle_cell m fine i k lt idle =
        ⊎_elim
        (λ yes. allowed_unassigned s law (m.cell i k) (fine i k) ((laws.told_apart (m.cell i k).state s.unassign).0 yes))
        (λ none. absurd (both_ways _ idle (any_some 8 k (λ q. assigned (joining s) (m.cell i q).state) lt (not_from_false _ none))))
        (cases_Bool ((joining s).same (m.cell i k).state s.unassign))

    -- a pair is in use if an item in use is its own
    pub held_used : (m : Items S) (n l : ℕ) → any_below 8 (λ k. assigned (joining s) (held s m n l k).state) ≡ any_below n (is_item_of (joining s) m l)
    unfolding held
    held_used m zero l = any_none 8 (λ k. assigned (joining s) s.unassign) (λ k lt. unassigned_none (joining s) laws) ∙ sym (any_none 0 (is_item_of (joining s) m l) (λ i lt. absurd (omega arith)))
    held_used m (suc n) l =
        ⊎_elim
        (λ yes.
        any_same 8 (λ k. assigned (joining s) (cond (is_item_of (joining s) m l n) (m.cell n k) (held s m n l k)).state) (λ k. assigned (joining s) (m.cell n k).state)
        (λ k lt. ap (λ (c : Cell S). assigned (joining s) c.state) (cond-true (is_item_of (joining s) m l n) (m.cell n k) (held s m n l k) yes))
        ∙ opened m n (and_parts (item_in_use (joining s) m n) (eqb (m.pair n) l) yes).0
        ∙ sym (any_some (suc n) n (is_item_of (joining s) m l) (omega arith) yes))
        (λ none.
        any_same 8 (λ k. assigned (joining s) (cond (is_item_of (joining s) m l n) (m.cell n k) (held s m n l k)).state) (λ k. assigned (joining s) (held s m n l k).state)
        (λ k lt. ap (λ (c : Cell S). assigned (joining s) c.state) (cond-false (is_item_of (joining s) m l n) (m.cell n k) (held s m n l k) none))
        ∙ held_used m n l
        ∙ sym (last_no n (is_item_of (joining s) m l) none))
        (cases_Bool (is_item_of (joining s) m l n))

    module _ {m n : Items S} {i l k : ℕ} {c : Cell S} (w : Asked s m l k) (li : i < 16) (fine : (a q : ℕ) → Allowed s (n.cell a q)) (room : RoomFor (joining s) m i l) (set : ItemSet m n i l k c) where
      use_kept : (a : ℕ) → a < 16 → (a ≡ i → ⊥) → item_in_use (joining s) n a ≡ item_in_use (joining s) m a
      use_kept a lt ne = use_same n m a (λ q lq. set.items_kept a q lt lq ne)

      -- no other item is the pair's afterwards
      only_after : (a : ℕ) → a < 16 → item_in_use (joining s) n a ≡ true → n.pair a ≡ l → a ≡ i
      only_after a lt up own =
          ⊎_elim (λ e. e) (λ ne. room.only a lt (sym (use_kept a lt ne) ∙ up) (sym (set.pairs_kept a lt ne) ∙ own)) (cases_eq a i)

      pub set_kept : Kept s n
      set_kept = record {
        single = λ a b la lb ua ub same.
            ⊎_elim
            (λ ea. sym (only_after b lb ub (sym same ∙ ap n.pair ea ∙ set.pair_here) ∙ sym ea))
            (λ na. ⊎_elim
            (λ eb. only_after a la ua (same ∙ ap n.pair eb ∙ set.pair_here) ∙ sym eb)
            (λ nb. w.kept.single a b la lb (sym (use_kept a la na) ∙ ua) (sym (use_kept b lb nb) ∙ ub) (sym (set.pairs_kept a la na) ∙ same ∙ set.pairs_kept b lb nb))
            (cases_eq b i))
            (cases_eq a i);
        bounded = λ a la ua.
            ⊎_elim
            (λ e. subst (λ (x : ℕ). x < 16384) (sym (ap n.pair e ∙ set.pair_here)) w.pair)
            (λ ne. subst (λ (x : ℕ). x < 16384) (sym (set.pairs_kept a la ne)) (w.kept.bounded a la (sym (use_kept a la ne) ∙ ua)))
            (cases_eq a i);
        allowed = fine;
      }

      -- what the pair's cells are, read from item i on either side
      read_before : (q : ℕ) → q < 8 → held s m 16 l q ≡ m.cell i q
      read_before q lq =
          ⊎_elim
          (λ up. held_one m 16 i l q li up (room.own up) room.only)
          (λ idle. held_none m 16 l q (λ a la ua own. both_ways _ idle (ap (item_in_use (joining s) m) (sym (room.only a la ua own)) ∙ ua)) ∙ sym (idle_cell m w.kept.allowed i q lq idle))
          (cases_Bool (item_in_use (joining s) m i))

      read_after : (q : ℕ) → q < 8 → held s n 16 l q ≡ n.cell i q
      read_after q lq =
          ⊎_elim
          (λ up. held_one n 16 i l q li up set.pair_here only_after)
          (λ idle. held_none n 16 l q (λ a la ua own. both_ways _ idle (ap (item_in_use (joining s) n) (sym (only_after a la ua own)) ∙ ua)) ∙ sym (idle_cell n fine i q lq idle))
          (cases_Bool (item_in_use (joining s) n i))

      pub held_here : held s n 16 l k ≡ c
      held_here = read_after k w.privilege ∙ set.cell_here

      held_beside : (q : ℕ) → q < 8 → (q ≡ k → ⊥) → held s n 16 l q ≡ held s m 16 l q
      held_beside q lq ne = read_after q lq ∙ set.cells_kept q lq ne ∙ sym (read_before q lq)

      held_apart : (b q : ℕ) → q < 8 → (b ≡ l → ⊥) → held s n 16 b q ≡ held s m 16 b q
      held_apart b q lq ne =
          held_same n m 16 b q
          (λ a la. ⊎_elim
          (λ e.
          apart n a b (λ _ f. ne (sym f ∙ ap n.pair e ∙ set.pair_here))
          ∙ sym (apart m a b (λ up f. ne (sym f ∙ ap m.pair e ∙ room.own (ap (item_in_use (joining s) m) (sym e) ∙ up)))))
          (λ na. ap (λ (x : Bool). x && eqb (n.pair a) b) (use_kept a la na) ∙ ap (λ (x : ℕ). item_in_use (joining s) m a && eqb x b) (set.pairs_kept a la na))
          (cases_eq a i))
          (λ a la yes. ⊎_elim
          (λ e. absurd (ne (sym (eqb-true (n.pair a) b (and_parts (item_in_use (joining s) n a) (eqb (n.pair a) b) yes).1) ∙ ap n.pair e ∙ set.pair_here)))
          (λ na. set.items_kept a q la lq na)
          (cases_eq a i))

      pub held_others : (b q : ℕ) → q < 8 → (b ≡ l → q ≡ k → ⊥) → held s n 16 b q ≡ held s m 16 b q
      held_others b q lq ne =
          ⊎_elim
          (λ e. ap (λ (x : ℕ). held s n 16 x q) e ∙ held_beside q lq (ne e) ∙ sym (ap (λ (x : ℕ). held s m 16 x q) e))
          (λ differ. held_apart b q lq differ)
          (cases_eq b l)
