-- An item that is set writes one cell of the table.
use Rattle.std.proofs.Common.{◌≡◌, ℕ, ◌+◌, ◌*◌, ◌<◌, Bool, true, false, ◌&&◌, ◌||◌, eqb, ltb, sym, refl, ap, ◌∙◌, ⊎_elim, arith}
use mathlib.Core.Path.{fun_ext}
use Rattle.std.proofs.lemmas.Bool.{cases_eq, cases_Bool, eqb-true, eq-eqb, and_parts, and_from, both_ways, cond-true, cond-false, or_left, or_right, or_from, lt-ltb, le-ltb, ltb-true}
use Rattle.model.specs.Principals.{in_range, object_in_range}
use Rattle.model.specs.Privileges.{bit}
use Rattle.model.specs.States.{States, Lawful}
use Rattle.model.specs.Joining.{joining, JoinLaws}
use Rattle.model.specs.Allowed.{Allowed, is_allowed, unassigned}
use Rattle.model.specs.Folds.{count_below, any_below}
use Rattle.model.specs.Places.{place_in_range, number}
use Rattle.model.specs.Stores.{put, in_use, has_room, writable, after_write}
use Rattle.model.specs.declared.place.Place.{Place}
use Rattle.model.specs.declared.cell.Cell.{Cell}
use Rattle.model.proofs.Joins.{join_laws}
use Rattle.model.proofs.Counting.{any_some, any_none, count_all, count_not_all}
use Rattle.model.proofs.Numbering.{number_in, number_same, bit_same, bit_below, place_eq, cases_place}
use Rattle.model.proofs.Puts.{put_from}
use Rattle.model.proofs.Outside.{allowed_unassigned}
use Rattle.bitmap.specs.Items.{Items, item_in_use, held, pair_of, numbered, by_number, is_item_of, Kept, RoomFor, ItemSet, Written}
use Rattle.bitmap.proofs.Held.{Asked, held_none, held_here, held_others}
use Rattle.bitmap.proofs.Telling.{numbered_in, cells_outside, tell_used, tell_pairs}

pub pair_below : (g e : ℕ) → g < 128 → e < 128 → pair_of g e < 16384
pair_below g e p q = omega arith

pair_first : (g e h f : ℕ) → e < 128 → f < 128 → g * 128 + e ≡ h * 128 + f → g ≡ h
pair_first g e h f p q same = omega arith

pair_second : (g e h f : ℕ) → e < 128 → f < 128 → g * 128 + e ≡ h * 128 + f → e ≡ f
pair_second g e h f p q same = omega arith

module _ {S : Type 0} {s : States S} (law : Lawful s) {m : Items S} {l k : ℕ} (w : Asked s m l k) where
  laws : JoinLaws (joining s)
  laws = join_laws s law

  -- item i is the pair's own, or it is free and no item is the pair's
  pub own_room : (i : ℕ) → i < 16 → is_item_of (joining s) m l i ≡ true → RoomFor (joining s) m i l
  own_room i li own =
      let both = and_parts (item_in_use (joining s) m i) (eqb (m.pair i) l) own in
      let is = eqb-true (m.pair i) l both.1 in
      record { own = λ _. is; only = λ a la ua same. w.kept.single a i la li ua both.0 (same ∙ sym is) }

  pub free_room : (i : ℕ) → item_in_use (joining s) m i ≡ false → ((a : ℕ) → a < 16 → is_item_of (joining s) m l a ≡ false) → RoomFor (joining s) m i l
  free_room i idle none = record {
    own = λ up. absurd (both_ways _ idle up);
    only = λ a la ua same. absurd (both_ways _ (none a la) (and_from (item_in_use (joining s) m a) (eqb (m.pair a) l) ua (eq-eqb (m.pair a) l same)));
  }

  module _ {n : Items S} {i : ℕ} {c : Cell S} (fine : (a q : ℕ) → Allowed s (n.cell a q)) (li : i < 16) (set : ItemSet m n i l k c) where
    -- the pair's own item
    pub written_own : is_item_of (joining s) m l i ≡ true → Written s m n l k c true
    written_own own =
        let room = own_room i li own in
        record {
          told = sym (or_right ((joining s).same c.state s.unassign) _ (or_left (any_below 16 (is_item_of (joining s) m l)) _ (any_some 16 i (is_item_of (joining s) m l) li own)));
          here = λ _. held_here s law w li fine room set;
          others = held_others s law w li fine room set;
          refused = λ e. absurd (both_ways true e refl);
        }

    -- an item that is free
    pub written_free : item_in_use (joining s) m i ≡ false → ((a : ℕ) → a < 16 → is_item_of (joining s) m l a ≡ false) → Written s m n l k c true
    written_free idle none =
        let room = free_room i idle none in
        record {
          told = sym (or_right ((joining s).same c.state s.unassign) _ (or_right (any_below 16 (is_item_of (joining s) m l)) _ (lt-ltb (count_below 16 (item_in_use (joining s) m)) 16 (count_not_all 16 i (item_in_use (joining s) m) li idle))));
          here = λ _. held_here s law w li fine room set;
          others = held_others s law w li fine room set;
          refused = λ e. absurd (both_ways true e refl);
        }

  module _ (c : Cell S) (none : (a : ℕ) → a < 16 → is_item_of (joining s) m l a ≡ false) where
    nothing_held : held s m 16 l k ≡ unassigned s
    nothing_held = held_none s m 16 l k (λ a la ua same. both_ways _ (none a la) (and_from (item_in_use (joining s) m a) (eqb (m.pair a) l) ua (eq-eqb (m.pair a) l same)))

    -- unassign where nothing is held
    pub written_nothing : Allowed s c → (joining s).same c.state s.unassign ≡ true → Written s m m l k c true
    written_nothing fine gone = record {
      told = sym (or_left ((joining s).same c.state s.unassign) _ gone);
      here = λ _. nothing_held ∙ sym (allowed_unassigned s law c fine ((laws.told_apart c.state s.unassign).0 gone));
      others = λ a q lq ne. refl;
      refused = λ _. refl;
    }

    -- sixteen other pairs are in use
    pub written_full : (joining s).same c.state s.unassign ≡ false → ((a : ℕ) → a < 16 → item_in_use (joining s) m a ≡ true) → Written s m m l k c false
    written_full stays all = record {
      told = sym (or_from ((joining s).same c.state s.unassign) _ stays (or_from (any_below 16 (is_item_of (joining s) m l)) _ (any_none 16 (is_item_of (joining s) m l) none) (le-ltb (count_below 16 (item_in_use (joining s) m)) 16 (omega (arith, count_all 16 (item_in_use (joining s) m) all)))));
      here = λ e. absurd (both_ways false refl e);
      others = λ a q lq ne. refl;
      refused = λ _. refl;
    }

-- one object's items are written, and the table's cells with them
module _ {S : Type 0} (s : States S) (law : Lawful s) (m n : ℕ → Items S) (p : Place) (c : Cell S) (r : Bool) (inside : place_in_range p ≡ true) (kept : Kept s (m p.object))
    (written : Written s (m p.object) (n p.object) (pair_of (number p.granter) (number p.grantee)) (bit p.privilege) c r)
    (apart : (o : ℕ) → (o ≡ p.object → ⊥) → n o ≡ m o) where
  parts : (q : Place) → place_in_range q ≡ true → (q.object < 32) × (in_range q.granter ≡ true) × (in_range q.grantee ≡ true)
  parts q ranged =
      let a = and_parts (object_in_range q.object) _ ranged in
      let b = and_parts (in_range q.granter) (in_range q.grantee) a.1 in
      (ltb-true q.object 32 a.0, b.0, b.1)

  read_in : (w : ℕ → Items S) (q : Place) → place_in_range q ≡ true → by_number (numbered s w) q ≡ held s (w q.object) 16 (pair_of (number q.granter) (number q.grantee)) (bit q.privilege)
  read_in w q ranged = let a = parts q ranged in numbered_in s law w q.object (number q.granter) (number q.grantee) (bit q.privilege) a.0 (number_in q.granter a.1) (number_in q.grantee a.2)

  same_at : (q : Place) → place_in_range q ≡ true → q.object ≡ p.object → pair_of (number q.granter) (number q.grantee) ≡ pair_of (number p.granter) (number p.grantee) → bit q.privilege ≡ bit p.privilege → q ≡ p
  same_at q ranged eo el ek =
      let a = parts q ranged in
      let b = parts p inside in
      let lq = number_in q.grantee a.2 in
      let lp = number_in p.grantee b.2 in
      place_eq q p eo
      (number_same q.granter p.granter a.1 b.1 (pair_first (number q.granter) (number q.grantee) (number p.granter) (number p.grantee) lq lp el))
      (number_same q.grantee p.grantee a.2 b.2 (pair_second (number q.granter) (number q.grantee) (number p.granter) (number p.grantee) lq lp el))
      (bit_same q.privilege p.privilege ek)

  elsewhere : (q : Place) → (q ≡ p → ⊥) → by_number (numbered s n) q ≡ by_number (numbered s m) q
  elsewhere q ne =
      ⊎_elim
      (λ yes.
      let l = pair_of (number q.granter) (number q.grantee) in
      let k = bit q.privilege in
      read_in n q yes
      ∙ ⊎_elim
      (λ same.
      ap (λ (o : ℕ). held s (n o) 16 l k) same
      ∙ written.others l k (bit_below q.privilege) (λ el ek. ne (same_at q yes same el ek))
      ∙ sym (ap (λ (o : ℕ). held s (m o) 16 l k) same))
      (λ differ. ap (λ (x : Items S). held s x 16 l k) (apart q.object differ))
      (cases_eq q.object p.object)
      ∙ sym (read_in m q yes))
      (λ none. cells_outside s law n q none ∙ sym (cells_outside s law m q none))
      (cases_Bool (place_in_range q))

  at_place : (q : Place) → q ≡ p → r ≡ false → by_number (numbered s n) q ≡ by_number (numbered s m) q
  at_place q e none =
      ap (by_number (numbered s n)) e ∙ read_in n p inside ∙ written.refused none ∙ sym (read_in m p inside) ∙ ap (by_number (numbered s m)) (sym e)

  pub table_written : by_number (numbered s n) ≡ after_write (by_number (numbered s m)) p c r
  table_written =
      ⊎_elim
      (λ yes.
      put_from (by_number (numbered s m)) (by_number (numbered s n)) p c (read_in n p inside ∙ written.here yes) elsewhere
      ∙ sym (cond-true r (put (by_number (numbered s m)) p c) (by_number (numbered s m)) yes))
      (λ none.
      fun_ext (λ q. ⊎_elim (λ e. at_place q e none) (elsewhere q) (cases_place q p))
      ∙ sym (cond-false r (put (by_number (numbered s m)) p c) (by_number (numbered s m)) none))
      (cases_Bool r)

  pub table_told : is_allowed s c ≡ true → r ≡ writable s true (by_number (numbered s m)) p c
  table_told fine =
      let a = parts p inside in
      let u = tell_used s law m p.object p.granter p.grantee a.0 a.1 a.2 in
      let d = tell_pairs s law m p.object a.0 kept in
      written.told
      ∙ ap (λ (b : Bool). (joining s).same c.state s.unassign || (b || ltb (count_below 16 (item_in_use (joining s) (m p.object))) 16)) (sym u)
      ∙ ap (λ (x : ℕ). (joining s).same c.state s.unassign || (in_use (joining s) (by_number (numbered s m)) p.object p.granter p.grantee || ltb x 16)) (sym d)
      ∙ ap (λ (b : Bool). b && has_room (joining s) (by_number (numbered s m)) p c) (sym fine)
      ∙ ap (λ (b : Bool). b && (is_allowed s c && has_room (joining s) (by_number (numbered s m)) p c)) (sym inside)
