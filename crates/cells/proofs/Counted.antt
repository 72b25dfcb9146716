-- Which records of a list count, and what a list is after a change.
use Rattle.std.proofs.Common.{◌≡◌, ℕ, ◌<◌, true, false, List, length, ap, ◌∙◌, sym, ⊎_elim, subst, arith}
use Rattle.std.proofs.lemmas.Bool.{cases_Bool, cond-true, cond-false}
use Rattle.model.specs.States.{States, Lawful, same}
use Rattle.model.specs.Stores.{Cells}
use Rattle.model.specs.declared.place.Place.{Place}
use Rattle.model.proofs.Joins.{join_laws}
use Rattle.cells.specs.declared.list.CellList.{CellList}
use Rattle.cells.specs.declared.record.CellRecord.{CellRecord}
use Rattle.cells.specs.Listed.{list_cells}
use Rattle.cells.specs.Kept.{Kept, place_at, used_in, pairs_in}
use Rattle.cells.specs.Lists.{cells_of, counted, IsAbsent, has_room, Becomes}
use Rattle.cells.proofs.Telling.{new_kept}
use Rattle.cells.proofs.Changes.{room_free}

module _ {S : Type 0} (s : States S) (t : CellList S) where
  none_count : same s t.unassign s.unassign ≡ false → counted s t ≡ 0
  none_count e = cond-false (same s t.unassign s.unassign) t.len 0 e

  pub own_unassign : {i : ℕ} → i < counted s t → same s t.unassign s.unassign ≡ true
  own_unassign {i} lt = ⊎_elim (λ e. e) (λ e. absurd (omega (arith, none_count e, lt))) (cases_Bool (same s t.unassign s.unassign))

  -- where the unassign is the scale's, all of the first `len` records count
  module _ (own : same s t.unassign s.unassign ≡ true) where
    pub all_count : counted s t ≡ t.len
    all_count = cond-true (same s t.unassign s.unassign) t.len 0 own

    pub absent_of : {p : Place} → IsAbsent s t p → (j : ℕ) → j < t.len → place_at t.memory.now j ≡ p → ⊥
    absent_of {p} absent = subst (λ (n : ℕ). (j : ℕ) → j < n → place_at t.memory.now j ≡ p → ⊥) all_count absent

    pub room_of : (p : Place) → has_room s t p ≡ true → used_in (place_at t.memory.now) t.len p.object p.granter p.grantee ≡ false → pairs_in (place_at t.memory.now) t.len p.object < 16
    room_of p room = subst (λ (n : ℕ). used_in (place_at t.memory.now) n p.object p.granter p.grantee ≡ false → pairs_in (place_at t.memory.now) n p.object < 16) all_count (room_free _ _ room)

  pub counted_in : {i : ℕ} → i < counted s t → (i < t.len) × (i < length t.memory.now)
  counted_in {i} lt =
      let e : counted s t ≡ t.len = all_count (own_unassign lt) in
      (omega arith, omega (arith, t.kept.within))

  module _ (law : Lawful s) where
    pub of_scale : same s t.unassign s.unassign ≡ true → t.unassign ≡ s.unassign
    of_scale own = ((join_laws s law).told_apart t.unassign s.unassign).0 own

    pub counted_kept : Kept s.unassign t.memory.now (counted s t)
    counted_kept =
        ⊎_elim
        (λ e. subst (Kept s.unassign t.memory.now) (sym (all_count e)) (subst (λ (u : S). Kept u t.memory.now t.len) (of_scale e) t.kept))
        (λ e. subst (Kept s.unassign t.memory.now) (sym (none_count e)) (new_kept s.unassign t.memory.now))
        (cases_Bool (same s t.unassign s.unassign))

-- what is known of the first records, read off the fields of a list
pub becomes : {S : Type 0} (s : States S) (old new : CellList S) (xs : List (CellRecord S)) (n : ℕ) (f : Cells S → Cells S) → same s old.unassign s.unassign ≡ true → new.memory.now ≡ xs → new.len ≡ n → new.unassign ≡ old.unassign → length xs ≡ length old.memory.now → list_cells s xs n ≡ f (list_cells s old.memory.now old.len) → Becomes s old new (f (cells_of s old))
becomes {S} s old new xs n f own e m u long held = record {
  holds = ap (list_cells s new.memory.now) (all_count s new (ap (λ (x : S). same s x s.unassign) u ∙ own) ∙ m)
      ∙ ap (λ (l : List (CellRecord S)). list_cells s l n) e
      ∙ held
      ∙ ap (λ (k : ℕ). f (list_cells s old.memory.now k)) (sym (all_count s old own));
  memory = ap length e ∙ long;
  unassign = u;
}
