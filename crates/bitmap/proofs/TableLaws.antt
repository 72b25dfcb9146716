-- The table of all objects, and one of them set.
use Rattle.std.proofs.Common.{◌≡◌, ℕ, zero, suc, ◌<◌, ◌≤◌, Bool, true, ◌&&◌, ltb, List, Option, Some, None, IfSome, MatchOption, is_some, [], ◌∷◌, length, get_or, set, replicate, sym, refl, ap, ◌∙◌, subst, arith}
use mathlib.Core.Path.{fun_ext}
use Rattle.std.specs.List.{list_any, count_by, position, HoldsAt}
use Rattle.std.proofs.lemmas.Bool.{both_ways, cond_both, and_parts, ltb-true}
use Rattle.scales.specs.Five.{five}
use Rattle.model.specs.Allowed.{unassigned}
use Rattle.model.specs.Privileges.{bit}
use Rattle.model.specs.Places.{number}
use Rattle.model.specs.Stores.{no_cells, pairs, in_use, has_option, strongest, AnswersOutside}
use Rattle.model.specs.Principals.{in_range, object_in_range}
use Rattle.model.specs.Folds.{count_below, any_below, join_below}
use Rattle.model.specs.declared.principal.Principal.{Principal}
use Rattle.model.specs.declared.privilege.Privilege.{Privilege}
use Rattle.model.specs.declared.cell.Orientation.{Orientation}
use Rattle.model.proofs.FoldLists.{replicate_at}
use Rattle.model.proofs.Outside.{answers_outside_lem}
use Rattle.model.proofs.Numbering.{number_in}
use Rattle.bitmap.specs.declared.row.Row.{Row}
use Rattle.bitmap.specs.declared.object_items.ObjectItems.{ObjectItems}
use Rattle.scales.specs.declared.five.FiveState.{FiveState}
use Rattle.model.specs.Joining.{joining}
use Rattle.model.specs.declared.cell.Cell.{Cell}
use Rattle.bitmap.specs.Items.{held, pair_of, numbered, item_in_use, is_item_of, option_in, state_in, Kept, Written}
use Rattle.bitmap.specs.Tables.{empty_row, row_at, items_of, row_in_use, row_is_of, row_option, rows_strongest}
use Rattle.bitmap.specs.Objects.{rows_of, items_at, table_cells}
use Rattle.bitmap.proofs.Held.{held_none}
use Rattle.bitmap.proofs.RowLaws.{five_lawful, rows_kept, items_allowed, use_is, none_used, rows_count, rows_used, rows_option, strongest_of}
use Rattle.bitmap.proofs.Telling.{cells_outside, tell_pairs, tell_used, tell_option, tell_strongest}

pub rows_same : (xs : List ObjectItems) (o : ℕ) (x : ObjectItems) → o < length xs → rows_of (set xs o x) o ≡ x.rows
rows_same [] o x lt = absurd (omega arith)
rows_same (y ∷ ys) zero x lt = refl
rows_same (y ∷ ys) (suc o) x lt = rows_same ys o x (omega arith)

pub rows_other : (xs : List ObjectItems) (o : ℕ) (x : ObjectItems) (q : ℕ) → (q ≡ o → ⊥) → rows_of (set xs o x) q ≡ rows_of xs q
rows_other [] o x q ne = refl
rows_other (y ∷ ys) zero x zero ne = absurd (ne refl)
rows_other (y ∷ ys) zero x (suc q) ne = refl
rows_other (y ∷ ys) (suc o) x zero ne = refl
rows_other (y ∷ ys) (suc o) x (suc q) ne = rows_other ys o x q (λ e. ne (omega arith))

pub rows_getD : (xs : List ObjectItems) (o : ℕ) (d : ObjectItems) → o < length xs → rows_of xs o ≡ (get_or xs o d).rows
rows_getD [] o d lt = absurd (omega arith)
rows_getD (y ∷ ys) zero d lt = refl
rows_getD (y ∷ ys) (suc o) d lt = rows_getD ys o d (omega arith)

-- the items that are found in the array
pub rows_found : {X : Type 0} (now : X → ObjectItems) (xs : List ObjectItems) (k o : ℕ) (r : Option X) → k ≡ o → MatchOption r (length xs ≤ k) (λ x. (k < length xs) × HoldsAt (λ y. now x ≡ y) xs k) → IfSome r (λ x. (now x).rows ≡ rows_of xs o)
rows_found now xs k o None e h = tt
rows_found now xs k o (Some x) e h = ap (λ (y : ObjectItems). y.rows) (h.1 (now x)) ∙ sym (rows_getD xs k (now x) h.0) ∙ ap (rows_of xs) e

pub items_kept : (xs : List ObjectItems) (o : ℕ) → Kept five (items_at xs o)
items_kept [] o = record {
  single = λ a b _ _ up _ _. absurd (both_ways (row_in_use empty_row) none_used (use_is [] a ∙ up));
  bounded = λ i _ _. omega arith;
  allowed = items_allowed [];
}
items_kept (x ∷ xs) zero = rows_kept x.rows x.ranged x.single
items_kept (x ∷ xs) (suc o) = items_kept xs o

-- a table whose rows are all empty
rows_empty : (n o : ℕ) (x : ObjectItems) (i : ℕ) → x.rows ≡ replicate 16 empty_row → row_at (rows_of (replicate n x) o) i ≡ empty_row
rows_empty zero o x i e = refl
rows_empty (suc n) zero x i e = ap (λ (rows : List Row). row_at rows i) e ∙ replicate_at empty_row 16 i
rows_empty (suc n) (suc o) x i e = rows_empty n o x i e

cell_empty : (n : ℕ) (x : ObjectItems) → x.rows ≡ replicate 16 empty_row → (o g e k : ℕ) → numbered five (items_at (replicate n x)) o g e k ≡ unassigned five
unfolding numbered
cell_empty n x empty o g e k =
    cond_both (ltb o 32 && (ltb g 128 && ltb e 128)) (held five (items_at (replicate n x) o) 16 (pair_of g e) k) (unassigned five) (λ c. c ≡ unassigned five)
    (λ _. held_none five (items_at (replicate n x) o) 16 (pair_of g e) k
    (λ i li up own. both_ways (row_in_use (row_at (rows_of (replicate n x) o) i)) (ap row_in_use (rows_empty n o x i empty) ∙ none_used) (use_is (rows_of (replicate n x) o) i ∙ up)))
    (λ _. refl)

pub table_empty : (n : ℕ) (x : ObjectItems) → x.rows ≡ replicate 16 empty_row → table_cells (replicate n x) ≡ no_cells five
table_empty n x empty = fun_ext (λ p. cell_empty n x empty p.object (number p.granter) (number p.grantee) (bit p.privilege))

-- what the rows of object o tell is what the cells do
pub outside : (xs : List ObjectItems) → AnswersOutside five (table_cells xs)
outside xs = answers_outside_lem five five_lawful (table_cells xs) (cells_outside five five_lawful (items_at xs))

module _ (xs : List ObjectItems) (o : ℕ) (inside : object_in_range o ≡ true) (x : ObjectItems) (is : x.rows ≡ rows_of xs o) where
  below : o < 32
  below = ltb-true o 32 inside

  pub count_told : count_by row_in_use x.rows ≡ pairs (joining five) (table_cells xs) o
  count_told =
      rows_count x
      ∙ ap (λ (r : List Row). count_below 16 (item_in_use (joining five) (items_of r))) is
      ∙ sym (tell_pairs five five_lawful (items_at xs) o below (items_kept xs o))

  pub use_told : (g e : Principal) → (in_range g && in_range e) ≡ true → is_some (position (row_is_of (number g) (number e)) x.rows) ≡ in_use (joining five) (table_cells xs) o g e
  use_told g e both =
      let there = and_parts (in_range g) (in_range e) both in
      rows_used x (number g) (number e) (number_in e there.1)
      ∙ ap (λ (r : List Row). any_below 16 (is_item_of (joining five) (items_of r) (pair_of (number g) (number e)))) is
      ∙ sym (tell_used five five_lawful (items_at xs) o g e below there.0 there.1)

  module _ (e : Principal) (p : Privilege) (there : in_range e ≡ true) where
    pub option_told : list_any (row_option (number e) (bit p)) x.rows ≡ has_option (table_cells xs) o p e
    option_told =
        rows_option x (number e) (bit p)
        ∙ ap (λ (r : List Row). any_below 16 (option_in (joining five) (items_of r) (number e) (bit p))) is
        ∙ sym (tell_option five five_lawful (items_at xs) o p e below there (items_kept xs o))

    pub strongest_told : (t : Orientation) → rows_strongest (number e) (bit p) t x.rows ≡ strongest (joining five) (table_cells xs) o p e t
    strongest_told t =
        strongest_of x (number e) (bit p) t
        ∙ ap (λ (r : List Row). join_below (joining five) 16 (state_in (joining five) (items_of r) (number e) (bit p) t)) is
        ∙ sym (tell_strongest five five_lawful (items_at xs) o p e t below there (items_kept xs o))

-- the same of items that are found with a grantee's number
module _ (xs : List ObjectItems) (o : ℕ) (e : Principal) (p : Privilege) where
  pub option_found : (x : ObjectItems) (n : ℕ) → (object_in_range o && in_range e) ≡ true → x.rows ≡ rows_of xs o → n ≡ number e → list_any (row_option n (bit p)) x.rows ≡ has_option (table_cells xs) o p e
  option_found x n there is number_is =
      let both = and_parts (object_in_range o) (in_range e) there in
      ap (λ (n : ℕ). list_any (row_option n (bit p)) x.rows) number_is ∙ option_told xs o both.0 x is e p both.1

  pub strongest_found : (t : Orientation) (x : ObjectItems) (n : ℕ) → (object_in_range o && in_range e) ≡ true → x.rows ≡ rows_of xs o → n ≡ number e → rows_strongest n (bit p) t x.rows ≡ strongest (joining five) (table_cells xs) o p e t
  strongest_found t x n there is number_is =
      let both = and_parts (object_in_range o) (in_range e) there in
      ap (λ (n : ℕ). rows_strongest n (bit p) t x.rows) number_is ∙ strongest_told xs o both.0 x is e p both.1 t

pub pair_read : {g g' e e' : ℕ} → g ≡ g' → e ≡ e' → pair_of g e ≡ pair_of g' e'
pair_read {g} {g'} {e} {e'} p q = ap (λ (n : ℕ). pair_of n e) p ∙ ap (λ (n : ℕ). pair_of g' n) q

pub written_read : {a b a' b' : List Row} {l l' k k' : ℕ} {c : Cell FiveState} {r : Bool} → a ≡ a' → b ≡ b' → l ≡ l' → k ≡ k' → Written five (items_of a) (items_of b) l k c r → Written five (items_of a') (items_of b') l' k' c r
written_read {a} {b} {a'} {b'} {l} {l'} {k} {k'} {c} {r} ea eb el ek w =
    subst (λ (n : ℕ). Written five (items_of a') (items_of b') l' n c r) ek
    (subst (λ (n : ℕ). Written five (items_of a') (items_of b') n k c r) el
    (subst (λ (x : List Row). Written five (items_of a') (items_of x) l k c r) eb
    (subst (λ (x : List Row). Written five (items_of x) (items_of b) l k c r) ea w)))
