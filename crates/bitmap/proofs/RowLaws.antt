-- Sixteen rows as items, and one of them set.
use Rattle.std.proofs.Common.{◌≡◌, ℕ, ◌+◌, ◌%◌, ◌^◌, ◌<◌, Bool, true, false, cond, not, ◌&&◌, eqb, List, Option, Some, None, is_some, length, replicate, set, sym, refl, ap, ◌∙◌, subst, ⊎_elim, arith, get_or-set_other, get_or-set_same, rules}
use Rattle.std.specs.List.{list_any, count_by, position}
use native.Mathlib.Nat.{zero-div}
use Rattle.std.proofs.lemmas.Bool.{cases_eq, both_ways, cond_both, not-true, not-false}
use Rattle.std.proofs.lemmas.Bool.Decides.{nat_tests}
use Rattle.std.proofs.lemmas.List.{get_or-replicate}
use Rattle.std.proofs.lemmas.List.Quantifiers.{position-Some}
use Rattle.bits.specs.Bit.{bit}
use Rattle.scales.specs.declared.five.FiveState.{FiveState}
use Rattle.scales.specs.declared.five.FiveState.TheVariants.{Unassign}
use Rattle.scales.specs.Five.{five}
use Rattle.model.specs.States.{Lawful}
use Rattle.model.specs.Joining.{joining}
use Rattle.model.specs.Allowed.{Allowed}
use Rattle.model.specs.Folds.{count_below, any_below, join_below}
use Rattle.model.specs.Stores.{state_towards}
use Rattle.model.specs.declared.cell.Orientation.{Orientation}
use Rattle.model.specs.declared.cell.Cell.{Cell}
use Rattle.bitmap.specs.declared.row.Row.{Row}
use Rattle.bitmap.specs.declared.pair.Pair.{Pair}
use Rattle.bitmap.specs.declared.item.Item.{Item}
use Rattle.bitmap.specs.declared.object_items.ObjectItems.{ObjectItems}
use Rattle.model.specs.Privileges.{bit as bit_of}
use Rattle.model.specs.declared.privilege.Privilege.{Privilege}
use Rattle.model.proofs.Numbering.{bit_below}
use Rattle.bitmap.specs.Layout.{cell_at, code_at, option_at, decoded, decode, valid_by, valid_at, CellSet}
use Rattle.bitmap.specs.Items.{item_in_use, is_item_of, pair_of, option_in, state_in, Kept, RoomFor, ItemSet}
use Rattle.bitmap.specs.Tables.{empty_row, row_at, items_of, row_in_use, row_is_of, row_is_for, row_option, row_state, rows_strongest, EachValid, EachInRange, OnePerPair, Bit}
use Rattle.bitmap.proofs.Lists.{position-None, is_some-position, list_any_below, count_by_below, fold_below}
use Rattle.bitmap.proofs.Held.{Asked, set_kept}
use Rattle.bitmap.proofs.Writing.{pair_below}

pub five_lawful : Lawful five
five_lawful = search rules

pub use_is : (rows : List Row) (i : ℕ) → row_in_use (row_at rows i) ≡ item_in_use (joining five) (items_of rows) i
unfolding item_in_use row_in_use
use_is rows i = refl

-- every cell that is read from bits is allowed
decode_allowed : (code : ℕ) (o : Bool) → Allowed five (decode code o)
decode_allowed code o =
    let P : Option (FiveState × Orientation) → Type 0 = λ m. Allowed five (decoded m o) in
    cond_both (eqb code 0b00000) _ _ P (λ _. search rules)
    (λ _. cond_both (eqb code 0b10000) _ _ P (λ _. search rules)
    (λ _. cond_both (eqb code 0b01000) _ _ P (λ _. search rules)
    (λ _. cond_both (eqb code 0b00100) _ _ P (λ _. search rules)
    (λ _. cond_both (eqb code 0b00010) _ _ P (λ _. search rules)
    (λ _. cond_both (eqb code 0b01001) _ _ P (λ _. search rules)
    (λ _. cond_both (eqb code 0b00101) _ _ P (λ _. search rules)
    (λ _. cond_both (eqb code 0b00011) _ _ P (λ _. search rules) (λ _. search rules))))))))

pub items_allowed : (rows : List Row) (i k : ℕ) → Allowed five ((items_of rows).cell i k)
items_allowed rows i k = decode_allowed (code_at (row_at rows i) k) (option_at (row_at rows i) k)

pub rows_kept : (rows : List Row) → EachInRange rows → OnePerPair rows → Kept five (items_of rows)
rows_kept rows ranged single = record {
  single = λ a b la lb ua ub e. single a b (record { first = la; second = lb; first_used = ua; second_used = ub; same = e });
  bounded = λ i li _. pair_below (row_at rows i).granter (row_at rows i).grantee (ranged i li).0 (ranged i li).1;
  allowed = items_allowed rows;
}

-- row i is set to an item of the pair p, whose cell k alone differs, and is c
pub record RowSet (rows : List Row) (i : ℕ) (x : Item) (p : Pair) (k : ℕ) (c : Cell FiveState) : Type 0 where
  pub length : length rows ≡ 16
  pub inside : i < 16
  pub low : k < 8
  pub granter : x.row.granter ≡ p.granter
  pub grantee : x.row.grantee ≡ p.grantee
  pub cells : CellSet (row_at rows i) x.row k c

-- the row that an item is made of, with a cell set, and given to the pair
pub set_as : {r n : Row} (rows : List Row) (i : ℕ) (x : Item) (p : Pair) (q : Privilege) (c : Cell FiveState) → length rows ≡ 16 → i < 16 → r ≡ row_at rows i → CellSet r n (bit_of q) c → x.row ≡ record n { granter = p.granter; grantee = p.grantee } → RowSet rows i x p (bit_of q) c
set_as {r} {n} rows i x p q c sixteen inside from set is = record {
  length = sixteen;
  inside = inside;
  low = bit_below q;
  granter = ap (λ (w : Row). w.granter) is;
  grantee = ap (λ (w : Row). w.grantee) is;
  cells =
      subst (λ (w : Row). CellSet w x.row (bit_of q) c) from
      (subst (λ (w : Row). CellSet r w (bit_of q) c) (sym is) (record { here = set.here; others = set.others }));
}

module _ {rows : List Row} {i : ℕ} {x : Item} {p : Pair} {k : ℕ} {c : Cell FiveState} (b : RowSet rows i x p k c) where
  row_same : row_at (set rows i x.row) i ≡ x.row
  row_same = get_or-set_same rows i x.row empty_row (omega (arith, b.length, b.inside))

  row_other : (a : ℕ) → (a ≡ i → ⊥) → row_at (set rows i x.row) a ≡ row_at rows a
  row_other a ne = get_or-set_other rows i a x.row empty_row ne

  -- what every row has, and the new one has, every row has
  each_kept : (P : ℕ → Row → Type 0) → ((a : ℕ) → P a (row_at rows a)) → ((a : ℕ) → P a x.row) → (a : ℕ) → P a (row_at (set rows i x.row) a)
  each_kept P all new a =
      ⊎_elim
      (λ e. subst (P a) (sym (ap (row_at (set rows i x.row)) e ∙ row_same)) (new a))
      (λ ne. subst (P a) (sym (row_other a ne)) (all a))
      (cases_eq a i)

  pub row_item_set : ItemSet (items_of rows) (items_of (set rows i x.row)) i (pair_of p.granter p.grantee) k c
  row_item_set = record {
    pair_here = ap (λ (r : Row). pair_of r.granter r.grantee) row_same ∙ ap (λ (g : ℕ). pair_of g x.row.grantee) b.granter ∙ ap (λ (e : ℕ). pair_of p.granter e) b.grantee;
    cell_here = ap (λ (r : Row). cell_at r k) row_same ∙ b.cells.here;
    cells_kept = λ q lq ne. ap (λ (r : Row). cell_at r q) row_same ∙ b.cells.others q lq ne;
    pairs_kept = λ a la ne. ap (λ (r : Row). pair_of r.granter r.grantee) (row_other a ne);
    items_kept = λ a q la lq ne. ap (λ (r : Row). cell_at r q) (row_other a ne);
  }

  pub set_each : EachValid rows → EachValid (set rows i x.row)
  set_each all a q at = each_kept (λ a r. Bit a q → valid_at r q ≡ true) (λ a. all a q) (λ a at. x.valid q at.place) a at

  pub set_ranged : EachInRange rows → EachInRange (set rows i x.row)
  set_ranged all = each_kept (λ a r. a < 16 → (r.granter < 128) × (r.grantee < 128)) all (λ a _. (omega (arith, b.granter, p.gives), omega (arith, b.grantee, p.gets)))

  pub set_single : EachInRange rows → OnePerPair rows → RoomFor (joining five) (items_of rows) i (pair_of p.granter p.grantee) → OnePerPair (set rows i x.row)
  set_single ranged single room a d both =
      let w : Asked five (items_of rows) (pair_of p.granter p.grantee) k = record { kept = rows_kept rows ranged single; pair = pair_below p.granter p.grantee p.gives p.gets; privilege = b.low } in
      (set_kept five five_lawful w b.inside (items_allowed (set rows i x.row)) room row_item_set).single a d both.first both.second both.first_used both.second_used both.same

-- a pair by its two numbers, and by the one number of both
pair_tests : (g e h f : ℕ) → e < 128 → f < 128 → (eqb g h && eqb e f) ≡ eqb (pair_of g e) (pair_of h f)
pair_tests g e h f le lf = grind (arith, nat_tests)

second_of : (g e : ℕ) → e < 128 → pair_of g e % 128 ≡ e
second_of g e lt = omega arith

-- what the sixteen rows of an object tell, said of its items
module _ (x : ObjectItems) where
  of_is : (g e i : ℕ) → e < 128 → i < 16 → row_is_of g e (row_at x.rows i) ≡ is_item_of (joining five) (items_of x.rows) (pair_of g e) i
  of_is g e i le lt =
      let r = row_at x.rows i in
      ap (λ (b : Bool). b && (eqb r.granter g && eqb r.grantee e)) (use_is x.rows i) ∙ ap (λ (b : Bool). item_in_use (joining five) (items_of x.rows) i && b) (pair_tests r.granter r.grantee g e (x.ranged i lt).1 le)

  for_is : (e i : ℕ) → i < 16 → row_is_for e (row_at x.rows i) ≡ (item_in_use (joining five) (items_of x.rows) i && eqb ((items_of x.rows).pair i % 128) e)
  for_is e i lt =
      let r = row_at x.rows i in
      ap (λ (b : Bool). b && eqb r.grantee e) (use_is x.rows i) ∙ ap (λ (n : ℕ). item_in_use (joining five) (items_of x.rows) i && eqb n e) (sym (second_of r.granter r.grantee (x.ranged i lt).1))

  pub rows_count : count_by row_in_use x.rows ≡ count_below 16 (item_in_use (joining five) (items_of x.rows))
  rows_count = count_by_below row_in_use x.rows empty_row 16 _ x.sixteen (λ i lt. use_is x.rows i)

  pub rows_option : (e k : ℕ) → list_any (row_option e k) x.rows ≡ any_below 16 (option_in (joining five) (items_of x.rows) e k)
  rows_option e k =
      list_any_below (row_option e k) x.rows empty_row 16 _ x.sixteen
      (λ i lt. ap (λ (b : Bool). cond b (cell_at (row_at x.rows i) k).option false) (for_is e i lt))

  pub strongest_of : (e k : ℕ) (t : Orientation) → rows_strongest e k t x.rows ≡ join_below (joining five) 16 (state_in (joining five) (items_of x.rows) e k t)
  strongest_of e k t =
      fold_below (joining five) (row_state e k t) x.rows empty_row 16 _ x.sixteen
      (λ i lt. ap (λ (b : Bool). cond b (state_towards (joining five) t (cell_at (row_at x.rows i) k)) Unassign) (for_is e i lt))

  pub rows_used : (g e : ℕ) → e < 128 → is_some (position (row_is_of g e) x.rows) ≡ any_below 16 (is_item_of (joining five) (items_of x.rows) (pair_of g e))
  rows_used g e le = is_some-position (row_is_of g e) x.rows empty_row 16 _ x.sixteen (λ i lt. of_is g e i le lt)

  pub asked : (p : Pair) (q : Privilege) → Asked five (items_of x.rows) (pair_of p.granter p.grantee) (bit_of q)
  asked p q = record { kept = rows_kept x.rows x.ranged x.single; pair = pair_below p.granter p.grantee p.gives p.gets; privilege = bit_below q }

  -- the item of a pair, or none
  pub pair_found : (p : Pair) (i : ℕ) → position (row_is_of p.granter p.grantee) x.rows ≡ Some i → (i < 16) × (is_item_of (joining five) (items_of x.rows) (pair_of p.granter p.grantee) i ≡ true)
  pair_found p i at =
      let w = position-Some (row_is_of p.granter p.grantee) x.rows i empty_row at in
      let lt : i < 16 = omega (arith, x.sixteen, w.0) in (lt, sym (of_is p.granter p.grantee i p.gets lt) ∙ w.1)

  pub pair_absent : (p : Pair) → position (row_is_of p.granter p.grantee) x.rows ≡ None → (i : ℕ) → i < 16 → is_item_of (joining five) (items_of x.rows) (pair_of p.granter p.grantee) i ≡ false
  pair_absent p none i lt = sym (of_is p.granter p.grantee i p.gets lt) ∙ position-None (row_is_of p.granter p.grantee) x.rows empty_row none i (omega (arith, x.sixteen))

  -- an item that is not in use, or none
  pub free_found : (i : ℕ) → position (λ row. not (row_in_use row)) x.rows ≡ Some i → (i < 16) × (item_in_use (joining five) (items_of x.rows) i ≡ false)
  free_found i at =
      let w = position-Some (λ row. not (row_in_use row)) x.rows i empty_row at in
      (omega (arith, x.sixteen, w.0), sym (use_is x.rows i) ∙ not-true _ w.1)

  pub none_free : position (λ row. not (row_in_use row)) x.rows ≡ None → (i : ℕ) → i < 16 → item_in_use (joining five) (items_of x.rows) i ≡ true
  none_free none i lt = sym (use_is x.rows i) ∙ not-false _ (position-None (λ row. not (row_in_use row)) x.rows empty_row none i (omega (arith, x.sixteen)))

-- rows that are all empty
pub none_used : row_in_use empty_row ≡ false
unfolding row_in_use any_below
none_used = refl

bit_zero : (k : ℕ) → bit 0 k ≡ 0
bit_zero k = ap (λ (n : ℕ). n % 2) (zero-div (2 ^ k))

zero_valid : (k : ℕ) → valid_by k 0 false ≡ true
zero_valid k = grind (arith, nat_tests)

empty_valid : (k : ℕ) → valid_at empty_row k ≡ true
empty_valid k =
    let z = bit_zero k in
    let code : code_at empty_row k ≡ 0 = omega arith in
    ap (λ (n : ℕ). valid_by k n (eqb (bit 0 (k + 16)) 1)) code ∙ ap (λ (n : ℕ). valid_by k 0 (eqb n 1)) (bit_zero (k + 16)) ∙ zero_valid k

all_empty : (i : ℕ) → i < 16 → row_at (replicate 16 empty_row) i ≡ empty_row
all_empty i lt = get_or-replicate 16 i empty_row empty_row lt

pub empty_each : EachValid (replicate 16 empty_row)
empty_each i k b = ap (λ (r : Row). valid_at r k) (all_empty i b.row) ∙ empty_valid k

pub empty_ranged : EachInRange (replicate 16 empty_row)
empty_ranged i lt = (subst (λ (r : Row). r.granter < 128) (sym (all_empty i lt)) (omega arith), subst (λ (r : Row). r.grantee < 128) (sym (all_empty i lt)) (omega arith))

pub empty_single : OnePerPair (replicate 16 empty_row)
empty_single a b both = absurd (both_ways (row_in_use (row_at (replicate 16 empty_row) a)) (ap row_in_use (all_empty a both.first) ∙ none_used) (use_is (replicate 16 empty_row) a ∙ both.first_used))
