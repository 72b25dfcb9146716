-- The roles below a principal, found level by level from the top.
use Rattle.std.proofs.Common.{◌≡◌, ℕ, ◌+◌, ◌-◌, ◌<◌, ◌≤◌, Bool, true, false, ◌&&◌, ◌||◌, ◌⊎◌, List, [], ◌∷◌, ◌++◌, get_or, Some, None, Decides, Option, sym, refl, ap, ◌∙◌, subst, inl, inr, ⊎_elim, arith, ltb-true, lt-ltb, eq-eqb, eqb-true}
use borrow.Author.Tests.{clash}
use Rattle.std.specs.List.{list_any, range_with_len}
use Rattle.std.proofs.lemmas.List.Folds.{list_any-append, list_any_at, Any-from_list_any}
use Rattle.std.proofs.lemmas.List.FromFn.{length-range_with_len, get_or-range_with_len}
use Rattle.std.proofs.lemmas.Bool.{and_parts, and_from, or_cases, or_left, or_right, cases_lt}
use Rattle.model.specs.declared.principal.Principal.{Principal}
use Rattle.model.specs.declared.principal.Principal.TheVariants.{User, Role}
use Rattle.model.specs.Principals.{in_range}
use Rattle.model.specs.Graphs.{Chain, stay, via}
use Rattle.model.proofs.Chains.{first_link, joined, no_chain_to_user, smaller_less, smaller_right}
use Rattle.graphs.specs.Levels.{level_in, on_level, Low, Falling}
use Rattle.graphs.specs.Rows.{bit_at, row_of, in_rows, some_below, leads, Below}
use Rattle.graphs.proofs.RowTables.{row_parts, row_read}

-- the row of one role, or no row
pub row_leads : (levels : List (Option ℕ)) (rows : List ℕ) (set k n j x : ℕ) (t : Bool) → k < 64 → j < 64 → t ≡ (bit_at set k && on_level (level_in levels k) n) → bit_at x j ≡ (t && bit_at (get_or rows (64 + k) 0) j) → bit_at x j ≡ leads levels rows set n j k
unfolding leads
row_leads levels rows set k n j x t l m e h =
    h ∙ ap (λ b. b && bit_at (get_or rows (64 + k) 0) j) e ∙ ap (λ b. (bit_at set k && on_level (level_in levels k) n) && b) (row_read rows (Role k) j (lt-ltb k 64 l) m)

-- one role more in a union of rows
pub union_more : (levels : List (Option ℕ)) (rows : List ℕ) (set n a b x k j : ℕ) (ks : List ℕ) → bit_at b j ≡ (bit_at x j || bit_at a j) → bit_at x j ≡ leads levels rows set n j k
    → bit_at a j ≡ (list_any (leads levels rows set n j) ks || bit_at set j) → bit_at b j ≡ (list_any (leads levels rows set n j) (ks ++ k ∷ []) || bit_at set j)
union_more levels rows set n a b x k j ks g e h =
    let f = leads levels rows set n j in
    g ∙ ap (λ y. y || bit_at a j) e ∙ ap (λ y. f k || y) h ∙ turned (f k) (list_any f ks) (bit_at set j) ∙ ap (λ y. y || bit_at set j) (sym (list_any-append f ks (k ∷ [])))
  where
    turned : (a b c : Bool) → (a || (b || c)) ≡ ((b || (a || false)) || c)
    turned true true c = refl
    turned true false c = refl
    turned false true c = refl
    turned false false c = refl

level_found : (o : Option ℕ) (n : ℕ) → on_level o n ≡ true → o ≡ Some n
level_found None n e = absurd (clash e)
level_found (Some m) n e = ap Some (eqb-true m n e)

on_level_at : (o : Option ℕ) (n : ℕ) → o ≡ Some n → on_level o n ≡ true
on_level_at o n e = ap (λ x. on_level x n) e ∙ eq-eqb n n refl

leads_parts : (levels : List (Option ℕ)) (rows : List ℕ) (set n j k : ℕ) → leads levels rows set n j k ≡ true → (bit_at set k ≡ true) × (level_in levels k ≡ Some n) × (in_rows rows (Role k) j ≡ true)
unfolding leads
leads_parts levels rows set n j k e =
    let a = and_parts _ _ e in
    let b = and_parts _ _ a.0 in
    (b.0, level_found (level_in levels k) n b.1, a.1)

leads_from : (levels : List (Option ℕ)) (rows : List ℕ) (set n j k : ℕ) → bit_at set k ≡ true → level_in levels k ≡ Some n → in_rows rows (Role k) j ≡ true → leads levels rows set n j k ≡ true
unfolding leads
leads_from levels rows set n j k a b c = and_from _ _ (and_from _ _ a (on_level_at (level_in levels k) n b)) c

some_decided : (f : ℕ → Bool) (n : ℕ) → Decides (some_below f n) ((i : ℕ) × (i < n) × (f i ≡ true))
unfolding some_below
some_decided f n = (
  (λ e.
      let a = Any-from_list_any f (range_with_len 0 n) e in
      let l : a.0 < n = omega (arith, a.2, length-range_with_len 0 n) in
      let q : a.0 ≡ a.1 = omega (arith, get_or-range_with_len 0 n a.0 a.1 l, a.3) in
      (a.0, l, ap f q ∙ a.4)),
  (λ i.
      let q : get_or (range_with_len 0 n) i.0 0 ≡ i.0 = omega (arith, get_or-range_with_len 0 n i.0 0 i.1) in
      list_any_at f (range_with_len 0 n) i.0 0 (omega (arith, i.1, length-range_with_len 0 n)) (ap f q ∙ i.2)),
)

-- what holds once the levels from `from` up are done: s is the set at first
pub record Found (levels : List (Option ℕ)) (rows : List ℕ) (s set from : ℕ) : Type 0 where
  pub base : (j : ℕ) → j < 64 → bit_at s j ≡ true → bit_at set j ≡ true
  pub sound : (k : ℕ) → k < 64 → bit_at set k ≡ true → (j : ℕ) × (j < 64) × (bit_at s j ≡ true) × Chain (in_rows rows) (Role j) (Role k)
  pub closed : (k n j : ℕ) → level_in levels k ≡ Some n → from ≤ n → k < 64 → bit_at set k ≡ true → in_rows rows (Role k) j ≡ true → bit_at set j ≡ true

pub found_none : (levels : List (Option ℕ)) (rows : List ℕ) (s : ℕ) → Low levels → Found levels rows s s 8
found_none levels rows s low = record {
  base = λ j l b. b;
  sound = λ k l b. (k, l, b, stay (Role k));
  closed = λ k n j e g l b h. absurd (omega (arith, low k n e));
}

pub found_more : (levels : List (Option ℕ)) (rows : List ℕ) (s set from out : ℕ) → Falling levels (in_rows rows) → 0 < from
    → ((j : ℕ) → j < 64 → bit_at out j ≡ (some_below (leads levels rows set (from - 1) j) 64 || bit_at set j)) → Found levels rows s set from → Found levels rows s out (from - 1)
found_more levels rows s set from out fall lf e h = record {
  base = λ j l b. kept j l (h.base j l b);
  sound = λ k l b.
      ⊎_elim
      (λ (o : (i : ℕ) × (i < 64) × (leads levels rows set (from - 1) k i ≡ true)).
      let p = leads_parts levels rows set (from - 1) k o.0 o.2 in
      let w = h.sound o.0 o.1 p.0 in
      (w.0, w.1, w.2, joined w.3 (via (Role o.0) (Role k) k p.2 (stay (Role k)))))
      (λ (o : bit_at set k ≡ true). h.sound k l o)
      (origin k l b);
  closed = λ k n j lv g l b r.
      let lj : j < 64 = (row_parts rows (Role k) j r).1 in
      let old : bit_at set k ≡ true =
      ⊎_elim
      (λ (o : (i : ℕ) × (i < 64) × (leads levels rows set (from - 1) k i ≡ true)).
      let p = leads_parts levels rows set (from - 1) k o.0 o.2 in
      let m : n < from - 1 = smaller_less (level_in levels k) (level_in levels o.0) n (from - 1) (fall (Role o.0) k p.2) lv p.1 in
      let z : ⊥ = omega arith in absurd z)
      (λ (o : bit_at set k ≡ true). o)
      (origin k l b) in
      ⊎_elim
      (λ (q : n < from).
      let m : n ≡ from - 1 = omega arith in
      got j lj k l (leads_from levels rows set (from - 1) j k old (lv ∙ ap Some m) r))
      (λ (q : from ≤ n). kept j lj (h.closed k n j lv q l old r))
      (cases_lt n from);
}
  where
    kept : (j : ℕ) → j < 64 → bit_at set j ≡ true → bit_at out j ≡ true
    kept j l b = e j l ∙ or_right _ _ b

    got : (j : ℕ) → j < 64 → (k : ℕ) → k < 64 → leads levels rows set (from - 1) j k ≡ true → bit_at out j ≡ true
    got j l k m b =
        e j l ∙ or_left _ _ ((some_decided (leads levels rows set (from - 1) j) 64).1 (k, m, b))

    origin : (j : ℕ) → j < 64 → bit_at out j ≡ true → ((i : ℕ) × (i < 64) × (leads levels rows set (from - 1) j i ≡ true)) ⊎ (bit_at set j ≡ true)
    origin j l b =
        ⊎_elim
        (λ (o : some_below (leads levels rows set (from - 1) j) 64 ≡ true).
        inl ((some_decided (leads levels rows set (from - 1) j) 64).0 o))
        (λ (o : bit_at set j ≡ true). inr o)
        (or_cases _ _ (sym (e j l) ∙ b))

along : (levels : List (Option ℕ)) (rows : List ℕ) (s set : ℕ) → Falling levels (in_rows rows) → Found levels rows s set 0 → {a b : Principal} → Chain (in_rows rows) a b → (j k : ℕ) → a ≡ Role j → b ≡ Role k → j < 64 → bit_at set j ≡ true → bit_at set k ≡ true
along levels rows s set fall h (stay a) j k p q l b = let e : j ≡ k = cc in ap (λ i. bit_at set i) (sym e) ∙ b
along levels rows s set fall h (via a c r e ch) j k p q l b =
    let x : in_rows rows (Role j) r ≡ true = ap (λ y. in_rows rows y r) (sym p) ∙ e in
    let u = smaller_right (level_in levels r) (level_in levels j) (fall (Role j) r x) in
    along levels rows s set fall h ch r k refl q (row_parts rows (Role j) r x).1 (h.closed j u.0 r u.1 (omega arith) l b x)

pub all_sound : (levels : List (Option ℕ)) (rows : List ℕ) (a : Principal) (set : ℕ) → in_range a ≡ true → Found levels rows (get_or rows (row_of a) 0) set 0 → (k : ℕ) → k < 64 → bit_at set k ≡ true → Below (in_rows rows) a k
all_sound levels rows a set w h k l b =
    let t = h.sound k l b in
    (t.0, sym (row_read rows a t.0 w t.1) ∙ t.2, t.3)

pub all_complete : (levels : List (Option ℕ)) (rows : List ℕ) (a : Principal) (set : ℕ) → Falling levels (in_rows rows) → Found levels rows (get_or rows (row_of a) 0) set 0 → (k : ℕ) → Below (in_rows rows) a k → bit_at set k ≡ true
all_complete levels rows a set fall h k u =
    let t = row_parts rows a u.0 u.1 in
    along levels rows _ set fall h u.2 u.0 k refl refl t.1 (h.base u.0 t.1 t.2)

-- a chain between two that differ
chain_below : (rows : List ℕ) (a : Principal) (k : ℕ) → (a ≡ Role k → ⊥) → Chain (in_rows rows) a (Role k) → Below (in_rows rows) a k
chain_below rows a k ne ch = ⊎_elim (λ (e : a ≡ Role k). absurd (ne e)) (λ (u : Below (in_rows rows) a k). u) (first_link ch)

pub role_sound : (rows : List ℕ) (a b : Principal) (k x : ℕ) (o : Bool) → in_range b ≡ true → b ≡ Role k → o ≡ bit_at x k → ((i : ℕ) → i < 64 → bit_at x i ≡ true → Below (in_rows rows) a i) → o ≡ true → Chain (in_rows rows) a b
role_sound rows a b k x o w e q h t =
    let u = h k (ltb-true k 64 (sym (ap in_range e) ∙ w)) (sym q ∙ t) in
    let P : Principal → Type 0 = λ y. Chain (in_rows rows) a y in
    subst P (sym e) (via a (Role k) u.0 u.1 u.2)

pub role_complete : (rows : List ℕ) (a b : Principal) (k x : ℕ) (o : Bool) → (a ≡ b → ⊥) → b ≡ Role k → o ≡ bit_at x k → ((i : ℕ) → Below (in_rows rows) a i → bit_at x i ≡ true) → Chain (in_rows rows) a b → o ≡ true
role_complete rows a b k x o ne e q h ch =
    let P : Principal → Type 0 = λ y. Chain (in_rows rows) a y in
    q ∙ h k (chain_below rows a k (λ z. ne (z ∙ sym e)) (subst P e ch))

pub user_none : (rows : List ℕ) (a b : Principal) (i : ℕ) → (a ≡ b → ⊥) → b ≡ User i → Chain (in_rows rows) a b → ⊥
user_none rows a b i ne e ch =
    let P : Principal → Type 0 = λ y. Chain (in_rows rows) a y in
    no_chain_to_user a i (λ z. ne (z ∙ sym e)) (subst P e ch)
