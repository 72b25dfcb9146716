-- What a change of one row does to the links that the rows hold.
use Rattle.std.proofs.Common.{◌≡◌, ℕ, ◌<◌, Bool, true, false, cond, not, ◌&&◌, ◌||◌, eqb, ltb, ◌≢◌, List, length, get_or, set, sym, refl, ap, ◌∙◌, ⊎_elim, arith, get_or-set_other, get_or-set_same, ltb-true, lt-ltb, eqb-true}
use mathlib.Core.Path.{fun_ext}
use borrow.Author.Tests.{both_ways}
use Rattle.std.proofs.lemmas.Bool.{cases_Bool, and_parts, and_from}
use Rattle.model.specs.declared.principal.Principal.{Principal}
use Rattle.model.specs.declared.principal.Principal.TheVariants.{User, Role}
use Rattle.model.specs.Principals.{in_range}
use Rattle.model.specs.Graphs.{same_link}
use Rattle.model.specs.Places.{same_principal}
use Rattle.model.proofs.Numbering.{principal_same, same_principals}
use Rattle.model.specs.Graphs.{takes_link, with_link, without_link}
use Rattle.model.proofs.SoundGraphs.{link_taken}
use Rattle.graphs.specs.declared.bit_rows.BitRows.{BitRows}
use Rattle.graphs.specs.Meanings.{rows_graph, rows_sound}
use Rattle.graphs.specs.Rows.{bit_at, row_of, in_rows}

row_in_table : (p : Principal) → in_range p ≡ true → row_of p < 128
row_in_table (User i) w = omega (arith, ltb-true i 64 w)
row_in_table (Role i) w = omega (arith, ltb-true i 64 w)

row_same : (p q : Principal) → in_range p ≡ true → in_range q ≡ true → row_of p ≡ row_of q → p ≡ q
row_same (User i) (User j) w v e = ap User e
row_same (User i) (Role j) w v e = absurd (omega (arith, ltb-true i 64 w))
row_same (Role i) (User j) w v e = absurd (omega (arith, ltb-true j 64 v))
row_same (Role i) (Role j) w v e = ap Role (omega arith)

-- a row written
changed : (rows : List ℕ) (u p : Principal) (k x : ℕ) → length rows ≡ 128 → in_range u ≡ true
    → in_rows (set rows (row_of u) x) p k ≡ cond (same_principal u p) ((in_range p && ltb k 64) && bit_at x k) (in_rows rows p k)
unfolding in_rows
changed rows u p k x s w =
    ⊎_elim
    (λ (q : same_principal u p ≡ true).
    let e : u ≡ p = principal_same u p q in
    let l : row_of u < length rows = omega (arith, row_in_table u w) in
    ap (λ y. (in_range p && ltb k 64) && bit_at y k) (ap (λ y. get_or (set rows (row_of u) x) (row_of y) 0) (sym e) ∙ get_or-set_same rows (row_of u) x 0 l)
    ∙ ap (λ b. cond b ((in_range p && ltb k 64) && bit_at x k) ((in_range p && ltb k 64) && bit_at (get_or rows (row_of p) 0) k)) (sym q))
    (λ (q : same_principal u p ≡ false).
    ⊎_elim
    (λ (v : in_range p ≡ true).
    let ne : row_of p ≢ row_of u = λ z. both_ways _ q (same_principals u p (row_same u p w v (sym z))) in
    ap (λ y. (in_range p && ltb k 64) && bit_at y k) (get_or-set_other rows (row_of u) (row_of p) x 0 ne)
    ∙ ap (λ b. cond b ((in_range p && ltb k 64) && bit_at x k) ((in_range p && ltb k 64) && bit_at (get_or rows (row_of p) 0) k)) (sym q))
    (λ (v : in_range p ≡ false).
    ap (λ b. (b && ltb k 64) && bit_at (get_or (set rows (row_of u) x) (row_of p) 0) k) v
    ∙ sym (ap (λ b. (b && ltb k 64) && bit_at (get_or rows (row_of p) 0) k) v)
    ∙ ap (λ b. cond b ((in_range p && ltb k 64) && bit_at x k) ((in_range p && ltb k 64) && bit_at (get_or rows (row_of p) 0) k)) (sym q))
    (cases_Bool (in_range p)))
    (cases_Bool (same_principal u p))

-- one bit more in the row of u
more : (w l e b : Bool) → (e ≡ true → (w && l) ≡ true) → ((w && l) && (e || b)) ≡ (e || ((w && l) && b))
more w l true b h = ap (λ x. x && true) (h refl)
more w l false b h = refl

rows_with : (rows : List ℕ) (u : Principal) (r x : ℕ) → length rows ≡ 128 → in_range u ≡ true → r < 64 → ((j : ℕ) → bit_at x j ≡ (eqb r j || bit_at (get_or rows (row_of u) 0) j))
    → in_rows (set rows (row_of u) x) ≡ (λ p k. same_link u r p k || in_rows rows p k)
unfolding in_rows
rows_with rows u r x s w l h = fun_ext (λ p. fun_ext (λ k. changed rows u p k x s w ∙ at_case p k (same_principal u p) refl))
  where
    at_case : (p : Principal) (k : ℕ) (b : Bool) → same_principal u p ≡ b → cond b ((in_range p && ltb k 64) && bit_at x k) (in_rows rows p k) ≡ ((b && eqb r k) || in_rows rows p k)
    at_case p k true q =
        let e : u ≡ p = principal_same u p q in
        ap (λ y. (in_range p && ltb k 64) && y) (h k ∙ ap (λ y. eqb r k || bit_at (get_or rows (row_of y) 0) k) e)
        ∙ more (in_range p) (ltb k 64) (eqb r k) (bit_at (get_or rows (row_of p) 0) k) (λ z. and_from _ _ (ap in_range (sym e) ∙ w) (lt-ltb k 64 (omega (arith, eqb-true r k z))))
    at_case p k false q = refl

-- one bit less
less : (w e b c : Bool) → (w ≡ true → c ≡ (not e && b)) → (w && c) ≡ (not e && (w && b))
less true e b c h = h refl
less false true b c h = refl
less false false b c h = refl

rows_without : (rows : List ℕ) (u : Principal) (r x : ℕ) → length rows ≡ 128 → in_range u ≡ true → ((j : ℕ) → j < 64 → bit_at x j ≡ (not (eqb r j) && bit_at (get_or rows (row_of u) 0) j))
    → in_rows (set rows (row_of u) x) ≡ (λ p k. not (same_link u r p k) && in_rows rows p k)
unfolding in_rows
rows_without rows u r x s w h = fun_ext (λ p. fun_ext (λ k. changed rows u p k x s w ∙ at_case p k (same_principal u p) refl))
  where
    at_case : (p : Principal) (k : ℕ) (b : Bool) → same_principal u p ≡ b → cond b ((in_range p && ltb k 64) && bit_at x k) (in_rows rows p k) ≡ (not (b && eqb r k) && in_rows rows p k)
    at_case p k true q =
        let e : u ≡ p = principal_same u p q in
        less (in_range p && ltb k 64) (eqb r k) (bit_at (get_or rows (row_of p) 0) k) (bit_at x k)
        (λ z. h k (ltb-true k 64 (and_parts _ _ z).1) ∙ ap (λ y. not (eqb r k) && bit_at (get_or rows (row_of y) 0) k) e)
    at_case p k false q = refl

-- a bit read
pub row_read : (rows : List ℕ) (p : Principal) (k : ℕ) → in_range p ≡ true → k < 64 → bit_at (get_or rows (row_of p) 0) k ≡ in_rows rows p k
unfolding in_rows
row_read rows p k w l = sym (ap (λ b. b && bit_at (get_or rows (row_of p) 0) k) (and_from _ _ w (lt-ltb k 64 l)))

pub row_parts : (rows : List ℕ) (p : Principal) (k : ℕ) → in_rows rows p k ≡ true → (in_range p ≡ true) × (k < 64) × (bit_at (get_or rows (row_of p) 0) k ≡ true)
unfolding in_rows
row_parts rows p k e =
    let a = and_parts _ _ e in
    let b = and_parts _ _ a.0 in
    (b.0, ltb-true k 64 b.1, a.1)

pub in_table : (p : Principal) (k : ℕ) → (in_range p && ltb k 64) ≡ true → (in_range p ≡ true) × (k < 64)
in_table p k e = let a = and_parts _ _ e in (a.0, ltb-true k 64 a.1)

-- the rows after a link is put, and after one is taken out
pub rows_put : (s : BitRows) (u : Principal) (r i x y : ℕ) → takes_link true (rows_graph s) u r ≡ true → i ≡ row_of u → y ≡ get_or s.rows (row_of u) 0 → ((j : ℕ) → bit_at x j ≡ (eqb r j || bit_at y j))
    → in_rows (set s.rows i x) ≡ (with_link (rows_graph s) u r).linked
rows_put s u r i x y t e f h =
    let k = link_taken true (rows_graph s) u r (rows_sound s) t in
    ap (λ n. in_rows (set s.rows n x)) e ∙ rows_with s.rows u r x s.wide k.upper k.lower (λ j. h j ∙ ap (λ z. eqb r j || bit_at z j) f)

pub rows_taken_out : (s : BitRows) (u : Principal) (r i x y : ℕ) → in_rows s.rows u r ≡ true → i ≡ row_of u → y ≡ get_or s.rows (row_of u) 0 → ((j : ℕ) → j < 64 → bit_at x j ≡ (not (eqb r j) && bit_at y j))
    → in_rows (set s.rows i x) ≡ (without_link (rows_graph s) u r).linked
rows_taken_out s u r i x y t e f h =
    let k = row_parts s.rows u r t in
    ap (λ n. in_rows (set s.rows n x)) e ∙ rows_without s.rows u r x s.wide k.0 (λ j l. h j l ∙ ap (λ z. not (eqb r j) && bit_at z j) f)
