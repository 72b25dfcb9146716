-- How the number of links changes with one link more or less.
use Rattle.std.proofs.Common.{◌≡◌, ℕ, zero, suc, ◌+◌, ◌<◌, Bool, true, false, not, ◌&&◌, ◌||◌, eqb, ◌≢◌, sym, refl, ap, ◌∙◌, ⊎_elim, arith, ltb-true, eq-eqb, ne_eqb, eqb-true, rules}
use mathlib.Core.Path.{fun_ext}
use Rattle.std.proofs.lemmas.Bool.{cases_eq, and_parts, and_from}
use Rattle.model.specs.declared.principal.Principal.{Principal}
use Rattle.model.specs.declared.principal.Principal.TheVariants.{User, Role}
use Rattle.model.specs.Principals.{in_range}
use Rattle.model.specs.Folds.{one_if}
use Rattle.model.specs.LinkCount.{sum_below, links_from, link_count}
use Rattle.model.specs.Graphs.{same_link}
use Rattle.model.specs.Places.{same_principal}
use Rattle.model.proofs.Chains.{same_self}
use Rattle.model.proofs.Numbering.{principal_same}

-- f and g agree below n
sum_same : (f g : ℕ → ℕ) (n : ℕ) → ((k : ℕ) → k < n → g k ≡ f k) → sum_below g n ≡ sum_below f n
unfolding sum_below
sum_same f g zero h = refl
sum_same f g (suc n) h =
    let a : g n ≡ f n = h n (omega arith) in
    let b : sum_below g n ≡ sum_below f n = sum_same f g n (λ k l. h k (omega arith)) in
    omega arith

-- g is one more than f at c, and agrees with f elsewhere
sum_more : (f g : ℕ → ℕ) (c n : ℕ) → c < n → g c ≡ 1 + f c → ((k : ℕ) → k ≢ c → g k ≡ f k) → sum_below g n ≡ 1 + sum_below f n
unfolding sum_below
sum_more f g c zero l e h = absurd (omega arith)
sum_more f g c (suc n) l e h =
    ⊎_elim
    (λ (q : c ≡ n).
    let a : g n ≡ 1 + f n = ap g (sym q) ∙ e ∙ ap (λ x. 1 + f x) q in
    let b : sum_below g n ≡ sum_below f n = sum_same f g n (λ k l'. h k (λ z. omega arith)) in
    let d : g n + sum_below g n ≡ 1 + (f n + sum_below f n) = omega arith in d)
    (λ (q : c ≡ n → ⊥).
    let l' : c < n = omega (arith, q) in
    let a : g n ≡ f n = h n (λ z. q (sym z)) in
    let b : sum_below g n ≡ 1 + sum_below f n = sum_more f g c n l' e h in
    let d : g n + sum_below g n ≡ 1 + (f n + sum_below f n) = omega arith in d)
    (cases_eq c n)

one_more : (b : Bool) → b ≡ false → one_if true ≡ 1 + one_if b
one_more b e = cc

from_more : (linked : Principal → ℕ → Bool) (p : Principal) (r : ℕ) → r < 64 → linked p r ≡ false → same_principal p p ≡ true → links_from (λ q k. same_link p r q k || linked q k) p ≡ 1 + links_from linked p
from_more linked p r l e s =
    sum_more (λ k. one_if (linked p k)) (λ k. one_if ((same_principal p p && eqb r k) || linked p k)) r 64 l
    (ap (λ x. one_if ((x && eqb r r) || linked p r)) s ∙ ap (λ x. one_if (x || linked p r)) (eq-eqb r r refl) ∙ one_more (linked p r) e)
    (λ k ne. ap (λ x. one_if ((x && eqb r k) || linked p k)) s ∙ ap (λ x. one_if (x || linked p k)) (ne_eqb r k (λ z. ne (sym z))))

from_same : (linked : Principal → ℕ → Bool) (u p : Principal) (r : ℕ) → same_principal u p ≡ false → links_from (λ q k. same_link u r q k || linked q k) p ≡ links_from linked p
from_same linked u p r e = search rules

-- one link more
pub count_more : (linked : Principal → ℕ → Bool) (u : Principal) (r : ℕ) → in_range u ≡ true → r < 64 → linked u r ≡ false → link_count (λ q k. same_link u r q k || linked q k) ≡ 1 + link_count linked
count_more linked (User n) r w l e =
    let a = sum_more (λ j. links_from linked (User j)) (λ j. links_from (λ q k. same_link (User n) r q k || linked q k) (User j)) n 64 (ltb-true n 64 w)
    (from_more linked (User n) r l e (eq-eqb n n refl))
    (λ j ne. from_same linked (User n) (User j) r (ne_eqb n j (λ z. ne (sym z)))) in
    let b = sum_same (λ j. links_from linked (Role j)) (λ j. links_from (λ q k. same_link (User n) r q k || linked q k) (Role j)) 64 (λ j _. from_same linked (User n) (Role j) r refl) in
    omega (arith, a, b)
count_more linked (Role n) r w l e =
    let a = sum_more (λ j. links_from linked (Role j)) (λ j. links_from (λ q k. same_link (Role n) r q k || linked q k) (Role j)) n 64 (ltb-true n 64 w)
    (from_more linked (Role n) r l e (eq-eqb n n refl))
    (λ j ne. from_same linked (Role n) (Role j) r (ne_eqb n j (λ z. ne (sym z)))) in
    let b = sum_same (λ j. links_from linked (User j)) (λ j. links_from (λ q k. same_link (Role n) r q k || linked q k) (User j)) 64 (λ j _. from_same linked (Role n) (User j) r refl) in
    omega (arith, a, b)

sum_none : (n : ℕ) → sum_below (λ _. 0) n ≡ 0
unfolding sum_below
sum_none zero = refl
sum_none (suc n) = let a : sum_below (λ _. 0) n ≡ 0 = sum_none n in omega arith

pub count_none : link_count (λ _ _. false) ≡ 0
count_none =
    let rows : sum_below (λ _. sum_below (λ _. 0) 64) 64 ≡ 0 = ap (λ x. sum_below (λ _. x) 64) (sum_none 64) ∙ sum_none 64 in
    omega arith

put_back : (b c : Bool) → (b ≡ true → c ≡ true) → (b || (not b && c)) ≡ c
put_back true c h = sym (h refl)
put_back false c h = refl

-- one link less
pub count_less : (linked : Principal → ℕ → Bool) (u : Principal) (r : ℕ) → in_range u ≡ true → r < 64 → linked u r ≡ true → link_count linked ≡ 1 + link_count (λ q k. not (same_link u r q k) && linked q k)
count_less linked u r w l e =
    ap link_count (sym (fun_ext (λ p. fun_ext (λ k. put_back (same_link u r p k) (linked p k) (λ h. there p k h)))))
    ∙ count_more (λ q k. not (same_link u r q k) && linked q k) u r w l (ap (λ b. not b && linked u r) (and_from _ _ (same_self u) (eq-eqb r r refl)))
  where
    there : (p : Principal) (k : ℕ) → same_link u r p k ≡ true → linked p k ≡ true
    there p k h =
        let a = and_parts _ _ h in
        ap (λ x. linked x k) (sym (principal_same u p a.0)) ∙ ap (λ x. linked u x) (sym (eqb-true r k a.1)) ∙ e
