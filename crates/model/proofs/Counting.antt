-- Counting and asking below a bound.
use Rattle.std.proofs.Common.{◌≡◌, ℕ, zero, suc, ◌+◌, ◌<◌, ◌≤◌, Bool, true, false, ◌&&◌, ◌||◌, eqb, sym, refl, ap, ◌∙◌, ⊎_elim, arith, rules}
use Rattle.std.proofs.lemmas.Bool.{cases_eq, cases_Bool, eq-eqb, ne_eqb, or_from, or_left, or_right, or_cases, and_left, and_right, and_from, both_ways}
use Rattle.model.specs.Folds.{one_if, count_below, any_below}

pub count_same : (n : ℕ) (p q : ℕ → Bool) → ((k : ℕ) → k < n → p k ≡ q k) → count_below n p ≡ count_below n q
unfolding count_below
count_same zero p q h = refl
count_same (suc n) p q h =
    let here : one_if (p n) ≡ one_if (q n) = ap one_if (h n (omega arith)) in
    let rest = count_same n p q (λ k lt. h k (omega arith)) in
    omega arith

-- one index flips
pub count_flip : (n a : ℕ) (p q : ℕ → Bool) → a < n → p a ≡ false → q a ≡ true → ((k : ℕ) → k < n → (k ≡ a → ⊥) → p k ≡ q k) → count_below n q ≡ count_below n p + 1
unfolding count_below
count_flip zero a p q lt pa qa h = absurd (omega arith)
count_flip (suc n) a p q lt pa qa h =
    ⊎_elim
    (λ e.
    let was : one_if (p n) ≡ 0 = ap (λ (k : ℕ). one_if (p k)) e ∙ ap one_if pa in
    let is : one_if (q n) ≡ 1 = ap (λ (k : ℕ). one_if (q k)) e ∙ ap one_if qa in
    let rest = count_same n p q (λ k below. h k (omega arith) (λ f. omega arith)) in
    omega arith)
    (λ ne.
    let here : one_if (p n) ≡ one_if (q n) = ap one_if (h n (omega arith) ne) in
    let rest = count_flip n a p q (omega arith) pa qa (λ k below. h k (omega arith)) in
    omega arith)
    (cases_eq n a)

pub any_none : (n : ℕ) (p : ℕ → Bool) → ((k : ℕ) → k < n → p k ≡ false) → any_below n p ≡ false
unfolding any_below
any_none zero p h = refl
any_none (suc n) p h = or_from (p n) (any_below n p) (h n (omega arith)) (any_none n p (λ k lt. h k (omega arith)))

pub any_some : (n k : ℕ) (p : ℕ → Bool) → k < n → p k ≡ true → any_below n p ≡ true
unfolding any_below
any_some zero k p lt e = absurd (omega arith)
any_some (suc n) k p lt e =
    ⊎_elim
    (λ f. or_left (p n) (any_below n p) (ap p (sym f) ∙ e))
    (λ ne. or_right (p n) (any_below n p) (any_some n k p (omega arith) e))
    (cases_eq k n)

pub any_same : (n : ℕ) (p q : ℕ → Bool) → ((k : ℕ) → k < n → p k ≡ q k) → any_below n p ≡ any_below n q
unfolding any_below
any_same zero p q h = refl
any_same (suc n) p q h = ap (λ (b : Bool). b || any_below n p) (h n (omega arith)) ∙ ap (λ (b : Bool). q n || b) (any_same n p q (λ k lt. h k (omega arith)))

-- where the answer is yes, an index that says so
pub any_witness : (n : ℕ) (p : ℕ → Bool) → any_below n p ≡ true → (k : ℕ) × (k < n) × (p k ≡ true)
unfolding any_below
any_witness zero p e = cc
any_witness (suc n) p e =
    ⊎_elim
    (λ here. (n, omega arith, here))
    (λ before. let w = any_witness n p before in (w.0, omega (arith, w.1), w.2))
    (or_cases (p n) (any_below n p) e)

pub count_none : (m : ℕ) → count_below m (λ k. false) ≡ 0
unfolding count_below
count_none zero = refl
count_none (suc m) = omega (arith, count_none m)

-- the numbers that live slots own are as many as the live slots
pub count_owned : (N n : ℕ) (own : ℕ → ℕ) (up : ℕ → Bool) → ((j : ℕ) → j < n → up j ≡ true → own j < N) → ((i j : ℕ) → i < n → j < n → up i ≡ true → up j ≡ true → own i ≡ own j → i ≡ j) → count_below N (λ k. any_below n (λ j. up j && eqb (own j) k)) ≡ count_below n up
unfolding count_below any_below
count_owned N zero own up bounded single = count_none N
count_owned N (suc n) own up bounded single =
    let before = count_owned N n own up (λ j lt. bounded j (omega arith)) (λ i j li lj. single i j (omega arith) (omega arith)) in
    ⊎_elim
    (λ yes.
    let flip = count_flip N (own n) (λ k. any_below n (λ j. up j && eqb (own j) k)) (λ k. (up n && eqb (own n) k) || any_below n (λ j. up j && eqb (own j) k))
    (bounded n (omega arith) yes)
    (any_none n (λ j. up j && eqb (own j) (own n)) (λ j lt. ⊎_elim
    (λ up_j. and_right (up j) (eqb (own j) (own n)) (ne_eqb (own j) (own n) (λ e. omega (arith, single j n (omega arith) (omega arith) up_j yes e))))
    (λ down. and_left (up j) (eqb (own j) (own n)) down)
    (cases_Bool (up j))))
    (or_left (up n && eqb (own n) (own n)) _ (and_from (up n) (eqb (own n) (own n)) yes (eq-eqb (own n) (own n) refl)))
    (λ k _ ne. sym (ap (λ (b : Bool). b || any_below n (λ j. up j && eqb (own j) k)) (and_right (up n) (eqb (own n) k) (ne_eqb (own n) k (λ e. ne (sym e)))))) in
    let one : one_if (up n) ≡ 1 = ap one_if yes in
    omega arith)
    (λ not_up.
    let same = count_same N (λ k. (up n && eqb (own n) k) || any_below n (λ j. up j && eqb (own j) k)) (λ k. any_below n (λ j. up j && eqb (own j) k))
    (λ k lt. ap (λ (b : Bool). b || any_below n (λ j. up j && eqb (own j) k)) (and_left (up n) (eqb (own n) k) not_up)) in
    let none : one_if (up n) ≡ 0 = ap one_if not_up in
    omega arith)
    (cases_Bool (up n))

pub count_more : (n : ℕ) (p : ℕ → Bool) → count_below (n + 1) p ≡ one_if (p n) + count_below n p
unfolding count_below
count_more n p = search rules

pub count_nothing : (p : ℕ → Bool) → count_below 0 p ≡ 0
unfolding count_below
count_nothing p = refl

-- two questions with one answer
pub any_iff : (n m : ℕ) (p q : ℕ → Bool) → ((k : ℕ) → k < n → p k ≡ true → any_below m q ≡ true) → ((k : ℕ) → k < m → q k ≡ true → any_below n p ≡ true) → any_below n p ≡ any_below m q
any_iff n m p q there back =
    ⊎_elim
    (λ yes. let w = any_witness n p yes in yes ∙ sym (there w.0 w.1 w.2))
    (λ none. none ∙ ⊎_elim (λ yes. let w = any_witness m q yes in absurd (both_ways (any_below n p) none (back w.0 w.1 w.2))) (λ e. sym e) (cases_Bool (any_below m q)))
    (cases_Bool (any_below n p))

-- all of n, or not all
pub count_all : (n : ℕ) (p : ℕ → Bool) → ((k : ℕ) → k < n → p k ≡ true) → count_below n p ≡ n
unfolding count_below
count_all zero p h = refl
count_all (suc n) p h =
    let one : one_if (p n) ≡ 1 = ap one_if (h n (omega arith)) in
    let rest = count_all n p (λ k lt. h k (omega arith)) in
    omega arith

one_if_most : (b : Bool) → one_if b ≤ 1
one_if_most true = omega arith
one_if_most false = omega arith

pub count_most : (n : ℕ) (p : ℕ → Bool) → count_below n p ≤ n
unfolding count_below
count_most zero p = omega arith
count_most (suc n) p = omega (arith, one_if_most (p n), count_most n p)

pub count_not_all : (n a : ℕ) (p : ℕ → Bool) → a < n → p a ≡ false → count_below n p < n
unfolding count_below
count_not_all zero a p lt e = absurd (omega arith)
count_not_all (suc n) a p lt e =
    ⊎_elim
    (λ f. let none : one_if (p n) ≡ 0 = ap (λ (k : ℕ). one_if (p k)) (sym f) ∙ ap one_if e in omega (arith, count_most n p))
    (λ ne. omega (arith, one_if_most (p n), count_not_all n a p (omega arith) e))
    (cases_eq a n)

-- what passes p passes q
pub count_sub : (n : ℕ) (p q : ℕ → Bool) → ((k : ℕ) → k < n → p k ≡ true → q k ≡ true) → count_below n p ≤ count_below n q
unfolding count_below
count_sub zero p q h = omega arith
count_sub (suc n) p q h =
    let rest = count_sub n p q (λ k lt. h k (omega arith)) in
    ⊎_elim
    (λ yes. let a : one_if (p n) ≡ 1 = ap one_if yes in let b : one_if (q n) ≡ 1 = ap one_if (h n (omega arith) yes) in omega arith)
    (λ none. let a : one_if (p n) ≡ 0 = ap one_if none in omega arith)
    (cases_Bool (p n))
