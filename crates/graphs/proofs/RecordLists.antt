-- The first n records of a list: what one record more, and one struck out, does to the links that they hold.
use Rattle.std.proofs.Common.{◌≡◌, ℕ, zero, suc, ◌+◌, ◌-◌, ◌<◌, ◌≤◌, Bool, true, false, not, ◌&&◌, ◌||◌, ◌≢◌, List, length, take, set, Some, None, Decides, Option, unwrap_or, sym, refl, ap, ◌∙◌, subst, ⊎_elim, add-one, arith, get_or-set_other, get_or-set_same, ltb-true}
use Rattle.std.specs.List.{AllWithin, HoldsAt}
use Rattle.std.specs.Option.{MatchOption, is_some}
use Rattle.std.proofs.lemmas.List.{get_or-take, length-take-le}
use mathlib.Core.Path.{fun_ext}
use borrow.Author.Tests.{both_ways, clash}
use Rattle.std.proofs.lemmas.Bool.{cases_eq, cases_Bool, cases_order}
use Rattle.std.proofs.lemmas.Bool.Decides.{Decides-and, Decides-eqb, Decides-like, Decides-not, Decides-below_or, same_from_decides}
use Rattle.model.specs.declared.principal.Principal.{Principal}
use Rattle.model.specs.declared.principal.Principal.TheVariants.{Role}
use Rattle.model.specs.Graphs.{Chain, same_link, smaller}
use Rattle.model.proofs.Chains.{decides_same, first_link}
use Rattle.graphs.specs.declared.link.Link.{Link}
use Rattle.graphs.specs.Records.{link, at_place, is_link, held, Distinct, no_link}

decides_is : (l : Link) (p : Principal) (k : ℕ) → Decides (is_link l p k) (l ≡ link p k)
decides_is l p k =
    Decides-like _ (λ h. ap (λ x. link x l.lower) h.0 ∙ ap (λ y. link p y) h.1) (λ h. (ap (λ x. x.upper) h, ap (λ x. x.lower) h))
    (Decides-and _ _ (decides_same l.upper p) (Decides-eqb l.lower k))

-- what it means to be held: some place has it
abbrev Somewhere : List Link → ℕ → Principal → ℕ → Type 0
Somewhere xs n p k = (j : ℕ) × (j < n) × (at_place xs j ≡ link p k)

decides_held : (xs : List Link) (n : ℕ) (p : Principal) (k : ℕ) → Decides (held xs n p k) (Somewhere xs n p k)
decides_held xs n p k =
    Decides-below_or (λ j. is_link (at_place xs j) p k) (λ j. at_place xs j ≡ link p k) (λ m. held xs m p k) (λ j. decides_is (at_place xs j) p k) refl (λ _. refl) n

pub held_at : (xs : List Link) (n j : ℕ) (p : Principal) (k : ℕ) → j < n → at_place xs j ≡ link p k → held xs n p k ≡ true
held_at xs n j p k l e = (decides_held xs n p k).1 (j, l, e)

-- places of equal records are equal
unique : (xs : List Link) (n i j : ℕ) → Distinct xs n → i < n → j < n → at_place xs i ≡ at_place xs j → i ≡ j
unique xs n i j d li lj e =
    ⊎_elim (λ (q : i ≡ j). q)
    (⊎_elim
    (λ (q : i < j). absurd (both_ways _ (d j lj) (held_at xs j i _ _ q e)))
    (λ (q : j < i). absurd (both_ways _ (d i li) (held_at xs i j _ _ q (sym e)))))
    (cases_order i j)

-- a write past the first n
held_set : (xs : List Link) (n i : ℕ) (x : Link) (p : Principal) (k : ℕ) → n ≤ i → held (set xs i x) n p k ≡ held xs n p k
held_set xs zero i x p k l = refl
held_set xs (suc n) i x p k l =
    let ne : n ≢ i = λ e. omega arith in
    let a : held (set xs i x) n p k ≡ held xs n p k = held_set xs n i x p k (omega arith) in
    let b : at_place (set xs i x) n ≡ at_place xs n = get_or-set_other xs i n x no_link ne in
    ap (λ y. is_link y p k || held (set xs i x) n p k) b ∙ ap (λ y. is_link (at_place xs n) p k || y) a

-- one record more
pub held_push : (xs : List Link) (n : ℕ) (u : Principal) (r : ℕ) → n < length xs → held (set xs n (link u r)) (n + 1) ≡ (λ p k. same_link u r p k || held xs n p k)
held_push xs n u r l =
    rw add-one (fun_ext (λ p. fun_ext (λ k.
    ap (λ y. is_link y p k || held (set xs n (link u r)) n p k) (get_or-set_same xs n (link u r) no_link l)
    ∙ ap (λ y. same_link u r p k || y) (held_set xs n n (link u r) p k (omega arith)))))

pub distinct_push : (xs : List Link) (n : ℕ) (u : Principal) (r : ℕ) → n < length xs → Distinct xs n → held xs n u r ≡ false → Distinct (set xs n (link u r)) (n + 1)
distinct_push xs n u r l d f j lj =
    ⊎_elim
    (λ (q : j ≡ n).
    let a : at_place (set xs n (link u r)) j ≡ link u r = ap (λ i. at_place (set xs n (link u r)) i) q ∙ get_or-set_same xs n (link u r) no_link l in
    ap (λ y. held (set xs n (link u r)) j y.upper y.lower) a ∙ ap (λ i. held (set xs n (link u r)) i u r) q ∙ held_set xs n n (link u r) u r (omega arith) ∙ f)
    (λ (q : j ≡ n → ⊥).
    let a : at_place (set xs n (link u r)) j ≡ at_place xs j = get_or-set_other xs n j (link u r) no_link q in
    ap (λ y. held (set xs n (link u r)) j y.upper y.lower) a ∙ held_set xs j n (link u r) (at_place xs j).upper (at_place xs j).lower (omega arith) ∙ d j (omega (arith, q)))
    (cases_eq j n)

-- the record at i struck out: the last one takes its place
abbrev pub struck : List Link → ℕ → ℕ → List Link
struck xs i m = set xs i (at_place xs m)

-- where a record of the struck list was
was_at : (xs : List Link) (i m j : ℕ) → i ≤ m → m < length xs → j < m → (k : ℕ) × (k < m + 1) × (k ≢ i) × (at_place (struck xs i m) j ≡ at_place xs k) × ((j ≡ i → k ≡ m) × ((j ≡ i → ⊥) → k ≡ j))
was_at xs i m j li lm lj =
    ⊎_elim
    (λ (q : j ≡ i). (m, omega arith, (λ z. omega arith), ap (λ y. at_place (struck xs i m) y) q ∙ get_or-set_same xs i (at_place xs m) no_link (omega arith), ((λ _. refl), (λ z. absurd (z q)))))
    (λ (q : j ≡ i → ⊥). (j, omega arith, q, get_or-set_other xs i j (at_place xs m) no_link q, ((λ z. absurd (q z)), (λ _. refl))))
    (cases_eq j i)

distinct_struck : (xs : List Link) (i m : ℕ) → i ≤ m → m < length xs → Distinct xs (m + 1) → Distinct (struck xs i m) m
distinct_struck xs i m li lm d j lj =
    ⊎_elim
    (λ (q : held (struck xs i m) j (at_place (struck xs i m) j).upper (at_place (struck xs i m) j).lower ≡ true).
    let s : Somewhere (struck xs i m) j (at_place (struck xs i m) j).upper (at_place (struck xs i m) j).lower = (decides_held (struck xs i m) j _ _).0 q in
    let v = was_at xs i m j li lm lj in
    let w = was_at xs i m s.0 li lm (omega (arith, s.1)) in
    let e : w.0 ≡ v.0 = unique xs (m + 1) w.0 v.0 d w.1 v.1 (sym w.3 ∙ s.2 ∙ v.3) in
    absurd (apart xs i m j s.0 v.0 w.0 lj s.1 e v.4 w.4))
    (λ q. q)
    (cases_Bool _)
  where
    apart : (xs : List Link) (i m j s v w : ℕ) → j < m → s < j → w ≡ v → ((j ≡ i → v ≡ m) × ((j ≡ i → ⊥) → v ≡ j)) → ((s ≡ i → w ≡ m) × ((s ≡ i → ⊥) → w ≡ s)) → ⊥
    apart xs i m j s v w lj ls e a b =
        ⊎_elim
        (λ (q : j ≡ i). let x : v ≡ m = a.0 q in let y : w ≡ s = b.1 (λ z. omega arith) in omega arith)
        (λ (q : j ≡ i → ⊥).
        let x : v ≡ j = a.1 q in
        ⊎_elim (λ (z : s ≡ i). let y : w ≡ m = b.0 z in omega arith) (λ (z : s ≡ i → ⊥). let y : w ≡ s = b.1 z in omega arith) (cases_eq s i))
        (cases_eq j i)

-- what stands after the record at i, of the link from u to r, is struck out
held_struck : (xs : List Link) (i m : ℕ) (u : Principal) (r : ℕ) → i ≤ m → m < length xs → Distinct xs (m + 1) → at_place xs i ≡ link u r → held (struck xs i m) m ≡ (λ p k. not (same_link u r p k) && held xs (m + 1) p k)
held_struck xs i m u r li lm d e =
    fun_ext (λ p. fun_ext (λ k.
    same_from_decides (held (struck xs i m) m p k) (not (same_link u r p k) && held xs (m + 1) p k)
    (decides_held (struck xs i m) m p k)
    (Decides-like _ (back p k) (forth p k) (Decides-and _ _ (Decides-not _ (decides_is (link u r) p k)) (decides_held xs (m + 1) p k)))))
  where
    back : (p : Principal) (k : ℕ) → ((link u r ≡ link p k → ⊥) × Somewhere xs (m + 1) p k) → Somewhere (struck xs i m) m p k
    back p k h =
        let s : Somewhere xs (m + 1) p k = h.1 in
        let ne : s.0 ≢ i = λ z. h.0 (sym e ∙ ap (λ y. at_place xs y) (sym z) ∙ s.2) in
        ⊎_elim
        (λ (q : s.0 ≡ m). (i, omega (arith, ne, s.1), get_or-set_same xs i (at_place xs m) no_link (omega arith) ∙ ap (λ y. at_place xs y) (sym q) ∙ s.2))
        (λ (q : s.0 ≡ m → ⊥). (s.0, omega (arith, q, s.1), get_or-set_other xs i s.0 (at_place xs m) no_link ne ∙ s.2))
        (cases_eq s.0 m)

    forth : (p : Principal) (k : ℕ) → Somewhere (struck xs i m) m p k → (link u r ≡ link p k → ⊥) × Somewhere xs (m + 1) p k
    forth p k s =
        let w = was_at xs i m s.0 li lm s.1 in
        ((λ z. w.2 (unique xs (m + 1) w.0 i d w.1 (omega arith) (sym w.3 ∙ s.2 ∙ sym z ∙ sym e))), (w.0, w.1, sym w.3 ∙ s.2))

-- an answer that has its own place, and what each of the records leads to, has every chain
pub follows_first : (xs : List Link) (n : ℕ) (a b : Principal) (o : Bool) → (a ≡ b → o ≡ true) → ((k : ℕ) → k < n → (at_place xs k).upper ≡ a → Chain (held xs n) (Role (at_place xs k).lower) b → o ≡ true) → Chain (held xs n) a b → o ≡ true
follows_first xs n a b o h0 h1 ch =
    ⊎_elim h0
    (λ (f : (r : ℕ) × (held xs n a r ≡ true) × Chain (held xs n) (Role r) b).
    let s : Somewhere xs n a f.0 = (decides_held xs n a f.0).0 f.1 in
    let P : ℕ → Type 0 = λ r. Chain (held xs n) (Role r) b in
    h1 s.0 s.1 (ap (λ l. l.upper) s.2) (subst P (sym (ap (λ l. l.lower) s.2)) f.2))
    (first_link ch)

-- the record at i of n struck out, with the one at m = n - 1 in its place
pub record Struck (xs : List Link) (i n m : ℕ) : Type 0 where
  pub distinct : Distinct (struck xs i m) m
  pub stood : held xs n (at_place xs i).upper (at_place xs i).lower ≡ true
  pub after : held (struck xs i m) m ≡ (λ p k. not (same_link (at_place xs i).upper (at_place xs i).lower p k) && held xs n p k)

pub strike : (xs : List Link) (i n m : ℕ) → m ≡ n - 1 → i < n → n ≤ length xs → Distinct xs n → Struck xs i n m
strike xs i n m q li ln d =
    let e : m + 1 ≡ n = omega arith in
    let u = (at_place xs i).upper in
    let r = (at_place xs i).lower in
    let l : i ≤ m = omega arith in
    let k : m < length xs = omega arith in
    let d' : Distinct xs (m + 1) = λ j h. d j (omega arith) in
    record {
      distinct = distinct_struck xs i m l k d';
      stood = held_at xs n i u r li refl;
      after = held_struck xs i m u r l k d' refl ∙ ap (λ k p q. not (same_link u r p q) && held xs k p q) e;
    }

-- the levels at the ends of a link, as numbers
pub falls_less : (a b : Option ℕ) → smaller a b ≡ true → unwrap_or a 0 < unwrap_or b 0
falls_less (Some m) (Some n) e = ltb-true m n e
falls_less (Some m) None e = absurd (clash e)
falls_less None (Some n) e = absurd (clash e)
falls_less None None e = absurd (clash e)

-- what a search of the first n records found
pub position_held : (xs : List Link) (n : ℕ) (x : Link) (r : Option ℕ) → n ≤ length xs
    → MatchOption r (AllWithin (λ y. y ≢ x) (take n xs) 0 (length (take n xs))) (λ i. (i < length (take n xs)) × HoldsAt (λ y. y ≡ x) (take n xs) i × AllWithin (λ y. y ≢ x) (take n xs) 0 i) → is_some r ≡ held xs n x.upper x.lower
position_held xs n x (Some i) l h =
    let k : i < n = omega (arith, h.0, length-take-le n xs l) in
    sym (held_at xs n i x.upper x.lower k (sym (get_or-take n xs i no_link k) ∙ h.1 no_link))
position_held xs n x None l h =
    ⊎_elim
    (λ (q : held xs n x.upper x.lower ≡ true).
    let s = (decides_held xs n x.upper x.lower).0 q in
    absurd (h s.0 no_link (omega arith) (omega (arith, s.1, length-take-le n xs l)) (get_or-take n xs s.0 no_link s.1 ∙ s.2)))
    (λ (q : held xs n x.upper x.lower ≡ false). sym q)
    (cases_Bool _)
