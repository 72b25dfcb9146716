-- What `any`, `find` and `fold` give over a range, where of a call of the closure only a relation is known.
use Rattle.std.proofs.Common.{◌≡◌, ℕ, ◌+◌, ◌-◌, ◌<◌, ◌≤◌, Bool, true, false, List, [], ◌∷◌, length, get_or, Some, None, Option, MatchOption, Decides, sym, refl, subst, ap, arith}
use Rattle.std.proofs.lemmas.Bool.{both_ways}
use Rattle.std.proofs.lemmas.Iterator.{cases_from_any, YieldsList-from_range}
use Rattle.std.proofs.lemmas.List.FromFn.{length-range_with_len, get_or-range_with_len}
use Rattle.std.proofs.iter.Yields.{nat_range_steps}
use Rattle.std.specs.Bool.{MatchBool}
use Rattle.std.specs.Fn.{Called}
use Rattle.std.specs.Iterator.{Yields, ChecksAny, FoldsItems, FoldTurn}
use Rattle.std.specs.List.{range_with_len, AllWithin, HoldsAt, FoldsTo}
use Rattle.std.specs.declared.ops.Range.{Range}
use Rattle.access.specs.Giving.{IsLowest}
use denote.Param.Members.{Mut}

-- `any` over 0..n decides whether some number passes, where only numbers below n pass
pub any_decides : {F : Type 0} {g : Mut F (ℕ × Unit {0}) Bool} {n : ℕ} (s u : Range ℕ) (f : F) (r : Bool) (P : ℕ → Type 0) → s ≡ record { start = 0; end = n } → ((k : ℕ) → P k → k < n) → ChecksAny nat_range_steps g s f r u → ((x : ℕ) (b : Bool) (q : F) → Called g f (x, tt) b q → (q ≡ f) × Decides b (P x)) → Decides r ((k : ℕ) × P k)
any_decides {g = g} {n = n} s u f r P is low ran each =
    by r (cases_from_any u f r P (λ x. P x → ⊥) (subst (λ t. ChecksAny nat_range_steps g t f r u) is ran) (YieldsList-from_range 0 n n refl (omega arith))
    (λ x q h. (each x true q h).1.0 refl)
    (λ x q h. let e = each x false q h in (e.0, λ p. both_ways false refl (e.1.1 p))))
  where
    all : List ℕ
    all = range_with_len 0 n

    by : (b : Bool) → MatchBool b ((k : ℕ) × (k < length all) × HoldsAt P all k) (AllWithin (λ x. P x → ⊥) all 0 (length all)) → Decides b ((k : ℕ) × P k)
    by true h = ((λ e. (get_or all h.0 0, h.2 0)), (λ w. refl))
    by false h = (
      (λ e. absurd (both_ways false refl e)),
      (λ w.
          let lt = low w.0 w.1 in
          let here : get_or all w.0 0 ≡ w.0 = omega (arith, get_or-range_with_len 0 n w.0 0 lt) in
          absurd (h w.0 0 (omega arith) (omega (arith, lt, length-range_with_len 0 n)) (subst P (sym here) w.1))),
    )

-- the first number in 0..n that passes is the first of all, where only numbers below n pass
pub first_below : {n : ℕ} (s : Range ℕ) (P : ℕ → Type 0) (r : Option ℕ) → s.start ≡ 0 → s.end ≡ n → ((k : ℕ) → P k → k < n)
    → MatchOption r ((k : ℕ) → s.start ≤ k → k < s.end → P k → ⊥) (λ i. (s.start ≤ i) × (i < s.end) × P i × ((k : ℕ) → s.start ≤ k → k < i → P k → ⊥)) → IsLowest P r
first_below s P None from to low h = λ k p. h k (omega arith) (omega (arith, low k p)) p
first_below s P (Some i) from to low h = (h.2, λ k lt. h.3 k (omega arith) lt)

-- `fold` over m..n keeps what each call carries from one number to the next
pub fold_keeps : {F C : Type 0} {g : Mut F (C × (ℕ × Unit {0})) C} (K : ℕ → C → Type 0) (f : F) → ((k : ℕ) (a b : C) (q : F) → K k a → Called g f (a, (k, tt)) b q → K (k + 1) b × (q ≡ f)) → (s : Range ℕ) (a r : C) → FoldsItems nat_range_steps g s f a r → (m n : ℕ) → s.start ≡ m → s.end ≡ n → m ≤ n → K m a → K n r
fold_keeps {F} {C} {g} K f step s a r run m n from to le init = subst (λ k. K k r) to (go run.0 s f a (omega arith) refl (subst (λ k. K k a) (sym from) init) run.2.1.1 run.3)
  where
    t : Range ℕ
    t = run.2.1.0

    go : (xs : List ℕ) (s : Range ℕ) (h : F) (a : C) → s.start ≤ s.end → h ≡ f → K s.start a → Yields nat_range_steps s xs t → FoldsTo (FoldTurn g) (h, a) xs (run.1, r) → K s.end r
    go [] s h a le same keeps there turns =
        let none : t.end - t.start ≡ 0 = run.2.1.2.1.0 in
        let all : s.start ≡ s.end = omega (arith, le, subst (λ (k : Range ℕ). k.end - k.start ≡ 0) (sym there) none) in
        subst (λ k. K k r) all (subst (K s.start) (ap (λ (p : F × C). p.1) turns) keeps)
    go (x ∷ xs) s h a le same keeps there turns =
        let one = there.1 in
        let v = turns.0 in
        let next = step s.start a v.1 v.0 keeps (subst (λ k. Called g f (a, (k, tt)) v.1 v.0) one.1.1 (subst (λ k. Called g k (a, (x, tt)) v.1 v.0) same turns.1)) in
        subst (λ k. K k r) one.0
        (go xs there.0 v.0 v.1 (omega (arith, one.0, one.1.0, one.1.2)) next.1 (subst (λ k. K k v.1) (sym one.1.2) next.0) there.2 turns.2)
