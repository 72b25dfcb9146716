-- Counting, asking and joining below a bound.
use Rattle.std.specs.Prelude.{ℕ, zero, suc, ◌+◌, Bool, true, false, ◌||◌}
use Rattle.model.specs.Joining.{Joining}

abbrev pub one_if : Bool → ℕ
one_if true = 1
one_if false = 0

-- how many numbers below n pass
unfoldable pub count_below : ℕ → (ℕ → Bool) → ℕ
count_below zero p = 0
count_below (suc n) p = one_if (p n) + count_below n p

-- whether some number below n passes
unfoldable pub any_below : ℕ → (ℕ → Bool) → Bool
any_below zero p = false
any_below (suc n) p = p n || any_below n p

-- the join of f at each number below n
unfoldable pub join_below : {S : Type 0} → Joining S → ℕ → (ℕ → S) → S
join_below j zero f = j.unassign
join_below j (suc n) f = j.join (f n) (join_below j n f)
