use Rattle.std.proofs.Common.{rules, ◌≡◌, ℕ, ◌<◌, ◌||◌, List, refl}
use Rattle.std.proofs.iter.Yields.{nat_range_steps}
use Rattle.std.proofs.lemmas.Fn.{fold_over}
use Rattle.std.proofs.lemmas.Iterator.{YieldsList-from_range}
use Rattle.std.specs.List.{list_any, range_with_len}
use Rattle.graphs.specs.Rows.{bit_at, leads, some_below}
use Rattle.graphs.proofs.LevelByLevel.{union_more}
use Rattle.graphs.proofs.bit_rows.BitRows.with_next.Goals as goal

pub returns : goal.returns
unfolding some_below
returns c =
    let s = c.args.self.now in
    let J : List ℕ → ℕ → Type 0 = λ ks a. (j : ℕ) → j < 64 → bit_at a j ≡ (list_any (leads s.levels.of_roles s.rows c.args.set c.args.level j) ks || bit_at c.args.set j) in
    fold_over nat_range_steps (λ k. k) _ J _ (λ ks a k b f' h call. ((λ j l. search (rules, union_more)), search rules)) (record { start = 0; end = 64 }) (range_with_len 0 64) _ _ (YieldsList-from_range 0 64 64 refl refl).runs (λ j l. refl) c.fold.ensures.ran
