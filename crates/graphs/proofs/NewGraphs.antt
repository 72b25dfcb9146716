-- A new graph.
use Rattle.std.proofs.Common.{◌≡◌, ℕ, Bool, false, ◌&&◌, ltb, List, replicate, Some, None, Option, sym, ap, ◌∙◌, arith}
use mathlib.Core.Path.{fun_ext}
use mathlib.Core.Bool.{and-false}
use borrow.Author.Tests.{clash}
use Rattle.model.specs.declared.principal.Principal.{Principal}
use Rattle.model.specs.Principals.{in_range}
use Rattle.model.specs.LinkCount.{link_count}
use Rattle.model.specs.Graphs.{new_graph}
use Rattle.model.proofs.FoldLists.{replicate_at}
use Rattle.model.proofs.LinkCounts.{count_none}
use Rattle.graphs.specs.Levels.{level_in, graph_of, Low, Kept}
use Rattle.graphs.specs.Rows.{bit_at, row_of, in_rows}
use Rattle.graphs.proofs.SingleBits.{no_bit}

pub no_rows : (n : ℕ) → in_rows (replicate n 0) ≡ (λ _ _. false)
unfolding in_rows
no_rows n =
    fun_ext (λ p. fun_ext (λ k.
    ap (λ b. (in_range p && ltb k 64) && b) (ap (λ x. bit_at x k) (replicate_at 0 n (row_of p)) ∙ no_bit k) ∙ and-false (in_range p && ltb k 64)))

pub no_levels : (levels : List (Option ℕ)) → levels ≡ replicate 64 None → level_in levels ≡ new_graph.level
no_levels levels e = ap level_in e ∙ fun_ext (λ k. replicate_at None 64 k)

pub none_low : (levels : List (Option ℕ)) → levels ≡ replicate 64 None → Low levels
none_low levels e k m h =
    let a : None ≡ Some m = sym (ap (λ l. level_in l k) e ∙ replicate_at None 64 k) ∙ h in let z : ◌≡◌ {A = ℕ} 0 1 = cc in absurd (omega arith)

-- with no links
pub none_kept : (levels : List (Option ℕ)) (linked : Principal → ℕ → Bool) → linked ≡ (λ _ _. false) → Kept levels linked 0
none_kept levels linked e = record {
  falling = λ p r h. absurd (clash (sym (ap (λ f. f p r) e) ∙ h));
  counted = sym (ap link_count e ∙ count_none);
  few = omega arith;
}

pub new_means : (levels : List (Option ℕ)) (linked : Principal → ℕ → Bool) → level_in levels ≡ new_graph.level → linked ≡ (λ _ _. false) → graph_of levels linked ≡ new_graph
new_means levels linked q e = ap (λ f. record { level = f; linked = linked }) q ∙ ap (λ f. record { level = λ _. None; linked = f }) e
