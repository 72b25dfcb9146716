-- The table of levels, and the graph that it makes with a set of links.
use Rattle.std.specs.Prelude.{◌≡◌, ℕ, ◌<◌, ◌≤◌, Bool, true, false, List, length, Some, None, Option, ◌==◌, slice_index_or}
use Rattle.std.proofs.Common.{sym, subst}
use Rattle.std.proofs.lemmas.List.{get_or_past}
use Rattle.model.specs.declared.principal.Principal.{Principal}
use Rattle.model.specs.LinkCount.{link_count}
use Rattle.model.specs.Graphs.{RoleGraph, Sound, falls}

abbrev pub level_in : List (Option ℕ) → ℕ → Option ℕ
level_in levels r = slice_index_or levels r None

abbrev pub on_level : Option ℕ → ℕ → Bool
on_level None n = false
on_level (Some m) n = m == n

abbrev pub graph_of : List (Option ℕ) → (Principal → ℕ → Bool) → RoleGraph
graph_of levels linked = record { level = level_in levels; linked = linked }

-- each level is below 8
abbrev pub Low : List (Option ℕ) → Type 0
Low levels = (r n : ℕ) → level_in levels r ≡ Some n → n < 8

-- the level falls along each link
abbrev pub Falling : List (Option ℕ) → (Principal → ℕ → Bool) → Type 0
Falling levels linked = (p : Principal) (r : ℕ) → linked p r ≡ true → falls (level_in levels) p r ≡ true

-- what both graphs keep of their n links
pub record Kept (levels : List (Option ℕ)) (linked : Principal → ℕ → Bool) (n : ℕ) : Type 0 where
  pub falling : Falling levels linked
  pub counted : n ≡ link_count linked
  pub few : n ≤ 256

-- what both graphs keep makes them sound
pub kept_sound : (levels : List (Option ℕ)) (linked : Principal → ℕ → Bool) (n : ℕ) → length levels ≡ 64 → Low levels → Kept levels linked n → Sound (graph_of levels linked)
kept_sound levels linked n s l k = record {
  low = l;
  roles_in_range = λ r h. get_or_past levels r None (subst (λ (m : ℕ). m ≤ r) (sym s) h);
  falling = k.falling;
  few = subst (λ (m : ℕ). m ≤ 256) k.counted k.few;
}
