-- What both graphs keep, after each change.
use Rattle.std.proofs.Common.{◌≡◌, ℕ, ◌+◌, ◌-◌, Bool, true, false, cond, List, Option, sym, ap, ◌∙◌, subst, ⊎_elim, arith}
use Rattle.std.proofs.lemmas.Bool.{cases_Bool}
use Rattle.model.specs.declared.principal.Principal.{Principal}
use Rattle.model.specs.LinkCount.{link_count}
use Rattle.model.specs.Graphs.{RoleGraph, Sound, takes_level, takes_link, with_level, with_link, without_link}
use Rattle.model.proofs.SoundGraphs.{sound_with_level, sound_with_link, sound_without_link, count_with_link, count_without_link}
use Rattle.graphs.specs.Levels.{graph_of, Kept}

-- a table and links that mean a sound graph
kept : (levels : List (Option ℕ)) (linked : Principal → ℕ → Bool) (n : ℕ) (g : RoleGraph) → graph_of levels linked ≡ g → Sound g → n ≡ link_count g.linked → Kept levels linked n
kept levels linked n g e s c =
    let P : RoleGraph → Type 0 = λ x. Sound x in
    let t : Sound (graph_of levels linked) = subst P (sym e) s in
    let d : n ≡ link_count linked = c ∙ ap (λ x. link_count x.linked) (sym e) in
    record { falling = t.falling; counted = d; few = omega (arith, t.few, d) }

pub given_kept : (levels after : List (Option ℕ)) (linked : Principal → ℕ → Bool) (len r n : ℕ) → Sound (graph_of levels linked) → Kept levels linked len
    → graph_of after linked ≡ cond (takes_level (graph_of levels linked) r n) (with_level (graph_of levels linked) r n) (graph_of levels linked) → Kept after linked len
given_kept levels after linked len r n s k e =
    let g = graph_of levels linked in
    ⊎_elim
    (λ (q : takes_level g r n ≡ true). kept after linked len (with_level g r n) (e ∙ ap (λ b. cond b (with_level g r n) g) q) (sound_with_level g r n s q) k.counted)
    (λ (q : takes_level g r n ≡ false). kept after linked len g (e ∙ ap (λ b. cond b (with_level g r n) g) q) s k.counted)
    (cases_Bool (takes_level g r n))

module _ (levels : List (Option ℕ)) (linked : Principal → ℕ → Bool) (len : ℕ) (s : Sound (graph_of levels linked)) (k : Kept levels linked len) where
  pub link_kept : (full : Bool) (p : Principal) (r : ℕ) (after : Principal → ℕ → Bool) → takes_link full (graph_of levels linked) p r ≡ true → after ≡ (with_link (graph_of levels linked) p r).linked → Kept levels after (len + 1)
  link_kept full p r after t e =
      let g = graph_of levels linked in
      kept levels after (len + 1) (with_link g p r) (ap (graph_of levels) e) (sound_with_link full g p r s t) (omega (arith, k.counted, count_with_link full g p r s t))

  pub cut_kept : (p : Principal) (r : ℕ) (after : Principal → ℕ → Bool) → linked p r ≡ true → after ≡ (without_link (graph_of levels linked) p r).linked → Kept levels after (len - 1)
  cut_kept p r after t e =
      let g = graph_of levels linked in
      kept levels after (len - 1) (without_link g p r) (ap (graph_of levels) e) (sound_without_link g p r s t) (omega (arith, k.counted, count_without_link g p r s t))
