-- The cells with one changed, from what each place holds.
use Rattle.std.proofs.Common.{◌≡◌, sym, refl, ap, ◌∙◌, ⊎_elim}
use mathlib.Core.Path.{fun_ext}
use Rattle.std.proofs.lemmas.Bool.{cond-true, cond-false}
use Rattle.model.specs.Places.{same_place}
use Rattle.model.specs.Stores.{Cells, put}
use Rattle.model.specs.declared.place.Place.{Place}
use Rattle.model.specs.declared.cell.Cell.{Cell}
use Rattle.model.proofs.Numbering.{cases_place, true_same, differ_place}

pub put_from : {S : Type 0} (f h : Cells S) (p : Place) (c : Cell S) → h p ≡ c → ((q : Place) → (q ≡ p → ⊥) → h q ≡ f q) → h ≡ put f p c
put_from f h p c here others =
    fun_ext (λ q. ⊎_elim
    (λ e. ap h (sym e) ∙ here ∙ sym (cond-true (same_place p q) c (f q) (true_same p q e)))
    (λ ne. others q (λ e. ne (sym e)) ∙ sym (cond-false (same_place p q) c (f q) (differ_place p q ne)))
    (cases_place p q))

-- a place that holds the cell already
pub put_idle : {S : Type 0} (f : Cells S) (p : Place) (c : Cell S) → f p ≡ c → f ≡ put f p c
put_idle f p c here = put_from f f p c here (λ q _. refl)
