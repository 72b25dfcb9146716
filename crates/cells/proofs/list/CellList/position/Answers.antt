use Rattle.std.proofs.Common.{ℕ, MatchOption, Option, sym, ap, ◌∙◌, subst, position}
use Rattle.model.specs.Allowed.{unassigned}
use Rattle.model.specs.Places.{same_place}
use Rattle.cells.specs.Kept.{nowhere}
use Rattle.cells.specs.Listed.{record_of}
use Rattle.cells.specs.Lists.{counted, IsAt, IsAbsent}
use Rattle.cells.proofs.Counted.{counted_kept}
use Rattle.cells.proofs.Fronts.{found_in_front}
use Rattle.cells.proofs.list.CellList.position.Goals as goal

pub returns : goal.returns
returns g c =
    let s = g.S.Scale.states in
    let t = c.args.self.now in
    let p = c.args.place in
    let kept = counted_kept s t g.met.S.Scale.lawful in
    subst (λ (o : Option ℕ). MatchOption o (IsAbsent s t p) (IsAt s t p)) (sym (c.find.ensures ∙ ap (position (λ r. same_place r.place p)) c.records.ensures))
    (found_in_front t.memory.now (record_of nowhere (unassigned s)) (counted s t) p kept.within (IsAbsent s t p) (IsAt s t p) (λ h. h) (λ i lt e. record { counts = lt; own = e }))
