use Rattle.std.proofs.Common.{◌≡◌, ℕ, Bool, ◌||◌, ltb, List, count_by, ap, ◌∙◌}
use Rattle.std.specs.List.{list_any, enumerate_from}
use Rattle.model.specs.Allowed.{unassigned}
use Rattle.cells.specs.declared.record.CellRecord.{CellRecord}
use Rattle.cells.specs.declared.record.Pair.{Pair}
use Rattle.cells.specs.Kept.{place_at, nowhere, is_of, used_in, pairs_in, first_of}
use Rattle.cells.specs.Listed.{record_of}
use Rattle.cells.specs.Lists.{counted}
use Rattle.cells.proofs.Counted.{counted_kept}
use Rattle.cells.proofs.Fronts.{used_of_front, pairs_of_front}
use Rattle.cells.proofs.list.CellList.has_room.Goals as goal

pub returns : goal.returns
returns g c =
    let t = c.args.self.now in
    let p = c.args.place in
    let xs = t.memory.now in
    let n = counted g.S.Scale.states t in
    let kept = counted_kept g.S.Scale.states t g.met.S.Scale.lawful in
    let d : CellRecord g.row.S.Denot = record_of nowhere (unassigned g.S.Scale.states) in
    let used : c.is_pair_used.result ≡ used_in (place_at xs) n p.object p.granter p.grantee =
    c.is_pair_used.ensures
    ∙ ap (λ (q : Pair). list_any (λ r. is_of r.place q.object q.granter q.grantee) c.records-records.result.now) c.of.ensures
    ∙ ap (list_any (λ r. is_of r.place p.object p.granter p.grantee)) c.records-records.ensures
    ∙ used_of_front xs d n p.object p.granter p.grantee kept.within in
    let pairs : c.count_pairs.result ≡ pairs_in (place_at xs) n p.object =
    c.count_pairs.ensures
    ∙ ap (λ (ys : List (CellRecord g.row.S.Denot)). count_by (λ q. first_of ys p.object (q.0, q.1.place)) (enumerate_from 0 ys)) c.records-records.ensures
    ∙ pairs_of_front xs d n p.object kept.within kept.ranged in
    c.pair_fits.ensures
    ∙ ap (λ (b : Bool). b || ltb c.count_pairs.result 16) used
    ∙ ap (λ (m : ℕ). used_in (place_at xs) n p.object p.granter p.grantee || ltb m 16) pairs
