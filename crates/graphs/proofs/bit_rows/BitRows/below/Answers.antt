use Rattle.std.proofs.Common.{◌≡◌, ℕ, get_or, subst, arith}
use Rattle.graphs.specs.Rows.{row_of}
use Rattle.graphs.proofs.LevelByLevel.{Found, found_none, found_more, all_sound, all_complete}
use Rattle.graphs.proofs.bit_rows.BitRows.below.Goals as goal

pub loop-level-init : goal.loop-level-init
loop-level-init c = let s = c.args.self.now in found_none s.levels.of_roles s.rows _ s.levels.low

pub loop-level-preserved : goal.loop-level-preserved
loop-level-preserved c =
    let s = c.args.self.now in
    found_more s.levels.of_roles s.rows _ c.loop-level.set c.loop-level.level c.with_next-set.result s.kept.falling c.loop-level-test.true c.with_next-set.ensures c.loop-level.invariant

pub returns : goal.returns
returns c =
    let s = c.args.self.now in
    let e : c.loop-level.level ≡ 0 = omega arith in
    let P : ℕ → Type 0 = λ n. Found s.levels.of_roles s.rows c.row-set.result c.loop-level.set n in
    let Q : ℕ → Type 0 = λ x. Found s.levels.of_roles s.rows x c.loop-level.set 0 in
    let h : Found s.levels.of_roles s.rows (get_or s.rows (row_of c.args.from) 0) c.loop-level.set 0 = subst Q c.row-set.ensures (subst P e c.loop-level.invariant) in
    record { sound = all_sound s.levels.of_roles s.rows c.args.from c.loop-level.set c.requires h; complete = all_complete s.levels.of_roles s.rows c.args.from c.loop-level.set s.kept.falling h }
