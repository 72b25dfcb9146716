use Rattle.std.proofs.Common.{◌≡◌, ◌&&◌, cond, ap, ◌∙◌, rules}
use Rattle.graphs.specs.Rows.{bit_at}
use Rattle.graphs.proofs.SingleBits.{bit_if}
use Rattle.graphs.proofs.LevelByLevel.{row_leads}
use Rattle.graphs.proofs.bit_rows.BitRows.row_on_level.Goals as goal

pub returns : goal.returns
returns c j l =
    let s = c.args.self.now in
    let t = c.contains.result && c.is_on.result in
    let chosen : c.only_if.result ≡ cond t c.row.result 0 = search rules in
    row_leads s.levels.of_roles s.rows c.args.set c.args.role c.args.level j c.only_if.result t c.requires l
    (ap (λ b. b && c.is_on.result) c.contains.ensures ∙ ap (λ b. bit_at c.args.set c.args.role && b) c.is_on.ensures)
    (ap (λ x. bit_at x j) chosen ∙ bit_if t c.row.result j ∙ ap (λ x. t && bit_at x j) c.row.ensures)
