use Rattle.model.proofs.Allowing.{set_allowed}
use Rattle.model.proofs.cell.Cell.set_by.Goals as goal

pub returns : goal.returns
returns g c =
    let laws = g.met.S.Scale.lawful in
    record {
      value = c.assigned.ensures;
      allowed = rw c.assigned.ensures (set_allowed g.S.Scale.states laws c.args.command c.args.neutral c.args.option);
    }
