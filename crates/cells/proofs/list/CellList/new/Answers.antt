use Rattle.std.proofs.Common.{rules}
use Rattle.cells.proofs.Telling.{new_kept, new_ample, new_empty}
use Rattle.cells.proofs.list.CellList.new.Goals as goal

pub invariant_of-result : goal.invariant_of-result
invariant_of-result g c = search (rules, new_kept)

pub returns-clause-memory : goal.returns-clause-memory
returns-clause-memory g c = new_ample g.S.Scale.states g.met.S.Scale.lawful _ c.unassign-unassign.result c.unassign-unassign.ensures

pub returns-clause-empty : goal.returns-clause-empty
returns-clause-empty g c = new_empty g.S.Scale.states c.args.memory.now _
