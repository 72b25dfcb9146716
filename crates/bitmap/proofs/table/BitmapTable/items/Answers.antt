use Rattle.bitmap.proofs.TableLaws.{rows_found}
use Rattle.bitmap.proofs.table.BitmapTable.items.Goals as goal

pub returns-clause-rows : goal.returns-clause-rows
returns-clause-rows c = rows_found (λ x. x.now) c.args.self.now.objects c.from.result c.args.object c.get.result c.from.ensures c.get.ensures.lookup.3
