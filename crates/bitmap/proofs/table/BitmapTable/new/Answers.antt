use Rattle.bitmap.proofs.TableLaws.{table_empty}
use Rattle.bitmap.proofs.table.BitmapTable.new.Goals as goal

pub returns : goal.returns
returns c = table_empty 32 c.empty.result c.empty.ensures
