use Rattle.scales.specs.Five.{five}
use Rattle.bitmap.specs.Objects.{items_at}
use Rattle.bitmap.proofs.RowLaws.{five_lawful}
use Rattle.bitmap.proofs.Telling.{table_sound}
use Rattle.bitmap.proofs.TableLaws.{items_kept}
use Rattle.bitmap.proofs.store.BitmapTableStoreFiveState.sound.Goals as goal

pub returns : goal.returns
returns c = table_sound five five_lawful (items_at c.args.self.now.objects) (items_kept c.args.self.now.objects)
