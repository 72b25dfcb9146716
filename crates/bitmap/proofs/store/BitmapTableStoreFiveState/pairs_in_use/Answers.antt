use Rattle.std.proofs.Common.{rules, tests}
use Rattle.bitmap.proofs.TableLaws.{outside, count_told}
use Rattle.bitmap.proofs.store.BitmapTableStoreFiveState.pairs_in_use.Goals as goal

pub returns : goal.returns
returns c = search (rules, tests, count_told c.args.self.now.objects c.args.object, (outside c.args.self.now.objects).no_pairs c.args.object)
