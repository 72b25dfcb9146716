use Rattle.std.proofs.Common.{rules, tests}
use Rattle.bitmap.proofs.TableLaws.{outside, strongest_found}
use Rattle.bitmap.proofs.store.BitmapTableStoreFiveState.strongest.Goals as goal

pub returns : goal.returns
returns c =
    let a = c.args in
    search (rules, tests, strongest_found a.self.now.objects a.right.object a.grantee a.right.privilege a.orientation, (outside a.self.now.objects).no_state a.right.object a.right.privilege a.grantee a.orientation)
