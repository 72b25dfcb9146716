use Rattle.std.proofs.Common.{rules, tests}
use Rattle.bitmap.proofs.TableLaws.{outside, option_found}
use Rattle.bitmap.proofs.store.BitmapTableStoreFiveState.has_option.Goals as goal

pub returns : goal.returns
returns c =
    let a = c.args in
    search (rules, tests, option_found a.self.now.objects a.right.object a.grantee a.right.privilege, (outside a.self.now.objects).no_option a.right.object a.right.privilege a.grantee)
