use Rattle.std.proofs.Common.{◌≡◌, ◌≢◌}
use Rattle.grammar.proofs.Lookup.{every}
use Rattle.grammar.proofs.keyword.value_of.Goals as goal

pub returns : goal.returns
returns g c = every (λ x. c.args.text.now ≢ g.T.Keyword.word x) (λ x. c.args.text.now ≡ g.T.Keyword.word x) _ _ c.all.ensures c.first_with.ensures
