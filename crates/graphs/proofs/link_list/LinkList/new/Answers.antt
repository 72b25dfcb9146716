use Rattle.std.proofs.Common.{false, refl, arith}
use Rattle.graphs.proofs.NewGraphs.{none_kept, new_means}
use Rattle.graphs.proofs.link_list.LinkList.new.Goals as goal

pub invariant_of-result : goal.invariant_of-result
invariant_of-result c = record { fits = omega arith; kept = none_kept _ _ refl; distinct = λ j l. absurd (omega arith) }

pub returns : goal.returns
returns c = record { empty = new_means c.new.result.of_roles (λ _ _. false) c.new.ensures refl; memory = refl }
