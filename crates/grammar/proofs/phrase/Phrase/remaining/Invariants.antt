use Rattle.std.proofs.Common.{drop}
use Rattle.grammar.specs.Steps.{texts}
use Rattle.grammar.proofs.Tails.{Ahead}
use Rattle.grammar.proofs.phrase.Phrase.remaining.Given as goal

abbrev pub invariant-loop-word : goal.invariant-loop-word
invariant-loop-word l = Ahead l.fn.self l.self (texts l.words) (texts (drop l.word-index l.words))
