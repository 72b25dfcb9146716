use Rattle.std.proofs.Common.{Err}
use Rattle.std.proofs.lemmas.Result.{err_from_is_err_and}
use Rattle.wording.specs.declared.fault.WordingFault.TheVariants.{Sentence}
use Rattle.wording.proofs.Laws.{parsed, answered, exceeded}
use Rattle.wording.proofs.sentence_of.Goals as goal

pub returns-in_err-sentence : goal.returns-in_err-sentence
returns-in_err-sentence c =
    let p = err_from_is_err_and c.from_residual.result c.from_residual.ensures.1 in
    rw (p.1, p.2) (parsed _ (Err (Sentence c.in_err-sentence.field-0.0.at)) c.in_err-sentence.ensures)

pub returns-in_err-ranges : goal.returns-in_err-ranges
returns-in_err-ranges c =
    let p = err_from_is_err_and c.from_residual-in_err-ranges.result c.from_residual-in_err-ranges.ensures.1 in
    rw (p.1, p.2) (exceeded _ c.in_ok-sentence.sentence _ c.in_ok-sentence.ensures c.in_err-ranges.ensures)

pub returns : goal.returns
returns c = answered _ c.in_ok-sentence.sentence c.in_ok-sentence.ensures c.in_ok-ranges.ensures
