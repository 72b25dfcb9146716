use Rattle.notation.proofs.Stating.{says_sentence}
use Rattle.notation.proofs.line.passes.Goals as goal

pub returns-in-Sentences : goal.returns-in-Sentences
returns-in-Sentences c =
    let is = says_sentence c.args.body.now c.sentence_of.result c.sentence_of.ensures.answer c.sentence_of.ensures.only in
    rw (c.in-Sentences.is, c.is_ok.ensures.value) is
