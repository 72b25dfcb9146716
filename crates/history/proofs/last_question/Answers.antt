use Rattle.history.proofs.LawsHold.{laws_hold}
use Rattle.history.proofs.last_question.Goals as goal

pub returns-clause-laws : goal.returns-clause-laws
returns-clause-laws g c = laws_hold g.S.Scale.states g.met.S.Scale.lawful
