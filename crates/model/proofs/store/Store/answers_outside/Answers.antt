use Rattle.model.proofs.Outside.{answers_outside_lem}
use Rattle.model.proofs.store.Store.answers_outside.Goals as goal

pub returns : goal.returns
returns g c = answers_outside_lem g.S.Scale.states g.met.S.Scale.lawful (g.Self.Store.cells c.args.self.now) c.sound.ensures.outside
