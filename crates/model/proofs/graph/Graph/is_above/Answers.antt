use Rattle.model.proofs.Chains.{above_decided, above_falls}
use Rattle.model.proofs.graph.Graph.is_above.Goals as goal

pub returns : goal.returns
returns g c =
    let m = g.Self.Graph in
    let s = c.args.self.now in
    let d = above_decided (m.meaning s) c.args.upper c.args.lower c.reaches.result c.if-upper-lower.false c.reaches.ensures in
    record { decides = d; level = λ e. above_falls (m.meaning s) c.args.upper c.args.lower (g.met.Self.Graph.sound s).falling (d.0 e) }
