use Rattle.std.proofs.Common.{rules, ◌≡◌, Bool, true, Some, None, Option, MatchOption}
use Rattle.std.proofs.lemmas.Fn.{chained_keeps}
use Rattle.graph_trials.specs.Alike.{Alike}
use Rattle.graph_trials.proofs.side_by_side.tell_alike.Goals as goal

-- `all` is true where no item can stop it
unstopped : {X : Type 0} {r : Bool} {Stops : X → Type 0} (o : Option X) → MatchOption o (r ≡ true) Stops → ((x : X) → Stops x → ⊥) → r ≡ true
unstopped None h none = h
unstopped (Some x) h none = absurd (none x h)

pub returns : goal.returns
returns g c alike =
    let ran = c.all.ensures.ran in
    let kept = chained_keeps _ (λ xs q. Alike g.G.Graph g.H.Graph q.0.now q.1.now) (λ xs q x v j k. search rules) ran.0 _ _ alike ran.4 in
    unstopped ran.1 ran.5 (λ x stop. let call = stop.1.1 in search rules)
