-- Two graphs, by what they mean.
use Rattle.std.specs.Prelude.{◌≡◌}
use Rattle.model.specs.declared.graph.Graph.{Ghosts}

-- the same meaning, in memory that is alike
pub record Alike {A B : Type 0} (x : Ghosts A) (y : Ghosts B) (a : A) (b : B) : Type 0 where
  pub memory : x.full a ≡ y.full b
  pub meaning : x.meaning a ≡ y.meaning b
