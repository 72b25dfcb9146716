-- Two stores, by what they hold.
use Rattle.std.specs.Prelude.{◌≡◌}
use Rattle.model.specs.declared.store.Store.{Ghosts}

-- the same cells, in memory that is alike
pub record Alike {S A B : Type 0} (x : Ghosts A S) (y : Ghosts B S) (a : A) (b : B) : Type 0 where
  pub memory : x.full a ≡ y.full b
  pub cells : x.cells a ≡ y.cells b
