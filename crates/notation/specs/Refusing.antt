-- Why a text is not composed.
use Rattle.std.specs.Prelude.{ℕ, List}
use Rattle.notation.specs.declared.bodies.Bodies.{Bodies}
use Rattle.notation.specs.Results.{Unstated}
use Rattle.notation.specs.declared.composing.ComposeFault.{ComposeFault}
use Rattle.notation.specs.declared.composing.ComposeFault.TheVariants.{Line, Memory}

-- nothing is said of a text for which memory did not suffice
abbrev pub Uncomposed : Bodies → List ℕ → ComposeFault → Type 0
Uncomposed bodies text (Line n) = Unstated bodies text n
Uncomposed bodies text Memory = Unit {0}
