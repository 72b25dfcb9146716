-- What each call on a graph answers, and what it makes of the graph.
use Rattle.std.specs.Prelude.{◌≡◌, Bool, cond, Decides}
use Rattle.model.specs.LinkCount.{link_count}
use Rattle.model.specs.Graphs.{RoleGraph, Reaches, Above, level_of, takes_level, takes_link, with_level, with_link, without_link}
use Rattle.graph_trials.specs.declared.call.Call.{Call}
use Rattle.graph_trials.specs.declared.call.Call.TheVariants.{GiveLevel, AskLevel, Add, Cut, AskLink, AskCount, AskReach, AskAbove, AskMemory}
use Rattle.graph_trials.specs.declared.call.Told.{Told}
use Rattle.graph_trials.specs.declared.call.Told.TheVariants.{Flag, Level, Number}

-- the answer is yes or no, as P says
abbrev pub Flagged : Told → (Bool → Type 0) → Type 0
Flagged (Flag b) P = P b
Flagged (Level o) P = ⊥
Flagged (Number n) P = ⊥

abbrev pub Tells : Bool → RoleGraph → Call → Told → Type 0
Tells full g (GiveLevel r n) t = t ≡ Flag (takes_level g r n)
Tells full g (AskLevel p) t = t ≡ Level (level_of g.level p)
Tells full g (Add p r) t = t ≡ Flag (takes_link full g p r)
Tells full g (Cut p r) t = t ≡ Flag (g.linked p r)
Tells full g (AskLink p r) t = t ≡ Flag (g.linked p r)
Tells full g AskCount t = t ≡ Number (link_count g.linked)
Tells full g (AskReach p q) t = Flagged t (λ b. Decides b (Reaches g p q))
Tells full g (AskAbove r k) t = Flagged t (λ b. Decides b (Above g r k))
Tells full g AskMemory t = t ≡ Flag full

abbrev pub after : Bool → RoleGraph → Call → RoleGraph
after full g (GiveLevel r n) = cond (takes_level g r n) (with_level g r n) g
after full g (AskLevel p) = g
after full g (Add p r) = cond (takes_link full g p r) (with_link g p r) g
after full g (Cut p r) = cond (g.linked p r) (without_link g p r) g
after full g (AskLink p r) = g
after full g AskCount = g
after full g (AskReach p q) = g
after full g (AskAbove r k) = g
after full g AskMemory = g
