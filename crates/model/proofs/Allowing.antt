-- Which cells are allowed, and which of those that commands set.
use Rattle.std.proofs.Common.{◌≡◌, ℕ, Bool, false, IfSome, Some, None, Decides, Option, refl, arith, rules}
use Rattle.std.specs.Option.{option_map}
use Rattle.model.specs.States.{States, Lawful}
use Rattle.model.specs.Allowed.{Allowed, is_allowed, cell_of, set_by, fitting}
use Rattle.model.specs.declared.cell.Cell.{Cell}
use Rattle.model.specs.declared.scale.StateCommand.{StateCommand}
use Rattle.model.specs.declared.scale.StateCommand.TheVariants.{Grant, Taint, Suspend, Deny}

pub allowed_decides : {S : Type 0} (s : States S) → Lawful s → (c : Cell S) → Decides (is_allowed s c) (Allowed s c)
allowed_decides s l c = search rules

module _ {S : Type 0} (s : States S) (l : Lawful s) where
  down_cell : (x : S) → s.travels_up x ≡ false → (neutral option : Bool) → Decides (fitting Taint neutral option) (Allowed s (cell_of s neutral option x))
  down_cell x d neutral option = search rules

  -- what another command than GRANT assigns travels down
  other_cell : (c : StateCommand) (x : S) → (c ≡ Grant → ⊥) → s.assigned c ≡ Some x → (neutral option : Bool) → Decides (fitting Taint neutral option) (Allowed s (cell_of s neutral option x))
  other_cell c x n e = down_cell x (l.others_down c x n e)

  assigned_cell : (c : StateCommand) (neutral option : Bool) (x : S) → s.assigned c ≡ Some x → Decides (fitting c neutral option) (Allowed s (cell_of s neutral option x))
  assigned_cell Grant neutral option x e = search rules
  assigned_cell Taint neutral option x e =
      other_cell Taint x (λ f. let z : ◌≡◌ {A = ℕ} 0 1 = cc in omega arith) e neutral option
  assigned_cell Suspend neutral option x e =
      other_cell Suspend x (λ f. let z : ◌≡◌ {A = ℕ} 0 1 = cc in omega arith) e neutral option
  assigned_cell Deny neutral option x e =
      other_cell Deny x (λ f. let z : ◌≡◌ {A = ℕ} 0 1 = cc in omega arith) e neutral option

  -- the cell that a command sets, if any, is allowed exactly if what comes with the command fits it
  pub set_allowed : (c : StateCommand) (neutral option : Bool) → IfSome (set_by s c neutral option) (λ d. Decides (fitting c neutral option) (Allowed s d))
  set_allowed c neutral option = go (s.assigned c) refl
    where
      go : (m : Option S) → s.assigned c ≡ m → IfSome (option_map (cell_of s neutral option) m) (λ d. Decides (fitting c neutral option) (Allowed s d))
      go None e = tt
      go (Some x) e = assigned_cell c neutral option x e
