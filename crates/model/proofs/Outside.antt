-- What a store that is unassign out of range answers there.
use Rattle.std.proofs.Common.{◌≡◌, ℕ, ◌/◌, ◌%◌, false, ◌&&◌, ap, ◌∙◌, rules}
use Rattle.std.proofs.lemmas.Bool.{and_left}
use Rattle.model.specs.Principals.{in_range, object_in_range}
use Rattle.model.specs.States.{States, Lawful}
use Rattle.model.specs.Joining.{Joining, joining, JoinLaws}
use Rattle.model.specs.Allowed.{Allowed, unassigned}
use Rattle.model.specs.Places.{place, place_in_range, principal_at, privilege_at}
use Rattle.model.specs.Stores.{Cells, assigned, in_use, pairs, has_option, state_towards, strongest, AnswersOutside}
use Rattle.model.specs.declared.principal.Principal.{Principal}
use Rattle.model.specs.declared.privilege.Privilege.{Privilege}
use Rattle.model.specs.declared.place.Place.{Place}
use Rattle.model.specs.declared.cell.Cell.{Cell}
use Rattle.model.specs.declared.cell.Orientation.{Orientation}
use Rattle.model.proofs.Joins.{join_laws}
use Rattle.model.proofs.Counting.{any_none, count_same, count_none}
use Rattle.model.proofs.JoinFolds.{none_joined}

-- nothing is assigned where nobody assigned it
pub unassigned_none : {S : Type 0} (j : Joining S) → JoinLaws j → assigned j j.unassign ≡ false
unassigned_none j laws = search rules

pub towards_none : {S : Type 0} (j : Joining S) (t : Orientation) (c : Cell S) → c.state ≡ j.unassign → state_towards j t c ≡ j.unassign
towards_none j t c e = search rules

module _ {S : Type 0} (s : States S) (law : Lawful s) (cells : Cells S) (outside : (p : Place) → place_in_range p ≡ false → cells p ≡ unassigned s) where
  laws : JoinLaws (joining s)
  laws = join_laws s law

  use_out : (o : ℕ) (g e : Principal) → (object_in_range o && (in_range g && in_range e)) ≡ false → in_use (joining s) cells o g e ≡ false
  unfolding in_use
  use_out o g e out =
      any_none 8 (λ k. assigned (joining s) (cells (place o g e (privilege_at k))).state)
      (λ k lt. ap (λ (c : Cell S). assigned (joining s) c.state) (outside (place o g e (privilege_at k)) out) ∙ unassigned_none (joining s) laws)

  pairs_out : (o : ℕ) → object_in_range o ≡ false → pairs (joining s) cells o ≡ 0
  unfolding pairs
  pairs_out o out =
      count_same 16384 (λ k. in_use (joining s) cells o (principal_at (k / 128)) (principal_at (k % 128))) (λ _. false)
      (λ k lt. use_out o (principal_at (k / 128)) (principal_at (k % 128)) (and_left (object_in_range o) _ out))
      ∙ count_none 16384

  range_out : (o : ℕ) (g e : Principal) → (object_in_range o && in_range e) ≡ false → (object_in_range o && (in_range g && in_range e)) ≡ false
  range_out o g e out = search rules

  option_out : (o : ℕ) (p : Privilege) (e : Principal) → (object_in_range o && in_range e) ≡ false → has_option cells o p e ≡ false
  unfolding has_option
  option_out o p e out =
      any_none 128 (λ k. (cells (place o (principal_at k) e p)).option)
      (λ k lt. ap (λ (c : Cell S). c.option) (outside (place o (principal_at k) e p) (range_out o (principal_at k) e out)))

  state_out : (o : ℕ) (p : Privilege) (e : Principal) (t : Orientation) → (object_in_range o && in_range e) ≡ false → strongest (joining s) cells o p e t ≡ s.unassign
  unfolding strongest
  state_out o p e t out =
      none_joined (joining s) laws 128 (λ k. state_towards (joining s) t (cells (place o (principal_at k) e p)))
      (λ k lt. towards_none (joining s) t (cells (place o (principal_at k) e p)) (ap (λ (c : Cell S). c.state) (outside (place o (principal_at k) e p) (range_out o (principal_at k) e out))))

  pub answers_outside_lem : AnswersOutside s cells
  answers_outside_lem = record { no_pairs = pairs_out; no_use = use_out; no_option = option_out; no_state = state_out }

-- no other allowed cell is unassign
pub allowed_unassigned : {S : Type 0} (s : States S) → Lawful s → (c : Cell S) → Allowed s c → c.state ≡ s.unassign → c ≡ unassigned s
allowed_unassigned s law c fine e = search rules

pub unassigned_allowed : {S : Type 0} (s : States S) → Lawful s → Allowed s (unassigned s)
unassigned_allowed s law = search rules
