-- Questions that are put in order, each with its number: the first no decides.
use Rattle.std.specs.Prelude.{◌≡◌, ℕ, ◌⊎◌, List, [], ◌∷◌}

pub record Question : Type 1 where
  pub number : ℕ
  pub yes : Type 0

abbrev pub ask : ℕ → Type 0 → Question
ask n Q = record { number = n; yes = Q }

abbrev pub AllYes : List Question → Type 0
AllYes [] = Unit {0}
AllYes (q ∷ qs) = q.yes × AllYes qs

-- each question before the one with the number k is answered yes, and that one no
abbrev pub FirstNo : List Question → ℕ → Type 0
FirstNo [] k = ⊥
FirstNo (q ∷ qs) k = ((q.yes → ⊥) × (k ≡ q.number)) ⊎ (q.yes × FirstNo qs k)
