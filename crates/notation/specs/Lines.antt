-- The lines of a text, and which of them state nothing.
use Rattle.std.specs.Prelude.{ℕ, Bool, not, if◌then◌else◌, ◌||◌, List, [], ◌∷◌, codes, filter, map, nat_eq, ◌==◌}
use Rattle.std.specs.List.{before_first, list_all, onto_first, starts_with}

-- each line ends at a line feed or at the end of the text
abbrev pub lines : List ℕ → List (List ℕ)
lines [] = []
lines (b ∷ bs) = if b == 10 then [] ∷ lines bs else onto_first b (lines bs)

-- a line up to its remark, which begins with a tab
abbrev pub unremarked : List ℕ → List ℕ
unremarked l = before_first (λ b. b == 9) l

-- nothing but spaces
abbrev pub blank : List ℕ → Bool
blank l = list_all (λ b. b == 32) l

-- a blank line, or one that begins with #
abbrev pub skipped : List ℕ → Bool
skipped l = starts_with nat_eq l (codes "#") || blank l

-- the lines that are not skipped
abbrev pub kept : List (List ℕ) → List (List ℕ)
kept ls = filter (λ l. not (skipped l)) ls

-- what the lines of a text state, without remarks
abbrev pub statements : List ℕ → List (List ℕ)
statements text = kept (map unremarked (lines text))
