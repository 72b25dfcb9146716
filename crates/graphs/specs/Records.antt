-- The records of a link list, in the first n places of a slice.
use Rattle.std.specs.Prelude.{◌≡◌, ℕ, zero, suc, ◌<◌, Bool, false, ◌&&◌, ◌||◌, List, ◌==◌, slice_index_or}
use Rattle.model.specs.declared.principal.Principal.{Principal}
use Rattle.model.specs.declared.principal.Principal.TheVariants.{User}
use Rattle.model.specs.Places.{same_principal}
use Rattle.graphs.specs.declared.link.Link.{Link}

abbrev pub link : Principal → ℕ → Link
link p k = record { upper = p; lower = k }

-- what is read past the end
abbrev pub no_link : Link
no_link = link (User 0) 0

abbrev pub at_place : List Link → ℕ → Link
at_place xs k = slice_index_or xs k no_link

abbrev pub is_link : Link → Principal → ℕ → Bool
is_link l p k = same_principal l.upper p && l.lower == k

-- one of the first n records is the link from p to k
abbrev pub held : List Link → ℕ → Principal → ℕ → Bool
held xs zero p k = false
held xs (suc n) p k = is_link (at_place xs n) p k || held xs n p k

-- no record stands twice: none of the first n is held before its place
abbrev pub Distinct : List Link → ℕ → Type 0
Distinct xs n = (j : ℕ) → j < n → held xs j (at_place xs j).upper (at_place xs j).lower ≡ false
