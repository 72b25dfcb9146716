-- How many links stand.
use Rattle.std.specs.Prelude.{ℕ, zero, suc, ◌+◌, Bool}
use Rattle.model.specs.Folds.{one_if}
use Rattle.model.specs.declared.principal.Principal.{Principal}
use Rattle.model.specs.declared.principal.Principal.TheVariants.{User, Role}

-- f 0 + .. + f (n - 1). Shut, so that a sum over 64 numbers is not written out.
unfoldable pub sum_below : (ℕ → ℕ) → ℕ → ℕ
sum_below f zero = 0
sum_below f (suc n) = f n + sum_below f n

-- the links from one principal
abbrev pub links_from : (Principal → ℕ → Bool) → Principal → ℕ
links_from linked p = sum_below (λ r. one_if (linked p r)) 64

-- the links from all users and all roles
abbrev pub link_count : (Principal → ℕ → Bool) → ℕ
link_count linked = sum_below (λ n. links_from linked (User n)) 64 + sum_below (λ n. links_from linked (Role n)) 64
