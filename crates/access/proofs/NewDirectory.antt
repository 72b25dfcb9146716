-- A new directory.
use Rattle.std.proofs.Common.{◌≡◌, replicate, None}
use mathlib.Core.Path.{fun_ext}
use Rattle.model.proofs.FoldLists.{replicate_at}
use Rattle.access.specs.Masters.{listed, no_masters}

pub none_listed : listed (replicate 32 None) ≡ no_masters
none_listed = fun_ext (λ k. replicate_at None 32 k)
