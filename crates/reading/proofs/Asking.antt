-- Questions in order have one first no, and none where all are answered yes.
use Rattle.std.proofs.Common.{◌≡◌, ℕ, List, [], ◌∷◌, sym, ◌∙◌, inl, inr}
use Rattle.reading.specs.Questions.{Question, AllYes, FirstNo}

pub one_first : (qs : List Question) (j k : ℕ) → FirstNo qs j → FirstNo qs k → j ≡ k
one_first [] j k a b = absurd a
one_first (q ∷ qs) j k (inl a) (inl b) = a.1 ∙ sym b.1
one_first (q ∷ qs) j k (inl a) (inr b) = absurd (a.0 b.0)
one_first (q ∷ qs) j k (inr a) (inl b) = absurd (b.0 a.0)
one_first (q ∷ qs) j k (inr a) (inr b) = one_first qs j k a.1 b.1

pub no_first : (qs : List Question) (k : ℕ) → AllYes qs → FirstNo qs k → ⊥
no_first [] k a b = b
no_first (q ∷ qs) k a (inl b) = b.0 a.0
no_first (q ∷ qs) k a (inr b) = no_first qs k a.1 b.1
