-- A refusal is told by its number, and by the fault of a lower layer that it carries.
use Rattle.std.proofs.Common.{◌≡◌, ℕ, ◌≤◌, cond, eqb, ◌⊎◌, sym, refl, ap, ◌∙◌, inl, inr, arith}
use Rattle.reading.specs.Faults as reading
use Rattle.reading.specs.declared.fault.ReadingFault.{ReadingFault}
use Rattle.reading.specs.declared.fault.ReadingFault.TheVariants.{Header, Mark, Issuer, Length, Body}
use Rattle.wording.specs.Faults as wording
use Rattle.wording.specs.declared.fault.WordingFault.{WordingFault}
use Rattle.wording.specs.declared.fault.WordingFault.TheVariants.{Reading, Sentence, Range}
use Rattle.standing.specs.Faults.{number_of}
use Rattle.standing.specs.declared.fault.StandingFault.{StandingFault}
use Rattle.standing.specs.declared.fault.StandingFault.TheVariants.{Wording, Memory, Registrar, Unknown, Taken, Level, Link, State, Privilege, Granter, Room}
use Rattle.history.specs.Deeds.{Deed, unsaid}
use Rattle.history.specs.Steps.{Carries}

reading_numbers : (f : ReadingFault) → (2 ≤ reading.number_of f) × (reading.number_of f ≤ 8)
reading_numbers (Header at) = (omega arith, omega arith)
reading_numbers (Mark at) = (omega arith, omega arith)
reading_numbers (Issuer at) = (omega arith, omega arith)
reading_numbers (Length at) = (omega arith, omega arith)
reading_numbers (Body at) = (omega arith, omega arith)

-- reading and wording refuse 2 to 8
pub lower_numbers : (f : WordingFault) → (2 ≤ wording.number_of f) × (wording.number_of f ≤ 8)
lower_numbers (Reading f) = reading_numbers f
lower_numbers (Sentence p) = (omega arith, omega arith)
lower_numbers (Range p) = (omega arith, omega arith)

-- the refusal of standing with a number
abbrev by_number : ℕ → StandingFault
by_number k =
    cond (eqb k 1) Memory
    (cond (eqb k 9) Registrar
    (cond (eqb k 10) Unknown
    (cond (eqb k 11) Taken
    (cond (eqb k 12) Level
    (cond (eqb k 13) Link
    (cond (eqb k 14) State
    (cond (eqb k 15) Privilege
    (cond (eqb k 16) Granter
    Room))))))))

-- a refusal is one of reading or wording, or that of standing with its number
kind : (f : StandingFault) → ((g : WordingFault) × (f ≡ Wording g)) ⊎ ((f ≡ by_number (number_of f)) × ((number_of f ≡ 1) ⊎ (9 ≤ number_of f)))
kind (Wording g) = inl (g, refl)
kind Memory = inr (refl, inl refl)
kind Registrar = inr (refl, inr (omega arith))
kind Unknown = inr (refl, inr (omega arith))
kind Taken = inr (refl, inr (omega arith))
kind Level = inr (refl, inr (omega arith))
kind Link = inr (refl, inr (omega arith))
kind State = inr (refl, inr (omega arith))
kind Privilege = inr (refl, inr (omega arith))
kind Granter = inr (refl, inr (omega arith))
kind Room = inr (refl, inr (omega arith))

apart : (f h : StandingFault) (g : WordingFault) → f ≡ Wording g → (number_of h ≡ 1) ⊎ (9 ≤ number_of h) → number_of f ≡ number_of h → ⊥
apart f h g e n q = let k = ap number_of e in let l = lower_numbers g in elim n [ inl x ↦ omega arith | inr x ↦ omega arith ]

-- one deed is refused with a number in one way
pub one_fault : {S : Type 0} (d : Deed S) (f h : StandingFault) → Carries d f → Carries d h → number_of f ≡ number_of h → f ≡ h
one_fault {S} d f h x y e = go (kind f) (kind h)
  where
    go : ((g : WordingFault) × (f ≡ Wording g)) ⊎ ((f ≡ by_number (number_of f)) × ((number_of f ≡ 1) ⊎ (9 ≤ number_of f)))
        → ((g : WordingFault) × (h ≡ Wording g)) ⊎ ((h ≡ by_number (number_of h)) × ((number_of h ≡ 1) ⊎ (9 ≤ number_of h))) → f ≡ h
    go (inl a) (inl b) =
        let p : d ≡ unsaid a.0 = x a.0 a.1 in
        let q : d ≡ unsaid b.0 = y b.0 b.1 in
        let r : a.0 ≡ b.0 = cc in
        a.1 ∙ ap Wording r ∙ sym b.1
    go (inl a) (inr b) = absurd (apart f h a.0 a.1 b.1 e)
    go (inr a) (inl b) = absurd (apart h f b.0 b.1 a.1 (sym e))
    go (inr a) (inr b) = a.0 ∙ ap by_number e ∙ sym b.0
