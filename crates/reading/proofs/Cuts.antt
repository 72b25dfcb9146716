-- Every input is cut in one way only, and the cut covers it.
use Rattle.std.proofs.Common.{◌≡◌, ℕ, zero, suc, ◌+◌, ◌≤◌, cond, eqb, ◌⊎◌, List, [], ◌∷◌, length, get_or, take, drop, Ok, Err, Result, sym, refl, ap, ◌∙◌, subst, inl, inr, arith, length-drop}
use Rattle.std.specs.Result as results
use Rattle.std.proofs.lemmas.List.{length-take-le}
use Rattle.std.proofs.lemmas.Bool.{cases_lt, cases_eq}
use Rattle.reading.specs.Questions.{AllYes, FirstNo}
use Rattle.reading.specs.Faults.{number_of, place_of}
use Rattle.reading.specs.Records.{Frame, questions, Stands, Refused, after}
use Rattle.reading.specs.Cut.{Entry, Cut, Sound}
use Rattle.reading.specs.declared.fault.ReadingFault.{ReadingFault}
use Rattle.reading.specs.declared.fault.ReadingFault.TheVariants.{Header, Mark, Issuer, Length, Body}
use Rattle.reading.proofs.Asking.{one_first, no_first}

-- a fault is known by its number and its place
fault_at : ℕ → ℕ → ReadingFault
fault_at n at =
    cond (eqb n 2) (Header at) (cond (eqb n 3) (Mark at) (cond (eqb n 4) (Issuer at) (cond (eqb n 5) (Length at) (Body at))))

fault_again : (k : ReadingFault) → fault_at (number_of k) (place_of k) ≡ k
unfolding fault_at
fault_again (Header at) = refl
fault_again (Mark at) = refl
fault_again (Issuer at) = refl
fault_again (Length at) = refl
fault_again (Body at) = refl

same_fault : (j k : ReadingFault) → number_of j ≡ number_of k → place_of j ≡ place_of k → j ≡ k
same_fault j k n p = sym (fault_again j) ∙ ap (λ m. fault_at m (place_of j)) n ∙ ap (fault_at (number_of k)) p ∙ fault_again k

same_refusal : (bs : List ℕ) (at : ℕ) (j k : ReadingFault) → Refused bs at j → Refused bs at k → j ≡ k
same_refusal bs at j k a b = same_fault j k (one_first (questions bs at) _ _ a.first b.first) (a.here ∙ sym b.here)

pub same_frame : (f g : Frame) → f.issuer ≡ g.issuer → f.body ≡ g.body → f ≡ g
same_frame f g i b =
    let issued : ℕ → Frame = λ u. record { issuer = u; body = f.body } in
    let says : List ℕ → Frame = λ t. record { issuer = g.issuer; body = t } in
    ap issued i ∙ ap says b

same_record : (bs : List ℕ) (at : ℕ) (f g : Frame) → Stands bs at f → Stands bs at g → f ≡ g
same_record bs at f g a b = same_frame f g (a.issuer ∙ sym b.issuer) (a.body ∙ sym b.body)

-- the body is as long as the length byte says
pub body_length : (bs : List ℕ) (at : ℕ) (f : Frame) → Stands bs at f → length f.body ≡ get_or bs (at + 3) 0
body_length bs at f h =
    let fits : get_or bs (at + 3) 0 ≤ length (drop (at + 4) bs) = let e = length-drop (at + 4) bs in omega arith in
    ap length h.body ∙ length-take-le (get_or bs (at + 3) 0) (drop (at + 4) bs) fits

-- a record ends within its input
pub ends_within : (bs : List ℕ) (at : ℕ) (f : Frame) → Stands bs at f → after at f ≤ length bs
ends_within bs at f h = let e = body_length bs at f h in omega arith

pub sound_record : (bs : List ℕ) (at : ℕ) (f : Frame) → Stands bs at f → Sound f
sound_record bs at f h =
    let e = body_length bs at f h in
    let i = h.issuer in
    record { issuer = omega arith; some = omega arith; short = omega arith }

-- at an entry there is more to read
not_end : (bs : List ℕ) (at : ℕ) (es : List Entry) (w : Result Frame ReadingFault) → at ≡ length bs
    → results.MatchResult w (λ f. Stands bs at f × Cut bs (after at f) es) (λ k. Refused bs at k × (es ≡ [])) → ⊥
not_end bs at es (Ok f) z h = let y = h.0 in omega arith
not_end bs at es (Err k) z h = h.0.more z

module _ (bs : List ℕ) (at : ℕ) (es ds : List Entry) (tail : (n : ℕ) → Cut bs n es → Cut bs n ds → es ≡ ds) where
  same_entry : (v w : Result Frame ReadingFault)
      → results.MatchResult v (λ f. Stands bs at f × Cut bs (after at f) es) (λ k. Refused bs at k × (es ≡ []))
      → results.MatchResult w (λ f. Stands bs at f × Cut bs (after at f) ds) (λ k. Refused bs at k × (ds ≡ []))
      → (v ≡ w) × (es ≡ ds)
  same_entry (Ok f) (Ok g) a b =
      let e = same_record bs at f g a.0 b.0 in
      (ap Ok e, tail (after at f) a.1 (subst (λ x. Cut bs (after at x) ds) (sym e) b.1))
  same_entry (Ok f) (Err k) a b = absurd (no_first (questions bs at) (number_of k) a.0.yes b.0.first)
  same_entry (Err k) (Ok f) a b = absurd (no_first (questions bs at) (number_of k) b.0.yes a.0.first)
  same_entry (Err j) (Err k) a b = (ap Err (same_refusal bs at j k a.0 b.0), a.1 ∙ sym b.1)

-- two cuts of one input are the same
same_cut : (bs : List ℕ) (at : ℕ) (es ds : List Entry) → Cut bs at es → Cut bs at ds → es ≡ ds
same_cut bs at [] [] a b = refl
same_cut bs at [] (d ∷ ds) a b = absurd (not_end bs at ds d.what a b.1)
same_cut bs at (e ∷ es) [] a b = absurd (not_end bs at es e.what b a.1)
same_cut bs at (e ∷ es) (d ∷ ds) a b =
    let s = same_entry bs at es ds (λ n. same_cut bs n es ds) e.what d.what a.1 b.1 in
    let there : ℕ → Entry = λ n. record { offset = n; what = e.what } in
    let says : Result Frame ReadingFault → Entry = λ w. record { offset = d.offset; what = w } in
    let same : e ≡ d = ap there (a.0 ∙ sym b.0) ∙ ap says s.0 in
    ap (λ x. x ∷ es) same ∙ ap (λ xs. d ∷ xs) s.1

at_most : (m n : ℕ) → (m ≤ n) ⊎ (m ≤ n → ⊥)
at_most m n = elim (cases_lt n m) [ inl l ↦ inr (λ h. omega arith) | inr l ↦ inl l ]

both : {P Q : Type 0} → P ⊎ (P → ⊥) → Q ⊎ (Q → ⊥) → (P × Q) ⊎ (P × Q → ⊥)
both (inl p) (inl q) = inl (p, q)
both (inl p) (inr q) = inr (λ h. q h.1)
both (inr p) q = inr (λ h. p h.0)

-- every offset has a record or a first no
told : (bs : List ℕ) (at : ℕ) → AllYes (questions bs at) ⊎ ((k : ReadingFault) × (FirstNo (questions bs at) (number_of k) × (place_of k ≡ at)))
told bs at =
    elim (at_most (at + 4) (length bs)) [
      | inr n ↦ inr (Header at, (inl (n, refl), refl))
      | inl h ↦ elim (both (cases_eq (get_or bs at 0) 0x46) (cases_eq (get_or bs (at + 1) 0) 0x52)) [
        | inr n ↦ inr (Mark at, (inr (h, inl (n, refl)), refl))
        | inl m ↦ elim (at_most (get_or bs (at + 2) 0) 63) [
          | inr n ↦ inr (Issuer at, (inr (h, inr (m, inl (n, refl))), refl))
          | inl i ↦ elim (both (at_most 1 (get_or bs (at + 3) 0)) (at_most (get_or bs (at + 3) 0) 64)) [
            | inr n ↦ inr (Length at, (inr (h, inr (m, inr (i, inl (n, refl)))), refl))
            | inl l ↦ elim (at_most (at + 4 + get_or bs (at + 3) 0) (length bs)) [
              | inr n ↦ inr (Body at, (inr (h, inr (m, inr (i, inr (l, inl (n, refl))))), refl))
              | inl b ↦ inl (h, (m, (i, (l, (b, tt)))))
            ]
          ]
        ]
      ]
    ]

some_cut : (n : ℕ) (bs : List ℕ) (at : ℕ) → length bs ≤ at + n → at ≤ length bs → (es : List Entry) × Cut bs at es
some_cut zero bs at l m = ([], (omega arith))
some_cut (suc n) bs at l m =
    elim (cases_eq at (length bs)) [
      | inl e ↦ ([], e)
      | inr d ↦ elim (told bs at) [
        | inl y ↦ (let f : Frame = record { issuer = get_or bs (at + 2) 0; body = take (get_or bs (at + 3) 0) (drop (at + 4) bs) } in
            let h : Stands bs at f = record { yes = y; issuer = refl; body = refl } in
            let r = some_cut n bs (after at f) (omega arith) (ends_within bs at f h) in
            (record { offset = at; what = Ok f } ∷ r.0, (refl, (h, r.1))))
        | inr k ↦ (record { offset = at; what = Err k.0 } ∷ [], (refl, (record { more = d; first = k.1.0; here = k.1.1 }, refl)))
      ]
    ]

pub one_way : (bs : List ℕ) → (es : List Entry) × (Cut bs 0 es × ((ds : List Entry) → Cut bs 0 ds → ds ≡ es))
one_way bs = let c = some_cut (length bs) bs 0 (omega arith) (omega arith) in (c.0, (c.1, λ ds d. same_cut bs 0 ds c.0 d c.1))
