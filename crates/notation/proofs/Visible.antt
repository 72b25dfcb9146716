-- What is shown has no control characters but the tab before a remark: a line is one line, and its remark can be told from it.
use Rattle.std.proofs.Common.{◌≡◌, ℕ, zero, suc, ◌/◌, ◌%◌, ◌≤◌, true, false, cond, eqb, ◌⊎◌, List, [], ◌∷◌, ◌++◌, Ok, Err, codes, decimal, Result, sym, refl, ap, ◌∙◌, subst, inl, inr, arith}
use Rattle.std.proofs.ByRecursion.{All-append, All-weaker}
use Rattle.std.proofs.lemmas.Bool.{cases_Bool}
use Rattle.std.proofs.lemmas.Bool.Decides.{nat_tests}
use Rattle.std.specs.Fmt.{digits, digit_glyph, digits_onto}
use Rattle.std.specs.List.{flat_map, AllByRecursion}
use Rattle.grammar.specs.declared.sentence.Sentence.{Sentence}
use Rattle.wording.specs.Faults.{number_of, place_of}
use Rattle.wording.specs.declared.fault.WordingFault.{WordingFault}
use Rattle.reading.specs.Faults.{told}
use Rattle.reading.specs.Records.{Frame}
use Rattle.reading.specs.Cut.{Sound}
use Rattle.notation.specs.Lines.{unremarked}
use Rattle.notation.specs.Shown.{plain, hex, shown, head, line, remark}
use Rattle.notation.proofs.Showing.{shown_plain, shown_escaped}
use Rattle.notation.proofs.Splitting.{NoFeed, unremarked_tab, unremarked_more}

abbrev pub Visible : ℕ → Type 0
Visible b = 32 ≤ b

hex_visible : (d : ℕ) → Visible (hex d)
hex_visible d = grind (arith, nat_tests)

plain_visible : (b : ℕ) → plain b ≡ true → Visible b
plain_visible b p = grind (arith, nat_tests)

shown_visible : (b : ℕ) → AllByRecursion Visible (shown b)
shown_visible b =
    elim (cases_Bool (plain b)) [
      | inl p ↦ subst (AllByRecursion Visible) (sym (shown_plain b p)) (plain_visible b p, tt)
      | inr p ↦ subst (AllByRecursion Visible) (sym (shown_escaped b p)) (omega arith, (omega arith, (hex_visible (b / 16), (hex_visible (b % 16), tt))))
    ]

body_visible : (bs : List ℕ) → AllByRecursion Visible (flat_map shown bs)
body_visible [] = tt
body_visible (b ∷ bs) = All-append Visible (shown b) (flat_map shown bs) (shown_visible b) (body_visible bs)

glyph_visible : (d : ℕ) → Visible (digit_glyph false d)
glyph_visible d = grind (arith, nat_tests)

spelled_visible : (k n : ℕ) (acc : List ℕ) → AllByRecursion Visible acc → AllByRecursion Visible (digits_onto k 10 false n acc)
spelled_visible zero n acc h = h
spelled_visible (suc k) n acc h =
    let d = digit_glyph false (n % 10) in
    elim (eqb (n / 10) 0) as (λ b. AllByRecursion Visible (cond b (d ∷ acc) (digits_onto k 10 false (n / 10) (d ∷ acc)))) [
      | true ↦ (glyph_visible (n % 10), h)
      | false ↦ spelled_visible k (n / 10) (d ∷ acc) (glyph_visible (n % 10), h)
    ]

decimal_visible : (n : ℕ) → AllByRecursion Visible (decimal n)
unfolding digits
decimal_visible n = spelled_visible 64 n [] tt

head_visible : (n : ℕ) → AllByRecursion Visible (head n)
head_visible n = (omega arith, All-append Visible (decimal n) (32 ∷ []) (decimal_visible n) (omega arith, tt))

pub line_visible : (f : Frame) → Sound f → AllByRecursion Visible (line f)
line_visible f s = All-append Visible (head f.issuer) (flat_map shown f.body) (head_visible f.issuer) (body_visible f.body)

told_visible : (n p : ℕ) → AllByRecursion Visible (told n p)
told_visible n p =
    let tail : AllByRecursion Visible (codes " at " ++ decimal p) = (omega arith, (omega arith, (omega arith, (omega arith, decimal_visible p)))) in
    (omega arith, (omega arith, (omega arith, All-append Visible (decimal n) (codes " at " ++ decimal p) (decimal_visible n) tail)))

-- a remark is nothing, or a tab and what is visible
abbrev pub Remark : List ℕ → Type 0
Remark m = (m ≡ []) ⊎ ((t : List ℕ) × ((m ≡ 9 ∷ t) × AllByRecursion Visible t))

pub remark_shape : (r : Result Sentence WordingFault) → Remark (remark r)
remark_shape (Ok s) = inl refl
remark_shape (Err k) = inr (told (number_of k) (place_of k), (refl, told_visible (number_of k) (place_of k)))

-- the line can be told from its remark
pub before_remark : (l m : List ℕ) → AllByRecursion Visible l → Remark m → unremarked (l ++ m) ≡ l
before_remark [] m v (inl e) = ap unremarked e
before_remark [] m v (inr e) = ap unremarked e.1.0 ∙ unremarked_tab 9 e.0 refl
before_remark (b ∷ l) m v r = let n = v.0 in unremarked_more b (l ++ m) (λ e. omega arith) ∙ ap (λ t. b ∷ t) (before_remark l m v.1 r)

visible_no_feed : (l : List ℕ) → AllByRecursion Visible l → AllByRecursion NoFeed l
visible_no_feed l v = All-weaker Visible NoFeed (λ b h e. omega arith) l v

remark_no_feed : (m : List ℕ) → Remark m → AllByRecursion NoFeed m
remark_no_feed m (inl e) = subst (AllByRecursion NoFeed) (sym e) tt
remark_no_feed m (inr e) = subst (AllByRecursion NoFeed) (sym e.1.0) (λ z. omega arith, visible_no_feed e.0 e.1.1)

-- both stand on one line
pub one_line : (l m : List ℕ) → AllByRecursion Visible l → Remark m → AllByRecursion NoFeed (l ++ m)
one_line l m v r = All-append NoFeed l m (visible_no_feed l v) (remark_no_feed m r)
