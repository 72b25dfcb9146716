-- What one turn through the words keeps.
use Rattle.std.proofs.Common.{◌≡◌, ℕ, ◌+◌, List, [], ◌∷◌, ◌++◌, length, sym, refl, ap, ◌∙◌, subst, append_assoc, append-nil, arith}
use Rattle.std.specs.List.{AllByRecursion}
use Rattle.std.proofs.SliceLists.{all_by_recursion_push}
use Rattle.words.specs.declared.token.Token.{Token}
use Rattle.words.specs.Words.{words, words_from, text, WordAt}
use Rattle.grammar.specs.Sentences.{offset}
use Rattle.wording.specs.Ranges.{Fine, Exceeds, TooLarge}

-- the words before an offset are fine
pub record Sofar (bs : List ℕ) (at : ℕ) : Type 0 where
  pub before : List (List ℕ)
  pub cut : words bs ≡ before ++ words_from bs at
  pub place : at ≡ offset before
  pub fine : AllByRecursion Fine before

pub start : (bs : List ℕ) → Sofar bs 0
unfolding words_from
start bs = record { before = []; cut = refl; place = refl; fine = tt }

offset_more : (ws : List (List ℕ)) (w : List ℕ) → offset (ws ++ (w ∷ [])) ≡ offset ws + length w + 1
offset_more [] w = omega arith
offset_more (x ∷ ws) w = omega (arith, offset_more ws w)

pub turn : (bs : List ℕ) (at : ℕ) (t : Token) → Sofar bs at → WordAt bs at t → Fine (text t) → Sofar bs (at + length (text t) + 1)
turn bs at t h s f =
    let w = text t in
    record {
      before = h.before ++ (w ∷ []);
      cut = h.cut ∙ ap (λ l. h.before ++ l) s.first ∙ sym (append_assoc h.before (w ∷ []) (words_from bs (at + length w + 1)));
      place = omega (arith, h.place, offset_more h.before w);
      fine = all_by_recursion_push Fine h.before w h.fine f;
    }

pub over : (bs : List ℕ) (at : ℕ) (t : Token) → Sofar bs at → WordAt bs at t → TooLarge (text t) → Exceeds bs at
over bs at t h s x = record {
  before = h.before;
  word = text t;
  after = words_from bs (at + length (text t) + 1);
  cut = h.cut ∙ ap (λ l. h.before ++ l) s.first;
  fine = h.fine;
  large = x;
  place = h.place;
}

pub all : (bs : List ℕ) (at : ℕ) → Sofar bs at → words_from bs at ≡ [] → AllByRecursion Fine (words bs)
all bs at h e = subst (AllByRecursion Fine) (sym (h.cut ∙ ap (λ l. h.before ++ l) e ∙ append-nil h.before)) h.fine
