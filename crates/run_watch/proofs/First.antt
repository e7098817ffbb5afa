-- The row of a core with no note tells the numbers of no note.
use Rattle.std.proofs.Common.{◌≡◌, ℕ, zero, suc, ◌+◌, ◌<◌, false, true, List, [], ◌∷◌, ◌++◌, length, get_or, refl, ap, ◌∙◌, arith, subst}
use Rattle.std.specs.Prelude.{Some, None}
use Rattle.base_words.specs.Closing.{IsDrained}
use Rattle.base_words.specs.Stats.{core_stats, stats_of}
use Rattle.run_watch.specs.Tells.{Tells}
use Rattle.run_watch.specs.Words.{core_words, queue_words, place_of, first_word, words_from, first_row, HasAt}
use Rattle.run_watch.specs.declared.board.Terms.{Terms}

word-at : (i from count : ℕ) → i < count → get_or (words_from from count) i 0 ≡ first_word (from + i)
word-at i from zero within = absurd (omega arith)
word-at zero from (suc count) within = ap first_word (let e : from ≡ from + 0 = omega arith in e)
word-at (suc i) from (suc count) within = word-at i (suc from) count (omega arith) ∙ ap first_word (let e : suc from + i ≡ from + suc i = omega arith in e)

words-length : (from count : ℕ) → length (words_from from count) ≡ count
words-length from zero = refl
words-length from (suc count) = ap suc (words-length (suc from) count)

pub first_row-length : (places : ℕ) → length (first_row places) ≡ place_of places
first_row-length places = words-length 0 (place_of places)

-- one word more
pub words-more : (from count : ℕ) → words_from from (suc count) ≡ words_from from count ++ first_word (from + count) ∷ []
words-more from zero = ap (λ (n : ℕ). first_word n ∷ []) (let e : from ≡ from + 0 = omega arith in e)
words-more from (suc count) =
    ap (λ (l : List ℕ). first_word from ∷ l) (words-more (suc from) count ∙ ap (λ (n : ℕ). words_from (suc from) count ++ first_word n ∷ []) (let e : suc from + count ≡ from + suc count = omega arith in e))

pub first_row-at : (places i : ℕ) → i < place_of places → get_or (first_row places) i 0 ≡ first_word i
first_row-at places i within = word-at i 0 (place_of places) within ∙ ap first_word (let e : 0 + i ≡ i = omega arith in e)

core-first : (i : ℕ) → i < 7 → first_word i ≡ get_or (core_words (core_stats {T = ℕ} false []) 1 false) i 0
core-first zero within = refl
core-first (suc zero) within = refl
core-first (suc (suc zero)) within = refl
core-first (suc (suc (suc zero))) within = refl
core-first (suc (suc (suc (suc zero)))) within = refl
core-first (suc (suc (suc (suc (suc zero))))) within = refl
core-first (suc (suc (suc (suc (suc (suc zero)))))) within = refl
core-first (suc (suc (suc (suc (suc (suc (suc i))))))) within = absurd (omega arith)

queue-first : (burst i : ℕ) → i < 9 → first_word (7 + i) ≡ get_or (queue_words (stats_of {T = ℕ} burst 0 [])) i 0
queue-first burst zero within = refl
queue-first burst (suc zero) within = refl
queue-first burst (suc (suc zero)) within = refl
queue-first burst (suc (suc (suc zero))) within = refl
queue-first burst (suc (suc (suc (suc zero)))) within = refl
queue-first burst (suc (suc (suc (suc (suc zero))))) within = refl
queue-first burst (suc (suc (suc (suc (suc (suc zero)))))) within = refl
queue-first burst (suc (suc (suc (suc (suc (suc (suc zero))))))) within = refl
queue-first burst (suc (suc (suc (suc (suc (suc (suc (suc zero)))))))) within = refl
queue-first burst (suc (suc (suc (suc (suc (suc (suc (suc (suc i))))))))) within = absurd (omega arith)

none-some : (count : ℕ) → None ≡ Some count → ⊥
none-some count e = cc

false-true : false ≡ true → ⊥
false-true e = cc

pub first-tells : (terms : Terms) → Tells terms [] (first_row terms.places)
first-tells terms = record {
  core = core_stats {T = ℕ} false [];
  core_is = record {
    sums = refl;
    drained = (λ no. absurd (false-true no), λ (is : IsDrained terms.cores []). absurd (none-some 0 (is.delivered_all 0 (omega arith))));
  };
  closed = false;
  closed_is = λ no. absurd (false-true no);
  core_stands = λ i within.
      let e : 0 + i ≡ i = omega arith in
      ap (λ (k : ℕ). get_or (first_row terms.places) k 0) e ∙ (first_row-at terms.places i (omega arith) ∙ core-first i within);
  queue_stands = λ queue there placed.
      let first : 0 ≡ queue = omega arith in
      subst (λ (q : ℕ). HasAt (first_row terms.places) (place_of q) (queue_words (stats_of {T = ℕ} terms.burst q []))) first
      (λ i within. first_row-at terms.places (7 + i) (omega arith) ∙ queue-first terms.burst i within);
  shares_fit = λ queue there placed. record { positive = omega arith; bounded = omega arith };
}
