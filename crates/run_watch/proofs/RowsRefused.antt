-- Rows that don't tell the numbers of a journal are refused.
use Rattle.std.proofs.Common.{◌≡◌, ℕ, zero, suc, ◌+◌, ◌/◌, ◌^◌, ◌≤◌, ◌&&◌, get_or, refl, true, false, Bool, List, [], ◌∷◌, ◌++◌, length, ap, ◌∙◌, arith, length-append}
use Rattle.std.specs.Prelude.{Some, None, nat_eq}
use Rattle.base_words.specs.Charge.{InRange}
use Rattle.base_words.specs.Closing.{IsDrained}
use Rattle.base_words.specs.Stats.{core_stats, stats_of}
use Rattle.run_watch.specs.BadRows as bad
use Rattle.run_watch.specs.BadRows.{RowsAreRefused}
use Rattle.run_watch.specs.Words.{HasAt, place_of, core_words, queue_words, word_if}

none-some : (count : ℕ) → None ≡ Some count → ⊥
none-some count e = cc

is-true : (b : Bool) → 1 ≡ word_if b → b ≡ true
is-true true e = λ i. true
is-true false e = absurd (omega arith)

false-true : false ≡ true → ⊥
false-true e = cc

both : (a b : Bool) → (a && b) ≡ true → (a ≡ true) × (b ≡ true)
both true b e = (refl, e)
both false b e = absurd (false-true e)

-- whether the row has these words from this place on
abbrev has_at : List ℕ → ℕ → List ℕ → Bool
has_at row place [] = true
has_at row place (word ∷ words) = nat_eq (get_or row place 0) word && has_at row (suc place) words

has : (row : List ℕ) (place : ℕ) (words : List ℕ) → has_at row place words ≡ true → HasAt row place words
has row place [] e i within = absurd (omega arith)
has row place (word ∷ words) e zero within =
    let here = (both (nat_eq (get_or row place 0) word) (has_at row (suc place) words) e).0 in
    ap (λ (k : ℕ). get_or row k 0) (let e : place + 0 ≡ place = omega arith in e) ∙ grind (arith, here)
has row place (word ∷ words) e (suc i) within =
    let later = (both (nat_eq (get_or row place 0) word) (has_at row (suc place) words) e).1 in
    ap (λ (k : ℕ). get_or row k 0) (let e : place + suc i ≡ suc place + i = omega arith in e) ∙ has row (suc place) words later i (omega arith)

abbrev row : List ℕ
row = bad.core ++ (bad.idle ++ bad.turned)

right-queue : (queue : ℕ) → queue ≤ 1 → HasAt row (place_of queue) (queue_words (stats_of 1 queue bad.one_turn)) × InRange (stats_of 1 queue bad.one_turn).shares
right-queue zero low = (has row 7 (queue_words (stats_of 1 0 bad.one_turn)) refl, record { positive = omega arith; bounded = omega arith })
right-queue (suc zero) low = (has row 16 (queue_words (stats_of 1 1 bad.one_turn)) refl, record { positive = omega arith; bounded = omega arith })
right-queue (suc (suc queue)) low = absurd (omega arith)

abbrev closed_row : List ℕ
closed_row = 0 ∷ 0 ∷ 0 ∷ 0 ∷ 0 ∷ 1 ∷ 1 ∷ bad.idle

closed-queue : (queue : ℕ) → queue ≤ 0 → HasAt closed_row (place_of queue) (queue_words (stats_of 1 queue bad.closed_itself)) × InRange (stats_of 1 queue bad.closed_itself).shares
closed-queue zero low = (has closed_row 7 (queue_words (stats_of 1 0 bad.closed_itself)) refl, record { positive = omega arith; bounded = omega arith })
closed-queue (suc queue) low = absurd (omega arith)

pub rows_refused : RowsAreRefused
rows_refused = record {
  right = record {
    core = core_stats false bad.one_turn;
    core_is = record { sums = refl; drained = (λ no. absurd (false-true no), λ (is : IsDrained 1 bad.one_turn). absurd (none-some 0 (is.delivered_all 0 (omega arith)))) };
    closed = false;
    closed_is = λ no. absurd (false-true no);
    core_stands = has row 0 (core_words (core_stats false bad.one_turn) 2 false) refl;
    queue_stands = λ queue there placed. (right-queue queue (omega arith)).0;
    shares_fit = λ queue there placed. (right-queue queue (omega arith)).1;
  };
  another_queue = λ t. let e : 0 ≡ 1 = t.queue_stands 1 (omega arith) (omega arith) 1 (omega arith) in omega arith;
  mixed = λ t. let e : 0 ≡ 30 = t.queue_stands 1 (omega arith) (omega arith) 3 (omega arith) in omega arith;
  halves_exchanged = λ t.
      let floor : t.core.floor ≡ 2 ^ 64 = ap (λ c. c.floor) t.core_is.sums in
      let e : 0 ≡ 1 = t.core_stands 1 (omega arith) ∙ ap (λ (n : ℕ). n / 2 ^ 64) floor in omega arith;
  queue_left_out = λ t. let e : 1 ≡ 2 = t.core_stands 5 (omega arith) in omega arith;
  drained = λ t.
      let is = t.core_is.drained.0 (is-true t.core.drained (t.core_stands 4 (omega arith))) in
      none-some 0 (is.delivered_all 0 (omega arith));
  told = record {
    core = core_stats false bad.closed_itself;
    core_is = record { sums = refl; drained = (λ no. absurd (false-true no), λ (is : IsDrained 1 bad.closed_itself). absurd (none-some 0 (is.delivered_all 0 (omega arith)))) };
    closed = true;
    closed_is = λ _. refl;
    core_stands = has closed_row 0 (core_words (core_stats false bad.closed_itself) 1 true) refl;
    queue_stands = λ queue there placed. (closed-queue queue (omega arith)).0;
    shares_fit = λ queue there placed. (closed-queue queue (omega arith)).1;
  };
  own_closing = λ t. false-true (t.closed_is (is-true t.closed (t.core_stands 6 (omega arith))));
  older = λ g.
      let e : 4 ≡ length (g.0 ++ bad.one_turn) = ap (λ (l : List _). length l) g.1 in
      omega (arith, length-append g.0 bad.one_turn);
}
