-- What is told of other journals than those that were handed over is refused.
use Rattle.std.proofs.Common.{◌≡◌, ℕ, [], ◌∷◌, ◌++◌, List, refl, sym, ap, ◌∙◌, get_or, length, length-append, append-nil, arith}
use Rattle.std.specs.Prelude.{codes}
use Rattle.judge_view.specs.Rows.{first_poll, poll_row as poll_of}
use Rattle.judge_view.specs.declared.ends.End.TheVariants as ends
use Rattle.fairview_marks.specs.Lists.{lists_below}
use Rattle.fairview_report.specs.BadWalks.{BadWalksAreRefused}
use Rattle.fairview_report.specs.PollTexts.{head_text, poll_row, rows_now, rows_of}

-- the row of the poll
abbrev row : List ℕ
row = (poll_row 0 (poll_of 1 0 0 1 1 30 ends.Yield) ++ codes "\n") ++ []

row_now : (head_text ++ rows_of []) ++ rows_now 0 1 first_poll ≡ head_text ++ row
unfolding lists_below
row_now = refl

row_before : (head_text ++ rows_of (first_poll ∷ [])) ++ rows_now 1 1 [] ≡ head_text ++ (row ++ [])
unfolding lists_below
row_before = refl

row_outside : (head_text ++ rows_of ([] ∷ [])) ++ rows_now 1 1 first_poll ≡ head_text
unfolding lists_below
row_outside = refl

-- a page with one more line is longer
longer : (front line : List ℕ) → front ≡ front ++ ((line ++ codes "\n") ++ []) → ⊥
longer front line is =
    absurd
    (omega (arith, ap length is, length-append front ((line ++ codes "\n") ++ []), length-append (line ++ codes "\n") [], length-append line (codes "\n")))

not_nothing : (rest : List ℕ) → [] ≡ (head_text ++ rest) ++ rows_now 0 1 [] → ⊥
not_nothing rest is = let first : 0 ≡ 99 = ap (λ (bytes : List ℕ). get_or bytes 0 0) is in absurd (omega (arith, first))

pub refused : BadWalksAreRefused
refused = record {
  untold = λ is. elim is [ ];
  invented = λ is. elim is [ ];
  swapped = λ is. let count : 0 ≡ 1 = is.0 in absurd (omega (arith, count));
  other_cores = λ is. let cores : 2 ≡ 1 = is.same_cores in absurd (omega (arith, cores));
  other_burst = λ is. let burst : 2 ≡ 1 = is.same_burst in absurd (omega (arith, burst));
  headless = λ rows empty has. not_nothing (rows_of []) (sym empty ∙ has.page);
  other_actor = λ rows one has. let actor : rows.actor ≡ 0 = has.actor in absurd (omega (arith, one, actor));
  unwritten = λ rows head has. longer head_text (poll_row 0 (poll_of 1 0 0 1 1 30 ends.Yield)) (sym head ∙ (has.page ∙ row_now));
  forgotten =
      λ rows head has.
      longer head_text (poll_row 0 (poll_of 1 0 0 1 1 30 ends.Yield)) (sym head ∙ (has.page ∙ (row_before ∙ ap (λ rest. head_text ++ rest) (append-nil row))));
  outside = λ rows more has. absurd (omega (arith, more, ap length (has.page ∙ row_outside)));
  read_of_none = λ journal old new has. absurd (omega (arith, has.after, has.before));
  one_queue_more = λ old new one two same. absurd (omega (arith, one, two, same.count));
}
