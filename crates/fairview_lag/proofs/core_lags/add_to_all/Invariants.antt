-- The pairs so far have read the note.
use Rattle.std.proofs.Common.{◌≡◌, ℕ, ◌∷◌, get_or}
use Rattle.base_words.specs.Journal.{Journal}
use Rattle.judge_view.proofs.Tables.{AreChanged}
use Rattle.fairview_marks.specs.Leads.{KnowsStanding}
use Rattle.fairview_lag.specs.PairWalks.{idle, names_below, pair_known, pairs_known}
use Rattle.fairview_lag.proofs.core_lags.add_to_all.Given as goal

abbrev pub invariant-loop-place : goal.invariant-loop-place
invariant-loop-place l =
    (burst count : ℕ) (before : Journal ℕ) → KnowsStanding burst l.standing (l.note ∷ before) → l.initial.pairs.items ≡ pairs_known burst count before →
    AreChanged (λ place was. pair_known burst (l.note ∷ before) (get_or (names_below count) place (0, 0))) (idle (0, 0)) l.initial.pairs.items l.pairs.items l.place
