-- What is known is what the notes so far tell.
use Rattle.base_words.specs.Journal.{at_place}
use Rattle.fairview_lag.specs.PairWalks.{KnowsLags}
use Rattle.fairview_lag.proofs.core_lags.CoreLags.of.Given as goal

abbrev pub invariant-loop-place : goal.invariant-loop-place
invariant-loop-place l = KnowsLags l.burst l.lags (at_place l.place l.journal.notes)
