-- What is known is what the notes so far tell.
use Rattle.base_words.specs.Journal.{at_place}
use Rattle.judge_view.specs.Watches.{KnowsShares}
use Rattle.judge_view.proofs.shares.CoreShares.of.Given as goal

abbrev pub invariant-loop-place : goal.invariant-loop-place
invariant-loop-place l = KnowsShares l.burst l.shares (at_place l.place l.journal.notes)
