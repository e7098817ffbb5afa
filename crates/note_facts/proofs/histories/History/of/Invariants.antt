use Rattle.base_words.specs.Journal.{at_place}
use Rattle.note_facts.specs.Histories.{HistorySoFar}
use Rattle.note_facts.specs.Jobs.{KnowsPast}
use Rattle.note_facts.proofs.histories.History.of.Given as goal

abbrev pub invariant-loop-place : goal.invariant-loop-place
invariant-loop-place l = HistorySoFar l.facts.items l.journal.notes l.place × KnowsPast l.past (at_place l.place l.journal.notes)
