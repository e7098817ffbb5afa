-- The shapes of the notes so far stand behind what the page had.
use Rattle.std.proofs.Common.{◌≡◌, ◌++◌, string_bytes}
use Rattle.base_words.specs.Journal.{at_place}
use Rattle.fairview_marks.specs.Bars.{KnowsPolls}
use Rattle.fairview_pictures.specs.Gantts.{notes_text}
use Rattle.fairview_pictures.proofs.lanes.put_notes.Given as goal

abbrev pub invariant-loop-place : goal.invariant-loop-place
invariant-loop-place l = record {
  polls : KnowsPolls l.polls (at_place l.place l.journal.notes);
  put : string_bytes l.page ≡ string_bytes l.initial.page ++ notes_text l.frame (at_place l.place l.journal.notes);
}
