-- The lines of the notes so far stand behind what the page had.
use Rattle.std.proofs.Common.{◌≡◌, ◌++◌, string_bytes}
use Rattle.base_words.specs.Journal.{at_place}
use Rattle.judge_view.specs.Stories.{KnowsStory, chapters}
use Rattle.fairview_report.specs.StoryTexts.{chapters_text}
use Rattle.fairview_report.proofs.story.put_chapters.Given as goal

abbrev pub invariant-loop-place : goal.invariant-loop-place
invariant-loop-place l = record {
  put : string_bytes l.page ≡ string_bytes l.initial.page ++ chapters_text l.teller (chapters l.fn.part l.name (at_place l.place l.journal.notes));
  knows : KnowsStory l.fn.part l.name l.walk (at_place l.place l.journal.notes);
}
