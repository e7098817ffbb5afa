-- The lines of the notes so far stand behind what the page had.
use Rattle.std.proofs.Common.{◌≡◌, ◌++◌, ℕ, string_bytes}
use Rattle.base_words.specs.Assembly.{Assembly}
use Rattle.base_words.specs.Journal.{at_place}
use Rattle.judge_audit.specs.Links.{KnowsOutcomes}
use Rattle.fairexec_report.specs.Outcomes.{lines_told}
use Rattle.fairexec_report.proofs.outcome_text.put_core.Given as goal

abbrev pub invariant-loop-place : goal.invariant-loop-place
invariant-loop-place l =
    (assembly : Assembly ℕ) → KnowsOutcomes l.outcomes assembly → string_bytes l.page ≡ string_bytes l.initial.page ++ lines_told assembly l.core (at_place l.place l.sent.notes)
