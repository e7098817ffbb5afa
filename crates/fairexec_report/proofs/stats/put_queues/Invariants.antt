-- The lines of the queues so far stand behind what the page had.
use Rattle.std.proofs.Common.{◌≡◌, ◌++◌, ℕ, string_bytes}
use Rattle.base_words.specs.Journal.{Journal as Notes}
use Rattle.note_stats.specs.Walks.{KnowsSums}
use Rattle.fairexec_report.specs.StatTexts.{queues_below}
use Rattle.fairexec_report.proofs.stats.put_queues.Given as goal

abbrev pub invariant-loop-queue : goal.invariant-loop-queue
invariant-loop-queue l =
    (burst : ℕ) (journal : Notes ℕ) → KnowsSums burst l.sums journal → string_bytes l.page ≡ string_bytes l.initial.page ++ queues_below l.queue l.core burst journal
