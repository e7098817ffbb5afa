-- The rows of the queues so far stand behind what the page had.
use Rattle.std.proofs.Common.{◌≡◌, ◌++◌, ℕ, string_bytes}
use Rattle.base_words.specs.Journal.{Journal as Notes}
use Rattle.judge_view.specs.Shares.{queue_share}
use Rattle.judge_view.specs.Watches.{KnowsShares}
use Rattle.fairview_report.specs.ShareTexts.{row_text}
use Rattle.fairview_marks.specs.Lists.{lists_below}
use Rattle.fairview_report.proofs.share.put_queues.Given as goal

abbrev pub invariant-loop-queue : goal.invariant-loop-queue
invariant-loop-queue l =
    (burst : ℕ) (journal : Notes ℕ) → KnowsShares burst l.shares journal → string_bytes l.page ≡ string_bytes l.initial.page ++ lists_below (λ queue. row_text l.form l.core l.busy queue (queue_share burst queue journal)) l.queue
