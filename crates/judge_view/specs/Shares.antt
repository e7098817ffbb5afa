-- What each queue of a core should have got while it had work, and how many jobs waited in it.
use Rattle.std.specs.Prelude.{ℕ, zero, suc, ◌+◌, ◌*◌, ◌/◌, min, max, Option, option_map, [], ◌∷◌, if◌then◌else◌}
use Rattle.base_words.specs.declared.note.Note.{Note}
use Rattle.base_words.specs.Journal.{Journal}
use Rattle.base_words.specs.Limits.{most_queues}
use Rattle.base_words.specs.Runtimes.{shares}
use Rattle.base_words.specs.Work.{has_work}
use Rattle.note_facts.specs.Accounts.{greatest_runtime}
use Rattle.base_words.specs.Stats.{queue_stats}
use Rattle.base_words.specs.Sums.{waiting_count}
use Rattle.judge_view.specs.Clocks.{time_settled}
use Rattle.judge_view.specs.declared.shares.QueueShare.{QueueShare}

-- the part of a time that these shares of so many are due, in thousandths
abbrev pub part : ℕ → ℕ → ℕ → ℕ
part time own all = time * 1000 * own / max all 1

module _ {T : Type 0} where
  -- the shares of a queue, while it has work
  abbrev pub busy_shares : ℕ → Journal T → ℕ
  busy_shares queue journal = if has_work queue journal then shares queue journal else 0

  -- the shares of the queues below this number that have work
  unfoldable pub busy_below : ℕ → Journal T → ℕ
  busy_below zero journal = 0
  busy_below (suc queue) journal = busy_below queue journal + busy_shares queue journal

  -- while a poll runs, each queue with work is due its part of the time, in thousandths of a nanosecond
  abbrev pub due_noted : ℕ → Note T → Journal T → ℕ
  due_noted queue note before = part (time_settled note) (busy_shares queue before) (busy_below most_queues before)

  -- what a queue should have got while it had work, in thousandths of a nanosecond
  abbrev pub due : ℕ → Journal T → ℕ
  due queue [] = 0
  due queue (note ∷ before) = due queue before + due_noted queue note before

  -- how many jobs waited in a queue at most
  abbrev pub most_waiting : ℕ → Journal T → ℕ
  most_waiting queue [] = 0
  most_waiting queue (note ∷ before) = max (most_waiting queue before) (waiting_count queue (note ∷ before))

  -- what is told of the shares of a queue, if there is such a queue; a due time that no `u128` holds is told as the greatest one
  abbrev pub queue_share : ℕ → ℕ → Journal T → Option QueueShare
  queue_share burst queue journal =
      option_map (λ stats. record { stats = stats; due = min (due queue journal) greatest_runtime; most_waiting = most_waiting queue journal })
      (queue_stats burst queue journal)
