-- The bars of a core: its settled polls, one behind another on the clock of its processor time.
use Rattle.std.specs.Prelude.{◌≡◌, ℕ, Option, Some, None, option_map, List, [], ◌∷◌}
use Rattle.base_words.specs.Charge.{clamped}
use Rattle.base_words.specs.declared.names.JobId.{JobId}
use Rattle.base_words.specs.declared.note.Note.{Note}
use Rattle.base_words.specs.declared.note.Note.TheVariants.{Yield, Park, Stayed, Done}
use Rattle.base_words.specs.Journal.{Journal, with_last}
use Rattle.base_words.specs.Picks.{turns}
use Rattle.base_words.specs.Work.{queue_of}
use Rattle.note_facts.specs.Names.{known}
use Rattle.judge_view.specs.Clocks.{busy_time, clock_of}
use Rattle.judge_view.specs.declared.ends.End.{End}
use Rattle.judge_view.specs.declared.ends.End.TheVariants as ends
use Rattle.fairview_marks.specs.declared.polls.Bar.{Bar}
use Rattle.fairview_marks.specs.declared.polls.Polls.{Polls}

-- a poll that took that time: it starts where the polls before it end
abbrev pub bar : {T : Type 0} → JobId → ℕ → End → Journal T → Bar
bar name time end before = record {
  turn = turns before;
  queue = queue_of name before;
  name = name;
  start = busy_time before;
  time = clamped time;
  end = end;
}

-- the poll that a note settles: its job, the time that it took, and how it ended
abbrev pub settled : {T : Type 0} → Note T → Option (JobId × ℕ × End)
settled (Yield name time) = Some (name, time, ends.Yield)
settled (Park name time) = Some (name, time, ends.Park)
settled (Stayed name time) = Some (name, time, ends.Stayed)
settled (Done name time value) = Some (name, time, ends.Done)
settled _ = None

-- a note that settles a poll has a bar
abbrev pub bar_told : {T : Type 0} → Note T → Journal T → Option Bar
bar_told note before = option_map (λ poll. bar poll.0 poll.1 poll.2 before) (settled note)

-- the bars of a journal, the oldest first
abbrev pub bars : {T : Type 0} → Journal T → List Bar
bars [] = []
bars (note ∷ before) = with_last (bars before) (bar_told note before)

-- the clock and the queues of jobs are those of these notes
pub record KnowsPolls {T : Type 0} (polls : Polls) (journal : Journal T) : Type 0 where
  pub clock : polls.clock ≡ clock_of journal
  pub queues : (name : JobId) → known polls.queues name ≡ queue_of name journal
