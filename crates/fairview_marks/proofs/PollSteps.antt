-- What is known of polls after one more note.
use Rattle.std.proofs.Common.{◌≡◌, ◌∷◌, ◌<◌, length, ◌∙◌, ap}
use Rattle.base_words.specs.declared.note.Note.{Note}
use Rattle.base_words.specs.Journal.{Journal}
use Rattle.note_facts.specs.Accounts.{greatest_count}
use Rattle.note_facts.specs.Names.{SetsEntry}
use Rattle.note_facts.specs.Told.{queue_told}
use Rattle.note_facts.proofs.Naps.{queues_next}
use Rattle.judge_view.specs.Clocks.{clock_of, clock_after}
use Rattle.judge_view.proofs.ClockSteps.{clock_next}
use Rattle.judge_view.specs.declared.clocks.CoreTime.{CoreTime}
use Rattle.fairview_marks.specs.Bars.{KnowsPolls}
use Rattle.fairview_marks.specs.declared.polls.Polls.{Polls}

module _ {T : Type 0} where
  pub clock_read : (old new : CoreTime) (note : Note T) (before : Journal T) → length before < greatest_count →
      new ≡ clock_after note old → old ≡ clock_of before → new ≡ clock_of (note ∷ before)
  clock_read old new note before short read known = read ∙ (ap (clock_after {T = T} note) known ∙ clock_next note before short)

  pub polls_next : (old new : Polls) (note : Note T) (before : Journal T) → length before < greatest_count →
      new.clock ≡ clock_after note old.clock → SetsEntry old.queues new.queues (queue_told note) → KnowsPolls old before → KnowsPolls new (note ∷ before)
  polls_next old new note before short read set knows = record {
    clock = clock_read old.clock new.clock note before short read knows.clock;
    queues = queues_next old.queues new.queues note before set knows.queues;
  }
