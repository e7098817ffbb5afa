-- Journals of a core that parks and wakes as none may.
use Rattle.std.specs.Prelude.{ℕ, ◌∷◌}
use Rattle.base_words.specs.declared.note.Note.TheVariants as notes
use Rattle.base_words.specs.declared.order.Answer.TheVariants as answers
use Rattle.base_words.specs.declared.order.Mode.TheVariants.{Return}
use Rattle.base_words.specs.declared.order.Reason.TheVariants as why
use Rattle.base_words.specs.Assembly.{Assembly}
use Rattle.base_words.specs.BadJournals.{submission, with_journals, one_job, two_jobs, both_taken, polled}
use Rattle.base_words.specs.Closing.{IsDrained}
use Rattle.base_words.specs.Sound.{PicksAreSound}
use Rattle.base_words.specs.Asleep.{asleep, one_asleep, one_wake, woken_early, asleep_behind_gates}
use Rattle.base_words.specs.BadKeptWakes.{wake_lost, wake_lost_at_yield, stayed_unwoken, wake_used_twice, wakes_counted, wake_of_parked_kept}

-- a parked job counts as work: its queue is picked, and it is polled again
abbrev pub parked_as_work : Assembly ℕ
parked_as_work = with_journals (notes.Resume (submission 1) ∷ notes.Pick 0 10 ∷ asleep) one_job

-- beside another job a parked one is polled
abbrev pub parked_resumed : Assembly ℕ
parked_resumed = with_journals (notes.Resume (submission 1) ∷ notes.Pick 0 10 ∷ one_asleep) two_jobs

-- or handed back
abbrev pub parked_returned : Assembly ℕ
parked_returned = with_journals (notes.Returned (submission 1) why.QueueReturned ∷ notes.Pick 0 10 ∷ one_asleep) two_jobs

-- a queue that hands back parks a job
abbrev pub parked_when_returning : Assembly ℕ
parked_when_returning = with_journals (notes.Park (submission 1) 10 ∷ notes.QueueClosed 0 Return ∷ polled) one_job

-- a core that hands back parks a job
abbrev pub parked_by_returning : Assembly ℕ
parked_by_returning = with_journals (notes.Park (submission 1) 10 ∷ notes.CoreClosed Return ∷ polled) one_job

-- a job is parked that isn't out
abbrev pub park_of_another : Assembly ℕ
park_of_another = with_journals (notes.Park (submission 2) 10 ∷ notes.Start (submission 1) ∷ notes.Pick 0 0 ∷ both_taken) two_jobs

-- a poll that ends in a park is free
abbrev pub park_free : Assembly ℕ
park_free =
    with_journals (notes.Resume (submission 1) ∷ notes.Pick 0 0 ∷ notes.Woken (submission 1) ∷ notes.Answered (submission 2) answers.Woken ∷ asleep) one_wake

-- so is one whose job stays
abbrev pub stayed_free : Assembly ℕ
stayed_free =
    with_journals
    (notes.Resume (submission 1) ∷ notes.Pick 0 0 ∷ notes.Stayed (submission 1) 10 ∷ notes.Start (submission 1) ∷ notes.Pick 0 0 ∷ woken_early)
    one_wake

-- none of them is sound, or is drained
pub record ParksAreRefused : Type 0 where
  pub as_work : PicksAreSound parked_as_work → ⊥
  pub resumed : PicksAreSound parked_resumed → ⊥
  pub returned : PicksAreSound parked_returned → ⊥
  pub lost : PicksAreSound wake_lost → ⊥
  pub lost_at_yield : PicksAreSound wake_lost_at_yield → ⊥
  pub unwoken : PicksAreSound stayed_unwoken → ⊥
  pub twice : PicksAreSound wake_used_twice → ⊥
  pub counted : PicksAreSound wakes_counted → ⊥
  pub kept_besides : PicksAreSound wake_of_parked_kept → ⊥
  pub returning_queue : PicksAreSound parked_when_returning → ⊥
  pub returning_core : PicksAreSound parked_by_returning → ⊥
  pub another : PicksAreSound park_of_another → ⊥
  pub free : PicksAreSound park_free → ⊥
  pub stay_free : PicksAreSound stayed_free → ⊥
  pub drained : IsDrained 1 asleep_behind_gates → ⊥
