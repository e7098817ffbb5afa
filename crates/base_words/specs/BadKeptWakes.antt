-- Journals of a core that loses a wake, or uses one that it doesn't have.
use Rattle.std.specs.Prelude.{ℕ, ◌∷◌}
use Rattle.base_words.specs.declared.note.Note.TheVariants as notes
use Rattle.base_words.specs.declared.order.Answer.TheVariants as answers
use Rattle.base_words.specs.declared.order.Order.TheVariants.{Wake}
use Rattle.base_words.specs.Assembly.{Assembly}
use Rattle.base_words.specs.BadJournals.{submission, with_journals, one_job, polled}
use Rattle.base_words.specs.Asleep.{asleep, one_wake, woken_early}

-- a wake before the park is lost
abbrev pub wake_lost : Assembly ℕ
wake_lost = with_journals (notes.Park (submission 1) 10 ∷ notes.Start (submission 1) ∷ notes.Pick 0 0 ∷ woken_early) one_wake

-- or is lost at a yield
abbrev pub wake_lost_at_yield : Assembly ℕ
wake_lost_at_yield =
    with_journals
    (
    notes.Park (submission 1) 10 ∷ notes.Resume (submission 1) ∷ notes.Pick 0 10 ∷ notes.Yield (submission 1) 10 ∷ notes.Start (submission 1) ∷ notes.Pick 0 0 ∷
    woken_early
    )
    one_wake

-- a job stays that nobody woke
abbrev pub stayed_unwoken : Assembly ℕ
stayed_unwoken = with_journals (notes.Stayed (submission 1) 10 ∷ polled) one_job

-- a kept wake is used twice
abbrev pub wake_used_twice : Assembly ℕ
wake_used_twice =
    with_journals
    (
    notes.Stayed (submission 1) 10 ∷ notes.Resume (submission 1) ∷ notes.Pick 0 10 ∷ notes.Stayed (submission 1) 10 ∷ notes.Start (submission 1) ∷ notes.Pick 0 0 ∷
    woken_early
    )
    one_wake

-- so are two, which count as one
abbrev pub wakes_counted : Assembly ℕ
wakes_counted =
    with_journals
    (
    notes.Stayed (submission 1) 10 ∷ notes.Resume (submission 1) ∷ notes.Pick 0 10 ∷ notes.Stayed (submission 1) 10 ∷ notes.Start (submission 1) ∷ notes.Pick 0 0 ∷
    notes.Woken (submission 1) ∷ notes.Answered (submission 3) answers.Woken ∷ woken_early
    )
    (notes.Sent (submission 3) (Wake 1 1) ∷ one_wake)

-- a wake that ended a park is kept besides
abbrev pub wake_of_parked_kept : Assembly ℕ
wake_of_parked_kept =
    with_journals
    (
    notes.Stayed (submission 1) 10 ∷ notes.Resume (submission 1) ∷ notes.Pick 0 10 ∷ notes.Woken (submission 1) ∷ notes.Answered (submission 2) answers.Woken ∷ asleep
    )
    one_wake
