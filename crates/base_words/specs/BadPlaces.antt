-- Journals of a core that leaves a queue at its old virtual runtime, or its job parked, when a park ends.
use Rattle.std.specs.Prelude.{ℕ, [], ◌∷◌}
use Rattle.base_words.specs.declared.note.Note.TheVariants as notes
use Rattle.base_words.specs.declared.order.Answer.TheVariants as answers
use Rattle.base_words.specs.declared.order.Mode.TheVariants.{Return}
use Rattle.base_words.specs.declared.order.Order.TheVariants.{Wake}
use Rattle.base_words.specs.declared.order.Reason.TheVariants as why
use Rattle.base_words.specs.Assembly.{Assembly}
use Rattle.base_words.specs.BadJournals.{submission, with_journals, job_for_each}
use Rattle.base_words.specs.Journal.{Journal}

-- the job of queue 1 is parked at 5, and the job of queue 0 goes on to 20
abbrev pub other_goes_on : Journal ℕ
other_goes_on =
    notes.Yield (submission 1) 10 ∷ notes.Resume (submission 1) ∷ notes.Pick 0 10 ∷
    notes.Park (submission 2) 5 ∷ notes.Start (submission 2) ∷ notes.Pick 1 0 ∷ notes.Yield (submission 1) 10 ∷ notes.Start (submission 1) ∷ notes.Pick 0 0 ∷
    notes.Took (submission 2) 1 ∷ notes.Took (submission 1) 0 ∷ notes.Created 1 1000 ∷ []

-- woken, its queue keeps its old virtual runtime, below the floor
abbrev pub old_runtime_kept : Assembly ℕ
old_runtime_kept =
    with_journals
    (notes.Resume (submission 2) ∷ notes.Pick 1 5 ∷ notes.Woken (submission 2) ∷ notes.Answered (submission 3) answers.Woken ∷ other_goes_on)
    (notes.Sent (submission 3) (Wake 1 2) ∷ job_for_each)

-- and a job that enters beside a parked one doesn't place its queue at the floor
abbrev pub entered_beside_parked : Assembly ℕ
entered_beside_parked = with_journals (notes.Start (submission 3) ∷ notes.Pick 1 5 ∷ notes.Took (submission 3) 1 ∷ other_goes_on) job_for_each

-- the closing of its queue, or of the core, doesn't place it there either
abbrev pub closed_at_old_runtime : Assembly ℕ
closed_at_old_runtime =
    with_journals (notes.Returned (submission 2) why.QueueReturned ∷ notes.Pick 1 5 ∷ notes.QueueClosed 1 Return ∷ other_goes_on) job_for_each

abbrev pub core_closed_at_old_runtime : Assembly ℕ
core_closed_at_old_runtime =
    with_journals (notes.Returned (submission 2) why.CoreReturned ∷ notes.Pick 1 5 ∷ notes.CoreClosed Return ∷ other_goes_on) job_for_each

-- a closing in mode `Return`, of the queue or of the core, leaves a job parked, and so another queue is picked
abbrev pub left_parked : Assembly ℕ
left_parked = with_journals (notes.Resume (submission 1) ∷ notes.Pick 0 20 ∷ notes.QueueClosed 1 Return ∷ other_goes_on) job_for_each

abbrev pub left_parked_by_core : Assembly ℕ
left_parked_by_core = with_journals (notes.Returned (submission 1) why.CoreReturned ∷ notes.Pick 0 20 ∷ notes.CoreClosed Return ∷ other_goes_on) job_for_each
