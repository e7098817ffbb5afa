-- Journals that the fifth clause of soundness refuses.
use Rattle.std.specs.Prelude.{ℕ, [], ◌∷◌}
use Rattle.base_words.specs.declared.note.Note.TheVariants.{Took, Created, SharesSet, QueueClosed, Pick, Start, Resume, Yield, Returned}
use Rattle.base_words.specs.declared.order.Mode.TheVariants.{Return}
use Rattle.base_words.specs.declared.order.Reason.TheVariants.{QueueReturned}
use Rattle.base_words.specs.Assembly.{Assembly}
use Rattle.base_words.specs.BadJournals.{submission, with_journals, one_job, two_jobs, job_for_each, both_taken, second_queue_joins}

-- the queue of the greater virtual runtime is picked
abbrev pub second_picked : Assembly ℕ
second_picked = with_journals (Resume (submission 1) ∷ Pick 0 20 ∷ second_queue_joins) job_for_each

-- of two queues at one virtual runtime the one of the greater number is picked
abbrev pub tie_to_the_greater : Assembly ℕ
tie_to_the_greater = with_journals (Start (submission 2) ∷ Pick 1 0 ∷ Took (submission 2) 1 ∷ Took (submission 1) 0 ∷ Created 1 1000 ∷ []) job_for_each

-- a queue is picked at another virtual runtime than its own
abbrev pub picked_at_another : Assembly ℕ
picked_at_another = with_journals (Start (submission 1) ∷ Pick 0 5 ∷ Took (submission 1) 0 ∷ []) one_job

-- a queue that gets work again keeps its old virtual runtime, below the floor
abbrev pub old_runtime_kept : Assembly ℕ
old_runtime_kept = with_journals (Start (submission 2) ∷ Pick 1 0 ∷ second_queue_joins) job_for_each

-- the floor follows the charges and not the picks
abbrev pub floor_follows_charges : Assembly ℕ
floor_follows_charges = with_journals (Start (submission 2) ∷ Pick 1 20 ∷ second_queue_joins) job_for_each

-- a job that is handed back is charged 1 ns
abbrev pub return_charged : Assembly ℕ
return_charged =
    with_journals
    (
    Returned (submission 2) QueueReturned ∷ Pick 0 1 ∷ Returned (submission 1) QueueReturned ∷ Pick 0 0 ∷ QueueClosed 0 Return ∷ both_taken
    )
    two_jobs

-- a poll is charged under the shares that the queue had before
abbrev pub old_shares_charged : Assembly ℕ
old_shares_charged =
    with_journals
    (Resume (submission 1) ∷ Pick 0 30 ∷ Yield (submission 1) 30 ∷ Start (submission 1) ∷ Pick 0 0 ∷ SharesSet 0 500 ∷ Took (submission 1) 0 ∷ []) one_job

-- a queue without work is picked
abbrev pub idle_picked : Assembly ℕ
idle_picked = with_journals (Returned (submission 1) QueueReturned ∷ Pick 0 0 ∷ []) one_job

-- a queue is picked while a job is out
abbrev pub picked_while_out : Assembly ℕ
picked_while_out = with_journals (Start (submission 2) ∷ Pick 0 0 ∷ Start (submission 1) ∷ Pick 0 0 ∷ both_taken) two_jobs

-- a pick is followed by nothing
abbrev pub pick_at_the_end : Assembly ℕ
pick_at_the_end = with_journals (Pick 0 0 ∷ Took (submission 1) 0 ∷ []) one_job

-- a pick is followed by a note that takes no turn
abbrev pub pick_without_turn : Assembly ℕ
pick_without_turn = with_journals (Took (submission 2) 0 ∷ Pick 0 0 ∷ Took (submission 1) 0 ∷ []) two_jobs

-- a pick is followed by a job of another queue
abbrev pub turn_of_another : Assembly ℕ
turn_of_another = with_journals (Start (submission 2) ∷ Pick 0 0 ∷ Took (submission 2) 1 ∷ Took (submission 1) 0 ∷ Created 1 1000 ∷ []) job_for_each

-- a job that entered no queue is handed back without a pick
abbrev pub returned_without_pick : Assembly ℕ
returned_without_pick = with_journals (Returned (submission 1) QueueReturned ∷ []) one_job

-- a job starts without a pick
abbrev pub started_without_pick : Assembly ℕ
started_without_pick = with_journals (Start (submission 1) ∷ Took (submission 1) 0 ∷ []) one_job

-- a job yields that isn't out
abbrev pub yield_of_another : Assembly ℕ
yield_of_another = with_journals (Yield (submission 2) 10 ∷ Start (submission 1) ∷ Pick 0 0 ∷ both_taken) two_jobs
