-- Journals that no core, and no outside actor, may write.
use Rattle.std.specs.Prelude.{ℕ, [], ◌∷◌}
use Rattle.base_words.specs.declared.note.Note.TheVariants as notes
use Rattle.base_words.specs.declared.order.Answer.TheVariants as answers
use Rattle.base_words.specs.declared.order.Mode.TheVariants.{Return}
use Rattle.base_words.specs.declared.order.Order.TheVariants.{Job}
use Rattle.base_words.specs.declared.order.Reason.TheVariants as why
use Rattle.base_words.specs.BadJournals.{submission, two_jobs, both_taken}
use Rattle.base_words.specs.Journal.{Journal}

-- a job that yields goes to the head of its queue, and is polled again before the one behind it
abbrev pub head_again : Journal ℕ
head_again =
    notes.Resume (submission 1) ∷ notes.Pick 0 10 ∷ notes.Yield (submission 1) 10 ∷ notes.Start (submission 1) ∷ notes.Pick 0 0 ∷ both_taken

-- a job is polled that its queue is to hand back
abbrev pub polled_for_return : Journal ℕ
polled_for_return = notes.Start (submission 1) ∷ notes.Pick 0 0 ∷ notes.QueueClosed 0 Return ∷ notes.Took (submission 1) 0 ∷ []

-- an open queue hands its job back
abbrev pub returned_from_open : Journal ℕ
returned_from_open = notes.Returned (submission 1) why.QueueReturned ∷ notes.Pick 0 0 ∷ notes.Took (submission 1) 0 ∷ []

-- a job is done that isn't out
abbrev pub done_of_another : Journal ℕ
done_of_another = notes.Done (submission 2) 10 7 ∷ notes.Start (submission 1) ∷ notes.Pick 0 0 ∷ both_taken

-- a job enters a queue that doesn't exist
abbrev pub taken_into_nothing : Journal ℕ
taken_into_nothing = notes.Took (submission 1) 1 ∷ []

-- the second submission is delivered first
abbrev pub second_delivered : Journal ℕ
second_delivered = notes.Took (submission 2) 0 ∷ []

-- an open core sends a job back because of a closed queue
abbrev pub back_from_open : Journal ℕ
back_from_open = notes.Back (submission 1) why.QueueClosed ∷ []

-- the first queue that is created has number 2
abbrev pub queue_skipped : Journal ℕ
queue_skipped = notes.Created 2 500 ∷ []

-- a creation is answered, and the queue isn't created
abbrev pub effect_missing : Journal ℕ
effect_missing = notes.Took (submission 2) 0 ∷ notes.Answered (submission 1) (answers.Created 1) ∷ []

-- a creation is answered, and shares are set
abbrev pub effect_of_another : Journal ℕ
effect_of_another = notes.SharesSet 0 500 ∷ notes.Answered (submission 1) (answers.Created 1) ∷ []

-- a queue gets other shares by nobody's command
abbrev pub effect_unasked : Journal ℕ
effect_unasked = notes.SharesSet 0 500 ∷ []

-- a queue is created after the opening by nobody's command
abbrev pub created_unasked : Journal ℕ
created_unasked = notes.Created 1 500 ∷ notes.Took (submission 1) 0 ∷ []

-- the first order of a link has number 2
abbrev pub second_sent : Journal ℕ
second_sent = notes.Sent (submission 2) (Job 0 tt) ∷ []

-- a fifth order is sent on a link that holds four
abbrev pub sent_beyond_capacity : Journal ℕ
sent_beyond_capacity =
    notes.Sent (submission 5) (Job 0 tt) ∷ notes.Sent (submission 4) (Job 0 tt) ∷ notes.Sent (submission 3) (Job 0 tt) ∷ two_jobs

-- an order is sent to a core that there isn't
abbrev pub sent_to_nobody : Journal ℕ
sent_to_nobody = notes.Sent (record { from = 1; to = 7; number = 1 }) (Job 0 tt) ∷ []

-- a job is sent to a queue that no core can have
abbrev pub sent_beyond_queues : Journal ℕ
sent_beyond_queues = notes.Sent (submission 1) (Job 256 tt) ∷ []

-- a job is delivered from an actor that there isn't
abbrev pub taken_from_nobody : Journal ℕ
taken_from_nobody = notes.Took (record { from = 7; to = 0; number = 1 }) 0 ∷ []

-- a job is delivered that was sent to another core
abbrev pub taken_for_another : Journal ℕ
taken_for_another = notes.Took (record { from = 1; to = 7; number = 1 }) 0 ∷ []

-- the outside actor takes a job
abbrev pub taken_outside : Journal ℕ
taken_outside = notes.Took (record { from = 1; to = 1; number = 1 }) 0 ∷ []

-- a core sends in the name of the outside actor
abbrev pub sent_for_another : Journal ℕ
sent_for_another = notes.Sent (submission 1) (Job 0 tt) ∷ []

-- a journal ends behind a pick
abbrev pub picked_at_the_end : Journal ℕ
picked_at_the_end = notes.Pick 0 0 ∷ notes.Took (submission 1) 0 ∷ []

-- a journal ends behind an answer, before its effect
abbrev pub answered_at_the_end : Journal ℕ
answered_at_the_end = notes.Answered (submission 1) (answers.Created 1) ∷ []
