-- Journals that the second clause of soundness refuses.
use Rattle.std.specs.Prelude.{ℕ, [], ◌∷◌}
use Rattle.base_words.specs.declared.note.Note.TheVariants.{Sent, Took, Back, Pick, Start, Yield, Collected}
use Rattle.base_words.specs.declared.note.OutcomeNote.TheVariants as outcome
use Rattle.base_words.specs.declared.order.Order.TheVariants.{Job}
use Rattle.base_words.specs.declared.order.Reason.TheVariants.{NoQueue}
use Rattle.base_words.specs.Assembly.{Assembly}
use Rattle.base_words.specs.BadJournals.{submission, with_journals, one_job, two_jobs, one_command, both_taken}
use Rattle.base_words.specs.Sound.{OrderIsSound}

-- the second job of a sender in a queue starts before the first one
abbrev pub started_out_of_order : Assembly ℕ
started_out_of_order =
    with_journals (Start (submission 1) ∷ Pick 0 1 ∷ Yield (submission 2) 1 ∷ Start (submission 2) ∷ Pick 0 0 ∷ both_taken) two_jobs

-- a link begins with number 2
abbrev pub number_skipped : Assembly ℕ
number_skipped = with_journals [] (Sent (submission 2) (Job 0 tt) ∷ [])

-- a number is given twice
abbrev pub number_given_twice : Assembly ℕ
number_given_twice = with_journals [] (Sent (submission 1) (Job 0 tt) ∷ one_job)

-- a job enters another queue than the one that it was sent to
abbrev pub taken_elsewhere : Assembly ℕ
taken_elsewhere = with_journals (Took (submission 1) 1 ∷ []) one_job

-- a command enters a queue
abbrev pub command_taken : Assembly ℕ
command_taken = with_journals (Took (submission 1) 0 ∷ []) one_command

-- a job is delivered that nobody sent
abbrev pub delivered_unsent : Assembly ℕ
delivered_unsent = with_journals (Back (submission 1) NoQueue ∷ []) []

-- the receiver takes a job twice
abbrev pub delivered_twice : Assembly ℕ
delivered_twice = with_journals (Took (submission 1) 0 ∷ Took (submission 1) 0 ∷ []) one_job

-- the second job is delivered before the first one
abbrev pub delivered_out_of_turn : Assembly ℕ
delivered_out_of_turn = with_journals (Took (submission 1) 0 ∷ Took (submission 2) 0 ∷ []) two_jobs

-- an outcome is collected that the core didn't give
abbrev pub collected_ungiven : Assembly ℕ
collected_ungiven = with_journals [] (Collected (submission 1) (outcome.Finished 7) ∷ one_job)

-- an outcome is collected before the one that was given first
abbrev pub collected_out_of_turn : Assembly ℕ
collected_out_of_turn =
    with_journals (Back (submission 2) NoQueue ∷ Back (submission 1) NoQueue ∷ []) (Collected (submission 2) (outcome.Returned NoQueue) ∷ two_jobs)

-- none of them is sound
pub record OrderIsRefused : Type 0 where
  pub starts : OrderIsSound started_out_of_order → ⊥
  pub skipped : OrderIsSound number_skipped → ⊥
  pub given_twice : OrderIsSound number_given_twice → ⊥
  pub elsewhere : OrderIsSound taken_elsewhere → ⊥
  pub command : OrderIsSound command_taken → ⊥
  pub unsent : OrderIsSound delivered_unsent → ⊥
  pub twice : OrderIsSound delivered_twice → ⊥
  pub delivered : OrderIsSound delivered_out_of_turn → ⊥
  pub ungiven : OrderIsSound collected_ungiven → ⊥
  pub collected : OrderIsSound collected_out_of_turn → ⊥
