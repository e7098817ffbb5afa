-- Journals that the fourth clause of soundness refuses.
use Rattle.std.specs.Prelude.{ℕ, [], ◌∷◌}
use Rattle.base_words.specs.declared.note.Note.TheVariants.{Took, Back, Answered, CoreClosed, Pick, Done, Returned, Shut, Collected, Redeemed}
use Rattle.base_words.specs.declared.note.OutcomeNote.TheVariants as outcome
use Rattle.base_words.specs.declared.order.Answer.TheVariants.{NoMemory}
use Rattle.base_words.specs.declared.order.Mode.TheVariants.{Finish}
use Rattle.base_words.specs.declared.order.Reason.TheVariants.{NoQueue, QueueReturned}
use Rattle.base_words.specs.Assembly.{Assembly}
use Rattle.base_words.specs.BadJournals.{submission, with_journals, one_job, one_command, done}
use Rattle.base_words.specs.Sound.{OutcomesAreSound}

-- a job is done twice
abbrev pub done_twice : Assembly ℕ
done_twice = with_journals (Done (submission 1) 10 7 ∷ done) one_job

-- a job is done that hasn't started
abbrev pub done_unstarted : Assembly ℕ
done_unstarted = with_journals (Done (submission 1) 10 7 ∷ Took (submission 1) 0 ∷ []) one_job

-- a job that is done is handed back
abbrev pub returned_when_done : Assembly ℕ
returned_when_done = with_journals (Returned (submission 1) QueueReturned ∷ Pick 0 10 ∷ done) one_job

-- a job goes back that nobody sent
abbrev pub back_unsent : Assembly ℕ
back_unsent = with_journals (Back (submission 1) NoQueue ∷ []) []

-- a command goes back
abbrev pub command_back : Assembly ℕ
command_back = with_journals (Back (submission 1) NoQueue ∷ []) one_command

-- a job is answered as a command
abbrev pub job_answered : Assembly ℕ
job_answered = with_journals (Answered (submission 1) NoMemory ∷ []) one_job

-- a command is answered twice
abbrev pub answered_twice : Assembly ℕ
answered_twice = with_journals (Answered (submission 1) NoMemory ∷ Answered (submission 1) NoMemory ∷ []) one_command

-- a drained core has lost a job that its shut link still held
abbrev pub drained_without_job : Assembly ℕ
drained_without_job = with_journals (Shut 1 0 ∷ Shut 0 0 ∷ CoreClosed Finish ∷ []) one_job

-- a drained core has lost a command
abbrev pub drained_without_command : Assembly ℕ
drained_without_command = with_journals (Shut 1 0 ∷ Shut 0 0 ∷ CoreClosed Finish ∷ []) one_command

-- another answer is collected than the one that was given
abbrev pub collected_another : Assembly ℕ
collected_another = with_journals done (Collected (submission 1) (outcome.Finished 8) ∷ one_job)

-- an outcome is redeemed that was never given
abbrev pub redeemed_ungiven : Assembly ℕ
redeemed_ungiven = with_journals [] (Redeemed (submission 1) (outcome.Finished 7) ∷ one_job)

-- an outcome is redeemed that wasn't collected
abbrev pub redeemed_uncollected : Assembly ℕ
redeemed_uncollected = with_journals done (Redeemed (submission 1) (outcome.Finished 7) ∷ one_job)

-- an outcome is redeemed twice
abbrev pub redeemed_twice : Assembly ℕ
redeemed_twice =
    with_journals done
    (
    Redeemed (submission 1) (outcome.Finished 7) ∷ Redeemed (submission 1) (outcome.Finished 7) ∷ Collected (submission 1) (outcome.Finished 7) ∷ one_job
    )

-- none of them is sound
pub record OutcomesAreRefused : Type 0 where
  pub twice : OutcomesAreSound done_twice → ⊥
  pub unstarted : OutcomesAreSound done_unstarted → ⊥
  pub both : OutcomesAreSound returned_when_done → ⊥
  pub unsent : OutcomesAreSound back_unsent → ⊥
  pub command : OutcomesAreSound command_back → ⊥
  pub job : OutcomesAreSound job_answered → ⊥
  pub answered : OutcomesAreSound answered_twice → ⊥
  pub lost_job : OutcomesAreSound drained_without_job → ⊥
  pub lost_command : OutcomesAreSound drained_without_command → ⊥
  pub another : OutcomesAreSound collected_another → ⊥
  pub ungiven : OutcomesAreSound redeemed_ungiven → ⊥
  pub uncollected : OutcomesAreSound redeemed_uncollected → ⊥
  pub redeemed : OutcomesAreSound redeemed_twice → ⊥
