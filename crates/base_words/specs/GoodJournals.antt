-- Three cores that close and are drained, one in each mode and one by commands, with senders that collect, redeem and detach: the laws refuse the bad journals and not these.
use Rattle.std.specs.Prelude.{◌≡◌, ℕ, [], ◌∷◌}
use Rattle.base_words.specs.declared.note.Note.TheVariants.{Sent, Took, Answered, QueueClosed, CoreClosed, Pick, Start, Resume, Yield, Done, Returned, Shut, Collected, Redeemed, Detached}
use Rattle.base_words.specs.declared.note.OutcomeNote.TheVariants as outcome
use Rattle.base_words.specs.declared.order.Answer.TheVariants.{Closed, AlreadyClosed}
use Rattle.base_words.specs.declared.order.Mode.TheVariants.{Finish, Return}
use Rattle.base_words.specs.declared.order.Order.TheVariants.{Close, CloseCore}
use Rattle.base_words.specs.declared.order.Reason.TheVariants.{QueueReturned, CoreReturned}
use Rattle.base_words.specs.Assembly.{Assembly, journal_of}
use Rattle.base_words.specs.BadJournals.{submission, with_journals, one_job, two_jobs, both_taken}
use Rattle.base_words.specs.Closing.{IsDrained}
use Rattle.base_words.specs.Joining.{AreJoined}
use Rattle.base_words.specs.Journal.{Journal}
use Rattle.base_words.specs.Outstanding.{outstanding_count}
use Rattle.base_words.specs.Sound.{IsSound}

-- the core closes with a job inside, and shuts both gates
abbrev pub closing : Journal ℕ
closing = Shut 1 1 ∷ Shut 0 0 ∷ CoreClosed Finish ∷ Took (submission 1) 0 ∷ []

-- the job runs on
abbrev pub going_on : Journal ℕ
going_on = Yield (submission 1) 10 ∷ Start (submission 1) ∷ Pick 0 0 ∷ closing

-- and is done
abbrev pub ended : Journal ℕ
ended = Done (submission 1) 10 7 ∷ Resume (submission 1) ∷ Pick 0 10 ∷ going_on

-- its sender collects the answer and redeems it
abbrev pub served : Journal ℕ
served = Redeemed (submission 1) (outcome.Finished 7) ∷ Collected (submission 1) (outcome.Finished 7) ∷ one_job

abbrev pub drained_core : Assembly ℕ
drained_core = with_journals ended served

-- one of two jobs was polled, and the core closes in mode `Finish`, and then in mode `Return`
abbrev pub polled_once : Journal ℕ
polled_once = Yield (submission 1) 10 ∷ Start (submission 1) ∷ Pick 0 0 ∷ both_taken

abbrev pub returning : Journal ℕ
returning = CoreClosed Return ∷ CoreClosed Finish ∷ polled_once

-- it hands back both jobs, the waiting one first
abbrev pub one_returned : Journal ℕ
one_returned = Returned (submission 2) CoreReturned ∷ Pick 0 10 ∷ returning

-- and shuts its gates
abbrev pub both_returned : Journal ℕ
both_returned = Shut 0 0 ∷ Shut 1 2 ∷ Returned (submission 1) CoreReturned ∷ Pick 0 10 ∷ one_returned

-- their sender detaches the first job, collects both outcomes, and redeems that of the second
abbrev pub detached_one : Journal ℕ
detached_one =
    Redeemed (submission 2) (outcome.Returned CoreReturned) ∷ Collected (submission 1) (outcome.Returned CoreReturned) ∷
    Collected (submission 2) (outcome.Returned CoreReturned) ∷ Detached (submission 1) ∷ two_jobs

abbrev pub returning_core : Assembly ℕ
returning_core = with_journals both_returned detached_one

-- queue 0 is closed in mode `Return` with a job inside, isn't opened again, and the core is closed
abbrev pub commanded : Journal ℕ
commanded =
    CoreClosed Finish ∷ Answered (submission 4) Closed ∷ Answered (submission 3) AlreadyClosed ∷ QueueClosed 0 Return ∷ Answered (submission 2) Closed ∷
    Took (submission 1) 0 ∷ []

-- its job is handed back, and its gates are shut
abbrev pub emptied : Journal ℕ
emptied = Shut 0 0 ∷ Shut 1 4 ∷ Returned (submission 1) QueueReturned ∷ Pick 0 0 ∷ commanded

-- the sender of the three commands
abbrev pub commanding : Journal ℕ
commanding =
    Sent (submission 4) (CloseCore Finish) ∷ Sent (submission 3) (Close 0 Finish) ∷ Sent (submission 2) (Close 0 Return) ∷ one_job

-- it collects all, redeems the answers that changed something, and detaches the others
abbrev pub answered_all : Journal ℕ
answered_all =
    Detached (submission 1) ∷ Collected (submission 1) (outcome.Returned QueueReturned) ∷
    Redeemed (submission 4) (outcome.Answered Closed) ∷ Collected (submission 4) (outcome.Answered Closed) ∷
    Collected (submission 3) (outcome.Answered AlreadyClosed) ∷ Detached (submission 3) ∷
    Redeemed (submission 2) (outcome.Answered Closed) ∷ Collected (submission 2) (outcome.Answered Closed) ∷ commanding

abbrev pub commanded_core : Assembly ℕ
commanded_core = with_journals emptied answered_all

-- joined journals whose core 0 is drained, which so are sound, and whose outside actor has nothing outstanding
pub record IsServed (assembly : Assembly ℕ) : Type 0 where
  pub drained : IsDrained 1 (journal_of 0 assembly)
  pub joined : AreJoined assembly
  pub sound : IsSound assembly
  pub nothing_outstanding : outstanding_count 0 (journal_of 1 assembly) ≡ 0

-- all three are
pub record DrainedIsSound : Type 0 where
  pub finishing : IsServed drained_core
  pub returning : IsServed returning_core
  pub commanded : IsServed commanded_core
