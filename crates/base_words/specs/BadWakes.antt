-- Journals of a core in which a park ends as none may.
use Rattle.std.specs.Prelude.{ℕ, [], ◌∷◌}
use Rattle.base_words.specs.declared.note.Note.TheVariants as notes
use Rattle.base_words.specs.declared.order.Answer.TheVariants as answers
use Rattle.base_words.specs.declared.order.Mode.TheVariants.{Finish, Return}
use Rattle.base_words.specs.declared.order.Order.TheVariants.{Wake}
use Rattle.base_words.specs.declared.order.Reason.TheVariants as why
use Rattle.base_words.specs.Assembly.{Assembly}
use Rattle.base_words.specs.BadJournals.{submission, with_journals, one_job, two_jobs, both_taken}
use Rattle.base_words.specs.Asleep.{asleep, one_asleep, one_wake}
use Rattle.base_words.specs.Joining.{LinksAgree}
use Rattle.base_words.specs.Journal.{Journal}
use Rattle.base_words.specs.Sound.{PicksAreSound}
use Rattle.base_words.specs.StepsRefused.{CoreMayWrite}
use Rattle.base_words.specs.BadPlaces.{old_runtime_kept, entered_beside_parked, closed_at_old_runtime, core_closed_at_old_runtime, left_parked, left_parked_by_core}

-- a closing in mode `Finish` ends a park
abbrev pub finish_wakes : Assembly ℕ
finish_wakes = with_journals (notes.Resume (submission 1) ∷ notes.Pick 0 10 ∷ notes.QueueClosed 0 Finish ∷ asleep) one_job

-- a job is woken by nobody's command
abbrev pub woken_unasked : Journal ℕ
woken_unasked = notes.Woken (submission 1) ∷ asleep

-- a wake is answered, and nobody is woken
abbrev pub wake_missing : Journal ℕ
wake_missing = notes.Took (submission 3) 0 ∷ notes.Answered (submission 2) answers.Woken ∷ asleep

-- a job is woken that isn't inside
abbrev pub woken_outside : Journal ℕ
woken_outside = notes.Woken (submission 2) ∷ notes.Answered (submission 1) answers.Woken ∷ []

-- a job that is woken goes to the head of its queue, and is polled before the one that waited
abbrev pub woken_to_head : Journal ℕ
woken_to_head = notes.Resume (submission 1) ∷ notes.Pick 0 10 ∷ notes.Woken (submission 1) ∷ notes.Answered (submission 3) answers.Woken ∷ one_asleep

-- so does a job that stays
abbrev pub stayed_at_head : Journal ℕ
stayed_at_head =
    notes.Resume (submission 1) ∷ notes.Pick 0 10 ∷ notes.Stayed (submission 1) 10 ∷ notes.Start (submission 1) ∷ notes.Pick 0 0 ∷
    notes.Woken (submission 1) ∷ notes.Answered (submission 3) answers.Woken ∷ both_taken

-- and one whose park a closing ends
abbrev pub returned_before_waiting : Journal ℕ
returned_before_waiting = notes.Returned (submission 1) why.QueueReturned ∷ notes.Pick 0 10 ∷ notes.QueueClosed 0 Return ∷ one_asleep

-- both jobs are parked, the first one first
abbrev pub both_asleep : Journal ℕ
both_asleep = notes.Park (submission 2) 10 ∷ notes.Start (submission 2) ∷ notes.Pick 0 10 ∷ one_asleep

-- a closing hands the one back first that was parked last
abbrev pub returned_backwards : Journal ℕ
returned_backwards = notes.Returned (submission 2) why.CoreReturned ∷ notes.Pick 0 20 ∷ notes.CoreClosed Return ∷ both_asleep

-- both jobs are parked, the second one first
abbrev pub second_asleep_first : Journal ℕ
second_asleep_first =
    notes.Park (submission 1) 10 ∷ notes.Resume (submission 1) ∷ notes.Pick 0 20 ∷ notes.Park (submission 2) 10 ∷ notes.Start (submission 2) ∷ notes.Pick 0 10 ∷
    notes.Yield (submission 1) 10 ∷ notes.Start (submission 1) ∷ notes.Pick 0 0 ∷ both_taken

-- a closing hands them back in order of their names
abbrev pub returned_by_name : Journal ℕ
returned_by_name = notes.Returned (submission 1) why.CoreReturned ∷ notes.Pick 0 30 ∷ notes.CoreClosed Return ∷ second_asleep_first

-- a job that is inside is denied
abbrev pub job_denied : Assembly ℕ
job_denied = with_journals (notes.Answered (submission 2) answers.NoJob ∷ asleep) one_wake

-- since its queue is closed
abbrev pub denied_behind_close : Assembly ℕ
denied_behind_close = with_journals (notes.Answered (submission 2) answers.NoJob ∷ notes.QueueClosed 0 Finish ∷ asleep) one_wake

-- another job is woken than the one that the order names
abbrev pub another_woken : Assembly ℕ
another_woken =
    with_journals (notes.Woken (submission 2) ∷ notes.Answered (submission 3) answers.Woken ∷ one_asleep) (notes.Sent (submission 3) (Wake 1 1) ∷ two_jobs)

-- none of them is sound, may stand, or is as the order sent calls for
pub record WakesAreRefused : Type 0 where
  pub old_runtime : PicksAreSound old_runtime_kept → ⊥
  pub beside : PicksAreSound entered_beside_parked → ⊥
  pub closed_queue : PicksAreSound closed_at_old_runtime → ⊥
  pub closed_core : PicksAreSound core_closed_at_old_runtime → ⊥
  pub left_by_queue : PicksAreSound left_parked → ⊥
  pub left_by_core : PicksAreSound left_parked_by_core → ⊥
  pub finish : PicksAreSound finish_wakes → ⊥
  pub unasked : CoreMayWrite woken_unasked → ⊥
  pub missing : CoreMayWrite wake_missing → ⊥
  pub outside : CoreMayWrite woken_outside → ⊥
  pub head : CoreMayWrite woken_to_head → ⊥
  pub stayed_head : CoreMayWrite stayed_at_head → ⊥
  pub before_waiting : CoreMayWrite returned_before_waiting → ⊥
  pub backwards : CoreMayWrite returned_backwards → ⊥
  pub by_name : CoreMayWrite returned_by_name → ⊥
  pub denied : LinksAgree job_denied → ⊥
  pub denied_closed : LinksAgree denied_behind_close → ⊥
  pub another_job : LinksAgree another_woken → ⊥
