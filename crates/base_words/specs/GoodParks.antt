-- Three journals of a core that parks jobs: woken while it is parked, woken before it is, and handed back by a closing. The laws refuse the bad journals and not these.
use Rattle.std.specs.Prelude.{ℕ, [], ◌∷◌}
use Rattle.base_words.specs.declared.names.JobId.{JobId}
use Rattle.base_words.specs.declared.note.Note.TheVariants.{Sent, Took, Answered, Created, QueueClosed, Woken, Pick, Start, Resume, Park, Stayed, Done, Returned}
use Rattle.base_words.specs.declared.order.Answer.TheVariants as answers
use Rattle.base_words.specs.declared.order.Mode.TheVariants.{Return}
use Rattle.base_words.specs.declared.order.Order.TheVariants.{Job, Close, Wake}
use Rattle.base_words.specs.declared.order.Reason.TheVariants.{QueueReturned}
use Rattle.base_words.specs.Assembly.{Assembly}
use Rattle.base_words.specs.Joining.{AreJoined}
use Rattle.base_words.specs.Journal.{Journal}
use Rattle.base_words.specs.Sound.{IsSound}

-- the submission of this number from the core to itself
abbrev pub own : ℕ → JobId
own number = record { from = 0; to = 0; number = number }

-- the journals of the core and of an outside actor that does nothing, whose links hold eight
abbrev pub alone : Journal ℕ → Assembly ℕ
alone core = record { cores = 1; cap = 8; burst = 1; journals = core ∷ [] ∷ [] }

-- both jobs are taken
abbrev pub two_taken : Journal ℕ
two_taken = Took (own 2) 0 ∷ Took (own 1) 0 ∷ Sent (own 2) (Job 0 tt) ∷ Sent (own 1) (Job 0 tt) ∷ []

-- the first one is parked
abbrev pub first_parked : Journal ℕ
first_parked = Park (own 1) 10 ∷ Start (own 1) ∷ Pick 0 0 ∷ two_taken

-- the second one is done, and the first one is woken
abbrev pub first_woken : Journal ℕ
first_woken =
    Woken (own 1) ∷ Answered (own 3) answers.Woken ∷ Sent (own 3) (Wake 0 1) ∷ Done (own 2) 20 2 ∷ Start (own 2) ∷ Pick 0 10 ∷ first_parked

-- and goes on where the floor and the charges left its queue
abbrev pub woken_later : Journal ℕ
woken_later = Done (own 1) 5 1 ∷ Resume (own 1) ∷ Pick 0 30 ∷ first_woken

-- a job is woken before it is polled
abbrev pub wake_kept : Journal ℕ
wake_kept = Woken (own 1) ∷ Answered (own 2) answers.Woken ∷ Sent (own 2) (Wake 0 1) ∷ Took (own 1) 0 ∷ Sent (own 1) (Job 0 tt) ∷ []

-- so it stays in its line
abbrev pub stayed : Journal ℕ
stayed = Stayed (own 1) 10 ∷ Start (own 1) ∷ Pick 0 0 ∷ wake_kept

-- once it is done it can't be woken
abbrev pub woken_early : Journal ℕ
woken_early = Answered (own 3) answers.NoJob ∷ Sent (own 3) (Wake 0 1) ∷ Done (own 1) 5 1 ∷ Resume (own 1) ∷ Pick 0 10 ∷ stayed

-- a job is taken into a second queue
abbrev pub taken_beside : Journal ℕ
taken_beside = Took (own 1) 1 ∷ Sent (own 1) (Job 1 tt) ∷ Created 1 1000 ∷ []

-- it is parked, and its queue is closed in mode `Return`
abbrev pub closed_over : Journal ℕ
closed_over =
    QueueClosed 1 Return ∷ Answered (own 2) answers.Closed ∷ Sent (own 2) (Close 1 Return) ∷ Park (own 1) 20 ∷ Start (own 1) ∷ Pick 1 0 ∷ taken_beside

-- so it is handed back
abbrev pub handed_back : Journal ℕ
handed_back = Returned (own 1) QueueReturned ∷ Pick 1 20 ∷ closed_over

-- joined journals, which so are sound
pub record IsGood (assembly : Assembly ℕ) : Type 0 where
  pub joined : AreJoined assembly
  pub sound : IsSound assembly

-- all three are
pub record ParkingIsSound : Type 0 where
  pub later : IsGood (alone woken_later)
  pub early : IsGood (alone woken_early)
  pub returned : IsGood (alone handed_back)
