-- Journals with a number beyond its range.
use Rattle.std.specs.Prelude.{ℕ, zero, suc, ◌-◌, ◌^◌, [], ◌∷◌}
use Rattle.base_words.specs.declared.note.Note.TheVariants as notes
use Rattle.base_words.specs.declared.note.OutcomeNote.TheVariants.{Finished}
use Rattle.base_words.specs.declared.order.Answer.TheVariants as answers
use Rattle.base_words.specs.declared.order.Order.TheVariants.{Job}
use Rattle.base_words.specs.BadCollects.{MayWriteOutside}
use Rattle.base_words.specs.BadJournals.{submission}
use Rattle.base_words.specs.Journal.{Journal}
use Rattle.base_words.specs.StepsRefused.{CoreMayWrite}

-- so many jobs were sent, and the outcome of each was redeemed before the next one
abbrev pub redeemed_so_far : ℕ → Journal ℕ
redeemed_so_far zero = []
redeemed_so_far (suc count) =
    notes.Redeemed (submission (suc count)) (Finished 7) ∷ notes.Collected (submission (suc count)) (Finished 7) ∷
    notes.Sent (submission (suc count)) (Job 0 tt) ∷ redeemed_so_far count

-- an order is sent under a number above the last one of a link
abbrev pub sent_beyond_numbers : Journal ℕ
sent_beyond_numbers = notes.Sent (submission (2 ^ 63)) (Job 0 tt) ∷ redeemed_so_far (2 ^ 63 - 1)

-- so many jobs entered queue 0
abbrev pub taken_so_far : ℕ → Journal ℕ
taken_so_far zero = []
taken_so_far (suc count) = notes.Took (submission (suc count)) 0 ∷ taken_so_far count

-- a job is delivered under a number above the last one of a link
abbrev pub taken_beyond_numbers : Journal ℕ
taken_beyond_numbers = notes.Took (submission (2 ^ 63)) 0 ∷ taken_so_far (2 ^ 63 - 1)

-- so many queues were created
abbrev pub created_so_far : ℕ → Journal ℕ
created_so_far zero = []
created_so_far (suc count) = notes.Created (suc count) 500 ∷ created_so_far count

-- a queue is created beside 256 others
abbrev pub created_beyond_queues : Journal ℕ
created_beyond_queues = notes.Created 256 500 ∷ created_so_far 255

-- a queue is created without shares
abbrev pub created_without_shares : Journal ℕ
created_without_shares = notes.Created 1 0 ∷ []

-- a queue is created with more shares than it may have
abbrev pub created_beyond_shares : Journal ℕ
created_beyond_shares = notes.Created 1 10001 ∷ []

-- a command is answered as one that sets shares
abbrev pub shares_answered : Journal ℕ
shares_answered = notes.Answered (submission 1) answers.SharesSet ∷ []

-- a queue gets no shares
abbrev pub set_to_nothing : Journal ℕ
set_to_nothing = notes.SharesSet 0 0 ∷ shares_answered

-- a queue gets more shares than it may have
abbrev pub set_beyond_shares : Journal ℕ
set_beyond_shares = notes.SharesSet 0 10001 ∷ shares_answered

-- shares are set of a queue that doesn't exist
abbrev pub set_for_no_queue : Journal ℕ
set_for_no_queue = notes.SharesSet 1 500 ∷ shares_answered

-- none of them may stand
pub record RangesAreRefused : Type 0 where
  pub sent : MayWriteOutside sent_beyond_numbers → ⊥
  pub taken : CoreMayWrite taken_beyond_numbers → ⊥
  pub queues : CoreMayWrite created_beyond_queues → ⊥
  pub without_shares : CoreMayWrite created_without_shares → ⊥
  pub beyond_shares : CoreMayWrite created_beyond_shares → ⊥
  pub nothing : CoreMayWrite set_to_nothing → ⊥
  pub set_beyond : CoreMayWrite set_beyond_shares → ⊥
  pub no_queue : CoreMayWrite set_for_no_queue → ⊥
