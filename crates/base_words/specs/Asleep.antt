-- Journals of a core whose first job is parked, or was woken.
use Rattle.std.specs.Prelude.{ℕ, [], ◌∷◌}
use Rattle.base_words.specs.declared.note.Note.TheVariants as notes
use Rattle.base_words.specs.declared.order.Answer.TheVariants as answers
use Rattle.base_words.specs.declared.order.Order.TheVariants.{Wake}
use Rattle.base_words.specs.BadJournals.{submission, one_job, both_taken, polled}
use Rattle.base_words.specs.Journal.{Journal}

-- the first job is parked after a poll of 10 ns
abbrev pub asleep : Journal ℕ
asleep = notes.Park (submission 1) 10 ∷ polled

-- the first job is parked, and the second one waits
abbrev pub one_asleep : Journal ℕ
one_asleep = notes.Park (submission 1) 10 ∷ notes.Start (submission 1) ∷ notes.Pick 0 0 ∷ both_taken

-- the outside actor wakes the first job by its second order
abbrev pub one_wake : Journal ℕ
one_wake = notes.Sent (submission 2) (Wake 1 1) ∷ one_job

-- the first job is woken before it was polled
abbrev pub woken_early : Journal ℕ
woken_early = notes.Woken (submission 1) ∷ notes.Answered (submission 2) answers.Woken ∷ notes.Took (submission 1) 0 ∷ []

-- a core with a parked job, whose gates are shut, behind which all was delivered
abbrev pub asleep_behind_gates : Journal ℕ
asleep_behind_gates = notes.Shut 1 1 ∷ notes.Shut 0 0 ∷ asleep
