-- Journals with the end of a turn as no core writes one.
use Rattle.std.specs.Prelude.{ℕ, [], ◌∷◌}
use Rattle.base_words.specs.declared.note.Note.TheVariants.{Took, Resume, Yield, Done, Turned}
use Rattle.base_words.specs.BadJournals.{submission, polled, yielded, done}
use Rattle.base_words.specs.Journal.{Journal}

-- a turn of two polls, 10 ns each
abbrev pub polled_twice : Journal ℕ
polled_twice = Yield (submission 1) 10 ∷ Resume (submission 1) ∷ yielded

-- a turn tells the time of its last poll
abbrev pub last_time : Journal ℕ
last_time = Turned 0 10 ∷ polled_twice

-- a turn tells more than the time of its polls
abbrev pub more_time : Journal ℕ
more_time = Turned 0 21 ∷ polled_twice

-- a poll of 0 ns counts as none
abbrev pub no_time : Journal ℕ
no_time = Turned 0 0 ∷ Done (submission 1) 0 7 ∷ polled

-- a turn is told to be another queue's
abbrev pub turned_elsewhere : Journal ℕ
turned_elsewhere = Turned 1 20 ∷ polled_twice

-- a turn ends while its job is out
abbrev pub turned_while_out : Journal ℕ
turned_while_out = Turned 0 10 ∷ Resume (submission 1) ∷ yielded

-- a turn ends that was never begun
abbrev pub turned_unbegun : Journal ℕ
turned_unbegun = Turned 0 1 ∷ Took (submission 1) 0 ∷ []

-- a turn ends twice
abbrev pub turned_twice : Journal ℕ
turned_twice = Turned 0 20 ∷ Turned 0 20 ∷ polled_twice

-- a turn ends that may go on
abbrev pub ended_early : Journal ℕ
ended_early = Turned 0 10 ∷ yielded

-- where each settled poll ends its turn, no note does
abbrev pub turned_without_bursts : Journal ℕ
turned_without_bursts = Turned 0 10 ∷ done
