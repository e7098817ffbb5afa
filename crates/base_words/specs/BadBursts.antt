-- Journals of a core whose turns have at most two polls, each with a turn that no core takes.
use Rattle.std.specs.Prelude.{ℕ, [], ◌∷◌}
use Rattle.base_words.specs.declared.note.Note.TheVariants.{Took, Created, QueueClosed, Answered, Pick, Start, Resume, Yield, Returned, Turned}
use Rattle.base_words.specs.declared.order.Answer.TheVariants.{Closed}
use Rattle.base_words.specs.declared.order.Mode.TheVariants.{Return}
use Rattle.base_words.specs.declared.order.Reason.TheVariants.{QueueReturned}
use Rattle.base_words.specs.Assembly.{Assembly}
use Rattle.base_words.specs.BadJournals.{submission, with_journals, one_job, two_jobs, job_for_each, both_taken, yielded}
use Rattle.base_words.specs.Journal.{Journal, EachNote}
use Rattle.base_words.specs.Lawful.{MayStand, IsLawful, IsTurnEnd}
use Rattle.base_words.specs.Sound.{PicksAreSound}
use Rattle.base_words.specs.Terms.{Terms}
use Rattle.base_words.specs.BadEnds.{polled_twice, last_time, more_time, no_time, turned_elsewhere, turned_while_out, turned_unbegun, turned_twice, ended_early, turned_without_bursts}

-- the journals of the core and of the outside actor, where a turn may have two polls
abbrev pub with_bursts : Journal ℕ → Journal ℕ → Assembly ℕ
with_bursts core outside = record { cores = 1; cap = 4; burst = 2; journals = core ∷ outside ∷ [] }

-- the terms of that core
abbrev pub burst_terms : Terms
burst_terms = record { actor = 0; cores = 1; cap = 4; burst = 2 }

-- its notes may stand
abbrev pub BurstMayWrite : Journal ℕ → Type 0
BurstMayWrite journal = EachNote (MayStand burst_terms) journal

-- a third poll in one turn
abbrev pub third_poll : Journal ℕ
third_poll = Resume (submission 1) ∷ polled_twice

-- a queue is picked while its turn is open
abbrev pub picked_in_turn : Journal ℕ
picked_in_turn = Resume (submission 1) ∷ Pick 0 0 ∷ yielded

-- the first of two polls is charged at once
abbrev pub charged_by_poll : Journal ℕ
charged_by_poll = Resume (submission 1) ∷ Pick 0 40 ∷ Turned 0 20 ∷ polled_twice

-- a second poll of the turn is of another queue
abbrev pub poll_elsewhere : Journal ℕ
poll_elsewhere =
    Start (submission 2) ∷ Yield (submission 1) 10 ∷ Start (submission 1) ∷ Pick 0 0 ∷ Took (submission 2) 1 ∷ Took (submission 1) 0 ∷ Created 1 1000 ∷ []

-- a second poll while the first is out
abbrev pub poll_while_out : Journal ℕ
poll_while_out = Start (submission 2) ∷ Start (submission 1) ∷ Pick 0 0 ∷ both_taken

-- the queue is closed in mode `Return` while its turn is open
abbrev pub closed_in_turn : Journal ℕ
closed_in_turn = QueueClosed 0 Return ∷ Answered (submission 2) Closed ∷ yielded

-- and the turn goes on
abbrev pub goes_on_closed : Journal ℕ
goes_on_closed = Resume (submission 1) ∷ closed_in_turn

-- a job is handed back within the turn of another poll
abbrev pub returned_in_turn : Journal ℕ
returned_in_turn = Returned (submission 1) QueueReturned ∷ closed_in_turn

-- the fifth clause refuses these
pub record BurstsAreUnsound : Type 0 where
  pub third : PicksAreSound (with_bursts third_poll one_job) → ⊥
  pub last : PicksAreSound (with_bursts last_time one_job) → ⊥
  pub more : PicksAreSound (with_bursts more_time one_job) → ⊥
  pub no_time : PicksAreSound (with_bursts no_time one_job) → ⊥
  pub elsewhere : PicksAreSound (with_bursts turned_elsewhere one_job) → ⊥
  pub while_out : PicksAreSound (with_bursts turned_while_out one_job) → ⊥
  pub unbegun : PicksAreSound (with_bursts turned_unbegun one_job) → ⊥
  pub twice : PicksAreSound (with_bursts turned_twice one_job) → ⊥
  pub picked : PicksAreSound (with_bursts picked_in_turn one_job) → ⊥
  pub by_poll : PicksAreSound (with_bursts charged_by_poll one_job) → ⊥
  pub poll_elsewhere : PicksAreSound (with_bursts poll_elsewhere job_for_each) → ⊥
  pub poll_out : PicksAreSound (with_bursts poll_while_out two_jobs) → ⊥
  pub returned : PicksAreSound (with_bursts returned_in_turn one_job) → ⊥
  pub without : PicksAreSound (with_journals turned_without_bursts one_job) → ⊥

-- and no core writes these, but the turn of a queue that was closed in mode `Return` ends, though a poll and work are left
pub record BurstsAreRefused : Type 0 where
  pub unsound : BurstsAreUnsound
  pub third : BurstMayWrite third_poll → ⊥
  pub last : BurstMayWrite last_time → ⊥
  pub picked : BurstMayWrite picked_in_turn → ⊥
  pub closed : BurstMayWrite goes_on_closed → ⊥
  pub returned : BurstMayWrite returned_in_turn → ⊥
  pub early : BurstMayWrite ended_early → ⊥
  pub open_end : IsLawful burst_terms closed_in_turn → ⊥
  pub ends_closed : IsTurnEnd 2 0 10 closed_in_turn
