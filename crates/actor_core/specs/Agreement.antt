-- When what a core tells of itself is what its journal says.
use Rattle.std.specs.Prelude.{◌≡◌, ℕ, ◌+◌, ◌<◌, ◌≤◌, Option, Some, None, List, [], ◌∷◌, length, map, All}
use Rattle.base_words.specs.Terms.{Terms}
use Rattle.base_words.specs.declared.names.JobId.{JobId}
use Rattle.base_words.specs.Journal.{Journal, EachNote, is_told}
use Rattle.base_words.specs.Filters.{delivered_names, name_started}
use Rattle.base_words.specs.Work.{queue_of}
use Rattle.base_words.specs.Bursts.{queue_in_turn, polls_in_turn, time_in_turn}
use Rattle.base_words.specs.Runtimes.{virtual_runtime, shares, floor}
use Rattle.base_words.specs.Lines.{line, jobs_out}
use Rattle.base_words.specs.Closing.{queue_mode, core_mode, final_count}
use Rattle.base_words.specs.Clauses.{queue_just_picked}
use Rattle.base_words.specs.Commands.{created_count, effect_awaited}
use Rattle.base_words.specs.Lawful.{MayStand}
use Rattle.base_words.specs.Parks.{parked, is_wake_kept}
use Rattle.base_words.specs.Picks.{turns}
use Rattle.core_queues.specs.Queues.{Marks, Line, Parks, queue_count, shares_of, mode_of, waiting_of, parked_of}
use Rattle.core_core.specs.State.{CoreView, JobOut, runtime_of, delivered_of, gate_of}
use Rattle.core_core.specs.declared.bursts.OpenTurn.{OpenTurn}
use Rattle.actor_core.specs.Figures.{figures_of, figures_told}

module _ {J : Type 0} where
  abbrev pub names_of : Line J → List JobId
  names_of waiting = map (λ entry. entry.0) waiting

  abbrev pub names_parked : Parks J → List JobId
  names_parked parks = map (λ entry. entry.0) parks

-- what a journal tells of a job that waits: whether it started, and whether a wake of it is kept
abbrev pub marks_told : {T : Type 0} → JobId → Journal T → Marks
marks_told name journal = record { started = is_told name_started name journal; woken = is_wake_kept name journal }

module _ {T : Type 0} where
  -- the turn that is open is the one of the journal, with as many polls and the same time
  abbrev pub IsOpenTurn : ℕ → Option OpenTurn → Journal T → Type 0
  IsOpenTurn burst None journal = queue_in_turn burst journal ≡ None
  IsOpenTurn burst (Some turn) journal = (queue_in_turn burst journal ≡ Some turn.queue) × (turn.polls ≡ polls_in_turn journal) × (turn.time ≡ time_in_turn journal)

module _ {J T : Type 0} where
  -- each of them has the marks that the journal tells
  abbrev pub AreMarked : Journal T → Line J → Type 0
  AreMarked journal waiting = All (λ entry. entry.1 ≡ marks_told entry.0 journal) waiting

  -- the job that is out is the one of the journal, in its queue, with the wake that the journal keeps of it
  abbrev pub IsJobOut : Option (JobOut J) → Journal T → Type 0
  IsJobOut None journal = jobs_out journal ≡ []
  IsJobOut (Some job) journal = (jobs_out journal ≡ job.name ∷ []) × (queue_of job.name journal ≡ Some job.queue) × (job.woken ≡ is_wake_kept job.name journal)

  -- the modes of the queues and of the core, and the gates, are those of the journal
  pub record AgreesOnClosing (core : CoreView J) (journal : Journal T) : Type 0 where
    pub modes : (queue : ℕ) → mode_of queue core.queues ≡ queue_mode queue journal
    pub mode : core.mode ≡ core_mode journal
    pub gate_places : length core.gates ≡ core.cores + 1
    pub gates : (sender : ℕ) → gate_of sender core ≡ final_count sender journal

  -- a core whose turns have so many polls tells of itself what its journal says
  pub record Agrees (burst : ℕ) (core : CoreView J) (journal : Journal T) : Type 0 where
    pub burst_is : core.bursts.burst ≡ burst
    pub tallied : length core.tallies ≡ queue_count core.queues
    pub senders : length core.delivered ≡ core.cores + 1
    pub last : queue_count core.queues ≡ created_count journal + 1
    pub lines : (queue : ℕ) → names_of (waiting_of queue core.queues) ≡ line queue journal
    pub parks : (queue : ℕ) → names_parked (parked_of queue core.queues) ≡ parked queue journal
    pub marks : (queue : ℕ) → AreMarked journal (waiting_of queue core.queues)
    pub runtimes : (queue : ℕ) → runtime_of queue core ≡ virtual_runtime burst queue journal
    pub weights : (queue : ℕ) → queue < queue_count core.queues → shares_of queue core.queues ≡ shares queue journal
    pub the_floor : core.floor ≡ floor journal
    pub turns : core.turns ≡ turns journal
    pub out : IsJobOut core.out journal
    pub turn : IsOpenTurn burst core.bursts.open journal
    pub out_exists : (job : JobOut J) → core.out ≡ Some job → job.queue < queue_count core.queues
    pub delivered : (sender : ℕ) → sender ≤ core.cores → delivered_of sender core ≡ length (delivered_names sender journal)
    pub figures : (queue : ℕ) → figures_of queue core ≡ figures_told burst queue journal
    pub closing : AgreesOnClosing core journal

-- the journal is one of notes that may stand where they stand, with no step half done except a poll, and the core agrees with it
pub record IsKept {J T : Type 0} (terms : Terms) (core : CoreView J) (journal : Journal T) : Type 0 where
  pub is_core : terms.actor < terms.cores
  pub agrees : Agrees terms.burst core journal
  pub notes : EachNote (MayStand terms) journal
  pub no_pick : queue_just_picked journal ≡ None
  pub no_answer : effect_awaited journal ≡ None
