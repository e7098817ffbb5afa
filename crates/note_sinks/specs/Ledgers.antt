-- What is kept of a lawful journal whose notes were read.
use Rattle.std.specs.Prelude.{◌≡◌, ℕ, ◌≤◌, List, ◌++◌, Option, Some, None, length, reverse}
use Rattle.base_words.specs.declared.names.JobId.{JobId}
use Rattle.base_words.specs.declared.note.Note.{Note}
use Rattle.base_words.specs.declared.note.Note.TheVariants.{Took, Created, SharesSet, QueueClosed, Woken, Pick, Start, Resume, Yield, Park, Stayed, Done, Returned, Turned}
use Rattle.base_words.specs.Journal.{Journal, EachNote, latest_told}
use Rattle.base_words.specs.Lawful.{MayStand}
use Rattle.base_words.specs.Terms.{Terms}
use Rattle.note_facts.specs.declared.endings.Endings.{Endings}
use Rattle.note_facts.specs.declared.parks.Nap.{Nap}
use Rattle.note_facts.specs.Endings.{endings_of}
use Rattle.note_facts.specs.Limits.{greatest_count}
use Rattle.note_facts.specs.Names.{Entries}
use Rattle.note_facts.specs.Parks.{IsPast, park_of, resting}
use Rattle.note_stats.specs.Walks.{FiguresView, KnowsFigures}
use Rattle.note_sinks.specs.Naps.{nap_under}

-- the queue that a note picks
abbrev pub queue_picked : {T : Type 0} → Note T → Option ℕ
queue_picked (Pick queue runtime) = Some queue
queue_picked _ = None

-- the queue that was picked last
abbrev pub last_picked : {T : Type 0} → Journal T → Option ℕ
last_picked = latest_told queue_picked

-- the queue that a note of a lawful journal speaks of: by its number, and of a job that is polled or handed back the one that was picked last
abbrev pub queue_named : {T : Type 0} → Option ℕ → Note T → Option ℕ
queue_named picked (Took name queue) = Some queue
queue_named picked (Created queue weight) = Some queue
queue_named picked (SharesSet queue weight) = Some queue
queue_named picked (QueueClosed queue mode) = Some queue
queue_named picked (Pick queue runtime) = Some queue
queue_named picked (Start name) = picked
queue_named picked (Resume name) = picked
queue_named picked (Yield name time) = picked
queue_named picked (Park name time) = picked
queue_named picked (Stayed name time) = picked
queue_named picked (Done name time value) = picked
queue_named picked (Returned name reason) = picked
queue_named picked (Turned queue time) = Some queue
queue_named picked _ = None

-- the queue that was picked last, what is known of the jobs that are parked, how often all parks of a queue were ended, and what is counted
pub record LedgerView : Type 0 where
  pub picked : Option ℕ
  pub naps : Entries Nap
  pub endings : Endings
  pub figures : FiguresView

-- the queue in which the job rests that a note parks or wakes
abbrev pub park_named : LedgerView → Note ℕ → Option ℕ
park_named ledger (Park name time) = resting ledger.endings (nap_under ledger.naps name)
park_named ledger (Woken name) = resting ledger.endings (nap_under ledger.naps name)
park_named ledger _ = None

-- all is known as these notes tell it, where a turn may have so many polls
pub record KnowsLedger {T : Type 0} (burst : ℕ) (ledger : LedgerView) (journal : Journal T) : Type 0 where
  pub picked : ledger.picked ≡ last_picked journal
  pub naps : (name : JobId) → resting ledger.endings (nap_under ledger.naps name) ≡ park_of name journal
  pub past : (name : JobId) → IsPast ledger.endings (nap_under ledger.naps name)
  pub few : (queue : ℕ) → endings_of ledger.endings queue ≤ length journal
  pub figures : KnowsFigures burst ledger.figures journal

-- where these notes are lawful behind those before, and fewer than 2^64 with them, all is known behind them as before
abbrev pub ReadsNotes : LedgerView → List (Note ℕ) → LedgerView → Type 0
ReadsNotes old notes new =
    (terms : Terms) (burst : ℕ) (before : Journal ℕ) → EachNote (MayStand terms) (reverse notes ++ before) → length (reverse notes ++ before) ≤ greatest_count →
    KnowsLedger burst old before → KnowsLedger burst new (reverse notes ++ before)

-- what was known is known
abbrev pub KnowsAsBefore : LedgerView → LedgerView → Type 0
KnowsAsBefore old new = (burst : ℕ) (journal : Journal ℕ) → KnowsLedger burst old journal → KnowsLedger burst new journal
