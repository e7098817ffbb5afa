-- Which notes a journal's text can spell: who may write them, and the ranges of their names, queues, shares and counts. Times and answers are what their types hold.
use Rattle.std.specs.Prelude.{◌≡◌, ℕ, ◌+◌, ◌<◌, ◌≤◌, ◌^◌, length, IsTrue}
use Rattle.base_words.specs.Charge.{InRange}
use Rattle.base_words.specs.declared.names.JobId.{JobId}
use Rattle.base_words.specs.declared.note.Note.{Note}
use Rattle.base_words.specs.declared.note.Note.TheVariants.{Sent, Took, Back, Answered, Created, SharesSet, QueueClosed, CoreClosed, Woken, Pick, Start, Resume, Yield, Park, Stayed, Done, Returned, Turned, Shut, Collected, Redeemed, Detached}
use Rattle.base_words.specs.declared.order.Reason.{Reason}
use Rattle.base_words.specs.declared.order.Reason.TheVariants as why
use Rattle.base_words.specs.Assembly.{Assembly, journal_of}
use Rattle.base_words.specs.Bursts.{has_bursts}
use Rattle.base_words.specs.Journal.{Journal, EachNote}
use Rattle.base_words.specs.Limits.{most_cores, most_capacity, most_burst, most_queues, last_number}
use Rattle.base_words.specs.Orders.{IsSpelledOrder}
pub use Rattle.base_words.specs.Outcomes.{IsSpelledAnswer, IsSpelledOutcome}
use Rattle.base_words.specs.Terms.{Terms, terms_of}

-- a name: its sender is an actor, its receiver a core, and its number one of a link
pub record IsName (cores : ℕ) (name : JobId) : Type 0 where
  pub sender : name.from ≤ cores
  pub receiver : name.to < cores
  pub positive : 1 ≤ name.number
  pub in_range : name.number ≤ last_number

-- a name whose sender writes the note
abbrev pub IsOwn : Terms → JobId → Type 0
IsOwn terms name = IsName terms.cores name × (name.from ≡ terms.actor)

-- a name whose receiver writes the note
abbrev pub IsReceived : Terms → JobId → Type 0
IsReceived terms name = IsName terms.cores name × (name.to ≡ terms.actor)

-- a reason for which a delivery sends a job back
abbrev pub IsBackReason : Reason → Type 0
IsBackReason why.QueueReturned = ⊥
IsBackReason why.CoreReturned = ⊥
IsBackReason _ = Unit {0}

-- a reason for which a pick hands a job back
abbrev pub IsReturnReason : Reason → Type 0
IsReturnReason why.QueueReturned = Unit {0}
IsReturnReason why.CoreReturned = Unit {0}
IsReturnReason _ = ⊥

-- what each note names is within its range, and its actor may write it: the outside actor sends, collects, redeems and detaches, and does nothing else
abbrev pub IsSpelledNote : {T : Type 0} → Terms → Note T → Type 0
IsSpelledNote terms (Sent name order) = IsOwn terms name × IsSpelledOrder order
IsSpelledNote terms (Took name queue) = IsReceived terms name × (queue < most_queues)
IsSpelledNote terms (Back name reason) = IsReceived terms name × IsBackReason reason
IsSpelledNote terms (Answered name answer) = IsReceived terms name × IsSpelledAnswer answer
IsSpelledNote terms (Created queue weight) = (terms.actor < terms.cores) × (queue < most_queues) × InRange weight
IsSpelledNote terms (SharesSet queue weight) = (terms.actor < terms.cores) × (queue < most_queues) × InRange weight
IsSpelledNote terms (QueueClosed queue mode) = (terms.actor < terms.cores) × (queue < most_queues)
IsSpelledNote terms (CoreClosed mode) = terms.actor < terms.cores
IsSpelledNote terms (Woken name) = IsReceived terms name
IsSpelledNote terms (Pick queue runtime) = (terms.actor < terms.cores) × (queue < most_queues) × (runtime < 2 ^ 128)
IsSpelledNote terms (Start name) = IsReceived terms name
IsSpelledNote terms (Resume name) = IsReceived terms name
IsSpelledNote terms (Yield name time) = IsReceived terms name
IsSpelledNote terms (Park name time) = IsReceived terms name
IsSpelledNote terms (Stayed name time) = IsReceived terms name
IsSpelledNote terms (Done name time value) = IsReceived terms name
IsSpelledNote terms (Returned name reason) = IsReceived terms name × IsReturnReason reason
IsSpelledNote terms (Turned queue time) =
    (terms.actor < terms.cores) × (queue < most_queues) × (1 ≤ time) × (time < 2 ^ 40) × IsTrue (has_bursts terms.burst)
IsSpelledNote terms (Shut sender count) = (terms.actor < terms.cores) × (sender ≤ terms.cores) × (count ≤ last_number)
IsSpelledNote terms (Collected name outcome) = IsOwn terms name × IsSpelledOutcome outcome
IsSpelledNote terms (Redeemed name outcome) = IsOwn terms name × IsSpelledOutcome outcome
IsSpelledNote terms (Detached name) = IsOwn terms name

-- each note of an actor is spelled
abbrev pub AreSpelledNotes : {T : Type 0} → Terms → Journal T → Type 0
AreSpelledNotes terms journal = EachNote (λ note before. IsSpelledNote terms note) journal

-- there are as many cores, places and polls of a turn as there may be
pub record IsWithinLimits (cores cap burst : ℕ) : Type 0 where
  pub some_core : 1 ≤ cores
  pub few_cores : cores ≤ most_cores
  pub some_place : 1 ≤ cap
  pub few_places : cap ≤ most_capacity
  pub some_poll : 1 ≤ burst
  pub few_polls : burst ≤ most_burst

-- journals that have a text: each actor has one, and each note is spelled
pub record IsSpelled {T : Type 0} (assembly : Assembly T) : Type 0 where
  pub limits : IsWithinLimits assembly.cores assembly.cap assembly.burst
  pub journals : length assembly.journals ≡ assembly.cores + 1
  pub notes : (actor : ℕ) → actor ≤ assembly.cores → AreSpelledNotes (terms_of actor assembly) (journal_of actor assembly)
