-- What was read of journals that a house writes anew.
use Rattle.std.specs.Prelude.{◌≡◌, ℕ, ◌+◌, ◌-◌, ◌≤◌, ◌∷◌, drop, length}
use Rattle.base_words.specs.declared.note.Note.{Note}
use Rattle.base_words.specs.Journal.{EachNote, Journal}
use Rattle.base_words.specs.Lawful.{MayStand}
use Rattle.note_journal.specs.Journals.{JournalView}
use Rattle.actor_desk.specs.Submissions.{terms_of_desk}
use Rattle.actor_core.specs.Recorded.{terms_at}
use Rattle.link_ring.specs.Ends.{SameEnds}
use Rattle.actor_core.specs.Ends.{IsSameSeat}
use Rattle.actor_seat.specs.Linked.{Grows}
use Rattle.actor_seat.specs.OutsideSeats.{IsSeatedOutside}
use Rattle.link_ends.specs.Fits.{Fits}
use Rattle.host_core.specs.Jobs.{host_meaning}
use Rattle.host_core.specs.Hosted.{HostedView}
use Rattle.host_house.specs.Outside.{CallerView}
use Rattle.judge_replay.specs.declared.ahead.Replayed.{Replayed}
use Rattle.judge_replay.specs.declared.ahead.Replayed.TheVariants.{Taken, Waits, Differs}

-- the oldest notes of a journal, so many
abbrev pub oldest : {T : Type 0} → ℕ → Journal T → Journal T
oldest count notes = drop (length notes - count) notes

-- all notes that were passed on were read, and so many of those that are kept
abbrev pub read_of : {T : Type 0} → JournalView T → ℕ → Journal T
read_of journal told = oldest (length journal.passed + told) journal.notes

abbrev pub IsWithin : {T : Type 0} → JournalView T → ℕ → Type 0
IsWithin journal told = length journal.passed + told ≤ length journal.notes

-- a core of the house, and how many of the notes that it keeps were read
pub record CoreRead : Type 0 where
  pub linked : HostedView
  pub told : ℕ

-- the same of the outside actor
pub record OutsideRead : Type 0 where
  pub caller : CallerView
  pub told : ℕ

abbrev pub core_read : CoreRead → Journal ℕ
core_read core = read_of core.linked.recorded.journal core.told

abbrev pub outside_read : OutsideRead → Journal ℕ
outside_read outside = read_of outside.caller.desk.journal outside.told

-- each note of a core may stand where it stands
abbrev pub IsLawfulCore : HostedView → Type 0
IsLawfulCore view = EachNote (MayStand (terms_at view.recorded)) view.recorded.journal.notes

-- a core made a step: its notes stand behind those that it had, and are lawful if those were, and none was passed on
pub record GoesOn (old new : HostedView) : Type 0 where
  pub seat : IsSameSeat old.recorded new.recorded
  pub ends : SameEnds old.ends new.ends
  pub grows : Grows old.recorded.journal.notes new.recorded.journal.notes
  pub lawful : IsLawfulCore old → IsLawfulCore new

-- it is the same actor, at ends of the same links
pub record IsSameCore (old new : HostedView) : Type 0 where
  pub terms : terms_at new.recorded ≡ terms_at old.recorded
  pub ends : SameEnds old.ends new.ends

-- the note was read, or nothing was
abbrev pub Reads : Note ℕ → Journal ℕ → Replayed → Journal ℕ → Type 0
Reads note old Taken new = new ≡ note ∷ old
Reads note old Waits new = new ≡ old
Reads note old Differs new = new ≡ old

-- the same of the outside actor
pub record IsSameOutside (old new : CallerView) : Type 0 where
  pub terms : terms_of_desk new.desk ≡ terms_of_desk old.desk
  pub ends : SameEnds old.ends new.ends

-- its journal is written by the rules, beside its ends
abbrev pub IsSeen : CallerView → Type 0
IsSeen view = IsSeatedOutside (Fits host_meaning) view
