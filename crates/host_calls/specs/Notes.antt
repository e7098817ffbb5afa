-- What the host is told of the notes that the journal of an actor keeps, and how it forgets them.
use Rattle.std.specs.Prelude.{◌≡◌, ℕ, ◌++◌, List, Option, Some, None, Result, Ok, Err, reverse, slice_get}
use Rattle.base_words.specs.Journal.{Journal}
use Rattle.base_words.specs.Outstanding.{name_collected}
use Rattle.base_words.specs.declared.names.JobId.{JobId}
use Rattle.base_words.specs.declared.note.Note.{Note}
use Rattle.note_journal.specs.Journals.{JournalView}
use Rattle.host_core.specs.Passing as core
use Rattle.host_house.specs.Passing as outside
use Rattle.host_text.specs.declared.part.Form.{Form}
use Rattle.host_text.specs.declared.part.PassError.{PassError}
use Rattle.host_text.specs.declared.part.PassError.TheVariants.{Short, Memory}
use Rattle.host_text.specs.declared.part.Piece.{Piece}
use Rattle.host_text.specs.Pieces.{AreCounts, CopiesPiece}
use Rattle.host_calls.specs.declared.code.Code.{Code}
use Rattle.host_calls.specs.declared.code.Code.TheVariants as code
use Rattle.host_calls.specs.declared.member.Member.{Member}
use Rattle.host_calls.specs.declared.member.Member.TheVariants as member
use Rattle.host_calls.specs.declared.names.Name.{Name}
use Rattle.host_calls.specs.Members.{IsActor}
use Rattle.host_calls.specs.Names.{name_told}
use Rattle.host_calls.specs.Passing.{code_of_passed}
use Rattle.host_calls.specs.Submissions.{OnActor}

-- the journal of an actor keeps so many notes, and may keep so many more
abbrev pub HasCounts : Member → ℕ → ℕ → Type 0
HasCounts (member.House view) kept free = ⊥
HasCounts (member.Core view) kept free = AreCounts view.recorded.journal kept free
HasCounts (member.Outside view) kept free = AreCounts view.desk.journal kept free
HasCounts (member.Ended view) kept free = ⊥
HasCounts (member.Sleepers timers) kept free = ⊥

-- both are told, and nothing changes
abbrev pub NotesTold : Member → ℕ → ℕ → Code → ℕ → ℕ → Type 0
NotesTold actor kept free told kept_after free_after =
    OnActor actor ((kept_after ≡ kept) × (free_after ≡ free)) told actor ((told ≡ code.Ok) × HasCounts actor kept_after free_after)

-- a piece of the notes that the journal of an actor keeps is copied in this form, or nothing is
abbrev pub CopiesOn : Member → Form → ℕ → ℕ → List ℕ → Result Piece PassError → List ℕ → Type 0
CopiesOn (member.Core view) form from most before answer after = CopiesPiece view.recorded.core.core form from most view.recorded.journal before answer after
CopiesOn (member.Outside view) form from most before answer after = CopiesPiece view.desk.cores form from most view.desk.journal before answer after
CopiesOn other form from most before answer after = (IsActor other → ⊥) × (after ≡ before)

-- how many bytes the piece has, also if there is room for fewer; else what stood there stays
abbrev pub count_copied : Result Piece PassError → ℕ → ℕ
count_copied (Ok piece) before = piece.bytes
count_copied (Err (Short count)) before = count
count_copied (Err Memory) before = before

-- of how many notes it is; else what stood there stays
abbrev pub notes_copied : Result Piece PassError → ℕ → ℕ
notes_copied (Ok piece) before = piece.notes
notes_copied (Err error) before = before

-- the piece is copied and told, and nothing else changes
abbrev pub CopiesTold : Member → Form → ℕ → ℕ → List ℕ → ℕ → ℕ → Code → List ℕ → ℕ → ℕ → Type 0
CopiesTold actor form from most before count notes told after counted noted =
    OnActor actor ((after ≡ before) × (counted ≡ count) × (noted ≡ notes)) told actor
    ((answer : Result Piece PassError) × CopiesOn actor form from most before answer after × (told ≡ code_of_passed answer) × (counted ≡ count_copied answer count) × (noted ≡ notes_copied answer notes))

-- an actor forgets the notes that its journal keeps, which are so many
abbrev pub ForgetsOn : Member → ℕ → Member → Type 0
ForgetsOn (member.Core old) count (member.Core new) = core.Forgets old count new
ForgetsOn (member.Outside old) count (member.Outside new) = outside.Forgets old count new
ForgetsOn old count new = ⊥

-- how many they were is told
abbrev pub ForgetsTold : Member → ℕ → Code → ℕ → Member → Type 0
ForgetsTold old before told after new = OnActor old (after ≡ before) told new ((told ≡ code.Ok) × ForgetsOn old after new)

-- a journal keeps this note at a place, the oldest first, or none there
pub record KeepsAt (journal : JournalView ℕ) (place : ℕ) (note : Option (Note ℕ)) : Type 0 where
  pub kept : Journal ℕ
  pub whole : kept ++ journal.passed ≡ journal.notes
  pub is : note ≡ slice_get (reverse kept) place

-- the journal of an actor does
abbrev pub KeepsOn : Member → ℕ → Option (Note ℕ) → Type 0
KeepsOn (member.House view) place found = ⊥
KeepsOn (member.Core view) place found = KeepsAt view.recorded.journal place found
KeepsOn (member.Outside view) place found = KeepsAt view.desk.journal place found
KeepsOn (member.Ended view) place found = ⊥
KeepsOn (member.Sleepers timers) place found = ⊥

-- the name under which a note says that an outcome was collected
abbrev pub came : Option (Note ℕ) → Option JobId
came None = None
came (Some note) = name_collected note

-- the code of that
abbrev pub code_of_came : Option JobId → Code
code_of_came (Some name) = code.Ok
code_of_came None = code.Absent

-- the name for the host; else what stood there stays
abbrev pub came_told : Option JobId → Name → Name
came_told (Some name) before = name_told name
came_told None before = before

-- the name of an outcome that came is told, as the note at a place says, or that it says no such thing
abbrev pub CameTold : Member → ℕ → Name → Code → Name → Type 0
CameTold actor place before told after =
    OnActor actor (after ≡ before) told actor
    ((note : Option (Note ℕ)) × KeepsOn actor place note × (told ≡ code_of_came (came note)) × (after ≡ came_told (came note) before))
