-- How the seats of a house end, and hand their journals in.
use Rattle.std.specs.Prelude.{◌≡◌, ◌≢◌, ◌⊎◌, ◌↔◌, ℕ, ◌+◌, IsTrue, [], ◌∷◌, ◌++◌, length, map}
use Rattle.base_words.specs.Assembly.{Assembly}
use Rattle.host_text.specs.Ended.{EndedView, ended_of}
use Rattle.note_journal.specs.Journals.{JournalView}
use Rattle.host_calls.specs.declared.code.Code.{Code}
use Rattle.host_calls.specs.declared.code.Code.TheVariants as code
use Rattle.host_calls.specs.declared.member.Member.{Member}
use Rattle.host_calls.specs.declared.member.Member.TheVariants as member
use Rattle.host_calls.specs.Kept.{KeptView}
use Rattle.host_calls.specs.Links.{HasEnded}
use Rattle.host_calls.specs.Members.{IsActor}

-- a seat may end: the outside actor at any time, a core once it is drained
abbrev pub HasEndedSeat : Member → Type 0
HasEndedSeat (member.House view) = ⊥
HasEndedSeat (member.Core view) = HasEnded view
HasEndedSeat (member.Outside view) = Unit {0}
HasEndedSeat (member.Ended view) = ⊥
HasEndedSeat (member.Sleepers timers) = ⊥

-- the number of a seat is the next whose journal the house waits for
abbrev pub IsNext : KeptView → Member → Type 0
IsNext house (member.House view) = ⊥
IsNext house (member.Core view) = view.recorded.core.core ≡ length house.journals
IsNext house (member.Outside view) = house.cores ≡ length house.journals
IsNext house (member.Ended view) = ⊥
IsNext house (member.Sleepers timers) = ⊥

-- whether a seat may hand its journal in now, or the first reason why not
abbrev pub Awaits : KeptView → Member → Code → Type 0
Awaits house seat code.Ok = IsNext house seat × HasEndedSeat seat
Awaits house seat code.Empty = IsActor seat → ⊥
Awaits house seat code.NoActor = IsActor seat × (IsNext house seat → ⊥)
Awaits house seat code.NotDrained = IsNext house seat × (HasEndedSeat seat → ⊥)
Awaits house seat other = ⊥

-- the notes that a journal still keeps, of one that passed these on
abbrev pub IsKept : JournalView ℕ → JournalView ℕ → Type 0
IsKept running kept = kept.notes ++ running.passed ≡ running.notes

-- the journal of a seat
abbrev pub IsJournalOf : Member → JournalView ℕ → Type 0
IsJournalOf (member.House view) journal = ⊥
IsJournalOf (member.Core view) journal = IsKept view.recorded.journal journal
IsJournalOf (member.Outside view) journal = IsKept view.desk.journal journal
IsJournalOf (member.Ended view) journal = ⊥
IsJournalOf (member.Sleepers timers) journal = ⊥

-- notes of it were passed on
abbrev pub HasPassed : Member → Type 0
HasPassed (member.House view) = ⊥
HasPassed (member.Core view) = view.recorded.journal.passed ≢ []
HasPassed (member.Outside view) = view.desk.journal.passed ≢ []
HasPassed (member.Ended view) = ⊥
HasPassed (member.Sleepers timers) = ⊥

-- it is handed in behind the others, and it is known whether notes of any of them were passed on
abbrev pub TakesIn : KeptView → Member → KeptView → Type 0
TakesIn old seat new =
    (journal : JournalView ℕ) × IsJournalOf seat journal × (IsTrue new.parted ↔ (IsTrue old.parted ⊎ HasPassed seat))
    × (new ≡ record old { journals = old.journals ++ journal ∷ []; parted = new.parted })

-- the journals of the house make an assembly
abbrev pub assembly_of : KeptView → Assembly ℕ
assembly_of house = record { cores = house.cores; cap = house.cap; burst = house.burst; journals = map (λ journal. journal.notes) house.journals }

-- all were handed in, and are what the house left behind; it is known whether notes of them were passed on
abbrev pub IsWhole : KeptView → EndedView → Type 0
IsWhole house ended = (length house.journals ≡ house.cores + 1) × (ended ≡ ended_of (assembly_of house) house.parted)

-- a house stays one until all journals are in
abbrev pub Becomes : KeptView → Member → Type 0
Becomes house (member.House new) = (new ≡ house) × (length house.journals ≢ house.cores + 1)
Becomes house (member.Core new) = ⊥
Becomes house (member.Outside new) = ⊥
Becomes house (member.Ended new) = IsWhole house new
Becomes house (member.Sleepers timers) = ⊥

-- a seat ends, and hands its journal to the house
abbrev pub EndsSeat : Member → Member → Member → Type 0
EndsSeat (member.House old) seat new = Awaits old seat code.Ok × ((between : KeptView) × TakesIn old seat between × Becomes between new)
EndsSeat (member.Core old) seat new = ⊥
EndsSeat (member.Outside old) seat new = ⊥
EndsSeat (member.Ended old) seat new = ⊥
EndsSeat (member.Sleepers old) seat new = ⊥

-- a seat may not end, for this reason; or it might, and there is no memory
abbrev pub EndsNoSeat : Member → Member → Code → Type 0
EndsNoSeat (member.House old) seat told = ((told ≡ code.NoMemory) × Awaits old seat code.Ok) ⊎ ((told ≢ code.Ok) × Awaits old seat told)
EndsNoSeat (member.Core old) seat told = told ≡ code.Empty
EndsNoSeat (member.Outside old) seat told = told ≡ code.Empty
EndsNoSeat (member.Ended old) seat told = told ≡ code.Empty
EndsNoSeat (member.Sleepers old) seat told = told ≡ code.Empty
