-- A line and the note that it tells are one.
use Rattle.std.specs.Prelude.{◌≡◌, ℕ, ◌^◌, ◌<◌, ◌≤◌, List, ◌∷◌, Some, decimal}
use Rattle.base_words.specs.declared.note.Note.{Note}
use Rattle.base_words.specs.declared.note.Note.TheVariants.{Sent, Yield, Park, Stayed, Done, Collected, Redeemed}
use Rattle.base_words.specs.declared.note.OutcomeNote.{OutcomeNote}
use Rattle.base_words.specs.declared.note.OutcomeNote.TheVariants.{Finished}
use Rattle.base_words.specs.declared.order.Order.{Order}
use Rattle.base_words.specs.declared.order.Order.TheVariants.{Wake}
use Rattle.base_words.specs.Limits.{most_cores}
use Rattle.base_words.specs.Spelled.{IsSpelledNote}
use Rattle.base_words.specs.Terms.{Terms}
use Rattle.text_words.specs.Notes.{note_line}
use Rattle.text_words.specs.Words.{words}
use Rattle.text_journal.specs.NoteWords.{note_of}

abbrev pub HoldsOut : OutcomeNote ℕ → Type 0
HoldsOut (Finished out) = out < 2 ^ 64
HoldsOut _ = Unit {0}

-- a wake names an actor and a number that their types hold
abbrev pub HoldsOrder : Order (Unit {0}) → Type 0
HoldsOrder (Wake actor number) = (actor < 2 ^ 8) × (number < 2 ^ 64)
HoldsOrder _ = Unit {0}

-- its times and answers, and what a wake names, are what their types hold
abbrev pub HoldsTimes : Note ℕ → Type 0
HoldsTimes (Sent name order) = HoldsOrder order
HoldsTimes (Yield name time) = time < 2 ^ 64
HoldsTimes (Park name time) = time < 2 ^ 64
HoldsTimes (Stayed name time) = time < 2 ^ 64
HoldsTimes (Done name time value) = (time < 2 ^ 64) × (value < 2 ^ 64)
HoldsTimes (Collected name told) = HoldsOut told
HoldsTimes (Redeemed name told) = HoldsOut told
HoldsTimes _ = Unit {0}

-- the words of the line are the actor's number and words that say the note
abbrev pub Tells : Terms → Note ℕ → List ℕ → Type 0
Tells terms note line = (ws : List (List ℕ)) × (words line ≡ decimal terms.actor ∷ ws) × (note_of terms.actor terms.cores terms.burst ws ≡ Some note)

-- there are as many cores as there may be, and the actor is one of them or the outside actor
abbrev pub IsActor : Terms → Type 0
IsActor terms = (1 ≤ terms.cores) × (terms.cores ≤ most_cores) × (terms.actor ≤ terms.cores)

-- the line of a note that its actor may write tells that note
abbrev pub LineTellsNote : Type 0
LineTellsNote = (terms : Terms) (note : Note ℕ) → IsActor terms → IsSpelledNote terms note → HoldsTimes note → Tells terms note (note_line terms.actor note)

-- a line tells only the note whose line it is, and only one that its actor may write
abbrev pub NoteHasOneLine : Type 0
NoteHasOneLine = (terms : Terms) (note : Note ℕ) (line : List ℕ) → IsActor terms → Tells terms note line → (line ≡ note_line terms.actor note) × IsSpelledNote terms note
