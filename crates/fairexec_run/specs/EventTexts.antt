-- The text of an event.
use Rattle.std.specs.Prelude.{ℕ, ◌++◌, List, [], ◌∷◌, codes, Option, Some, None}
use Rattle.base_words.specs.declared.note.Note.{Note}
use Rattle.text_words.specs.declared.reply.EventEnds.{EventEnds}
use Rattle.text_words.specs.declared.reply.Quiet.{Quiet}
use Rattle.text_words.specs.Notes.{note_line}
use Rattle.text_words.specs.Replies.{reply_line}

-- an actor's notes as lines, the oldest first
abbrev pub note_lines : ℕ → List (Note ℕ) → List ℕ
note_lines actor [] = []
note_lines actor (note ∷ rest) = note_line actor note ++ codes "\n" ++ note_lines actor rest

-- what is printed of an event that made no note
abbrev pub quiet_text : EventEnds → Option Quiet → List ℕ
quiet_text ends None = []
quiet_text ends (Some quiet) = reply_line ends quiet ++ codes "\n"

-- the text of an event: its notes, the oldest first, or one line if it made none
abbrev pub event_text : EventEnds → List (Note ℕ) → Option Quiet → List ℕ
event_text ends [] quiet = quiet_text ends quiet
event_text ends (note ∷ rest) quiet = note_lines ends.actor (note ∷ rest)
