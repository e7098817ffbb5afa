-- The trace of a run: the events of all notes.
use Rattle.std.specs.Prelude.{ℕ, zero, suc, ◌+◌, ◌++◌, ◌==◌, Bool, true, false, List, [], ◌∷◌, codes, decimal, length}
use Rattle.base_words.specs.declared.note.Note.{Note}
use Rattle.base_words.specs.declared.note.Note.TheVariants.{Created, Sent, Took, Yield, Park, Stayed, Done, Redeemed}
use Rattle.base_words.specs.Assembly.{Assembly, journal_of}
use Rattle.base_words.specs.Journal.{Journal}
use Rattle.judge_view.specs.Clocks.{clock_of}
use Rattle.judge_view.specs.declared.ends.End.TheVariants as ends
use Rattle.fairview_marks.specs.Bars.{bar}
use Rattle.fairview_pictures.specs.Events.{notes_track, poll_event, queue_event, mark_text, last_poll_text}
use Rattle.fairview_pictures.specs.Times.{times_of, core_time, sent_time, redeemed_time}
use Rattle.fairview_pictures.specs.declared.parts.TrackPlace.{TrackPlace}
use Rattle.fairview_pictures.specs.declared.parts.Step.TheVariants as step
use Rattle.fairview_pictures.specs.declared.times.Times.{Times}

-- a place on the track of notes
abbrev pub noted : ℕ → ℕ → TrackPlace
noted actor time = record { actor = actor; track = notes_track; time = time }

-- the events of a note, by the notes before it
abbrev pub note_text : Times → ℕ → Note ℕ → Journal ℕ → List ℕ
note_text times actor (Created queue shares) before = queue_event actor queue shares
note_text times actor (Sent name order) before = mark_text step.Sent name (noted actor (sent_time times actor (length before) (clock_of before)))
note_text times actor (Took name queue) before = mark_text step.Took name (noted actor (core_time times (clock_of before)))
note_text times actor (Yield name time) before = poll_event actor times.start (bar name time ends.Yield before)
note_text times actor (Park name time) before = poll_event actor times.start (bar name time ends.Park before)
note_text times actor (Stayed name time) before = poll_event actor times.start (bar name time ends.Stayed before)
note_text times actor (Done name time value) before = last_poll_text actor times.start (bar name time ends.Done before)
note_text times actor (Redeemed name outcome) before =
    mark_text step.Redeemed name (noted actor (redeemed_time times actor (length before) (clock_of before)))
note_text times actor _ before = []

-- the events of these notes, the oldest first
unfoldable pub notes_text : Times → ℕ → Journal ℕ → List ℕ
notes_text times actor [] = []
notes_text times actor (note ∷ before) = notes_text times actor before ++ note_text times actor note before

-- the name of an actor
abbrev pub outside_event : ℕ → List ℕ
outside_event actor = codes ",\n{\"name\":\"process_name\",\"ph\":\"M\",\"pid\":" ++ (decimal actor ++ codes ",\"args\":{\"name\":\"outside\"}}")

abbrev pub core_event : ℕ → List ℕ
core_event actor =
    codes ",\n{\"name\":\"process_name\",\"ph\":\"M\",\"pid\":" ++ (decimal actor ++ (codes ",\"args\":{\"name\":\"core " ++ (decimal actor ++ codes "\"}}")))

abbrev pub actor_event : ℕ → Bool → List ℕ
actor_event actor true = outside_event actor
actor_event actor false = core_event actor

-- the events of an actor
abbrev pub actor_text : Times → ℕ → Journal ℕ → List ℕ
actor_text times actor journal = actor_event actor (actor == times.outside) ++ notes_text times actor journal

-- the events of the actors below this number
unfoldable pub actors_below : ℕ → Assembly ℕ → List ℕ
actors_below zero assembly = []
actors_below (suc actor) assembly = actors_below actor assembly ++ actor_text (times_of assembly) actor (journal_of actor assembly)

abbrev pub all_actors_text : Assembly ℕ → List ℕ
all_actors_text assembly = actors_below (assembly.cores + 1) assembly

-- the whole text: one list of events
abbrev pub trace_text : Assembly ℕ → List ℕ
trace_text assembly =
    codes "{\"displayTimeUnit\":\"ns\",\"traceEvents\":[\n{\"name\":\"process_sort_index\",\"ph\":\"M\",\"pid\":0,\"args\":{\"sort_index\":0}}"
    ++ (all_actors_text assembly ++ codes "\n]}\n")
