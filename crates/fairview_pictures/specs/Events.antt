-- The events of a trace, each a line.
use Rattle.std.specs.Prelude.{ℕ, ◌+◌, ◌^◌, ◌-◌, ◌/◌, ◌%◌, min, ◌++◌, Bool, true, false, Option, Some, None, List, codes, decimal}
use Rattle.base_words.specs.declared.names.JobId.{JobId}
use Rattle.text_words.specs.Notes.{name_text}
use Rattle.judge_view.specs.Ends.{is_done}
use Rattle.fairview_marks.specs.declared.polls.Bar.{Bar}
use Rattle.fairview_marks.specs.Escapes.{json_text}
use Rattle.fairview_pictures.specs.declared.parts.TrackPlace.{TrackPlace}
use Rattle.fairview_pictures.specs.declared.parts.Step.{Step}
use Rattle.fairview_pictures.specs.declared.parts.Step.TheVariants.{Sent, Took, Done, Redeemed}

-- the queues have the tracks of their numbers; the notes have one behind them, and the polls whose queue no note tells another
abbrev pub notes_track : ℕ
notes_track = 256

abbrev pub track_of : Option ℕ → ℕ
track_of None = 257
track_of (Some queue) = queue

abbrev pub truth : Bool → List ℕ
truth true = codes "true"
truth false = codes "false"

-- nanoseconds as microseconds, with three places
abbrev pub micros : ℕ → List ℕ
micros time = decimal (time / 1000) ++ (codes "." ++ (decimal (time / 100 % 10) ++ (decimal (time / 10 % 10) ++ decimal (time % 10))))

-- where an event stands: the actor, the track, and the time
abbrev pub place_text : TrackPlace → List ℕ
place_text place = codes "\"pid\":" ++ (decimal place.actor ++ (codes ",\"tid\":" ++ (decimal place.track ++ (codes ",\"ts\":" ++ micros place.time))))

-- the name of a submission inside a string
abbrev pub name_inside : JobId → List ℕ
name_inside name = json_text (name_text name)

-- the first part of a poll's event
abbrev pub poll_head : JobId → TrackPlace → List ℕ
poll_head name place = codes ",\n{\"name\":\"" ++ (name_inside name ++ (codes "\",\"cat\":\"poll\",\"ph\":\"X\"," ++ place_text place))

-- a bar, on the track of its queue, where the clock of its core starts at this time
abbrev pub poll_place : ℕ → ℕ → Bar → TrackPlace
poll_place actor start bar = record { actor = actor; track = track_of bar.queue; time = min (start + bar.start) (2 ^ 128 - 1) }

-- the last part of a poll's event
abbrev pub poll_tail : Bar → List ℕ
poll_tail bar = codes ",\"dur\":" ++ (micros bar.time ++ (codes ",\"args\":{\"turn\":" ++ (decimal bar.turn ++ (codes ",\"done\":" ++ (truth (is_done bar.end) ++ codes "}}")))))

abbrev pub poll_event : ℕ → ℕ → Bar → List ℕ
poll_event actor start bar = poll_head bar.name (poll_place actor start bar) ++ poll_tail bar

-- the word of a step, and what it is of the arrow: its first point, one between, or its last
abbrev pub step_word : Step → List ℕ
step_word Sent = codes "sent"
step_word Took = codes "took"
step_word Done = codes "done"
step_word Redeemed = codes "redeemed"

abbrev pub step_letter : Step → List ℕ
step_letter Sent = codes "s"
step_letter Took = codes "t"
step_letter Done = codes "t"
step_letter Redeemed = codes "f"

-- a note of a submission
abbrev pub mark_event : Step → JobId → TrackPlace → List ℕ
mark_event step name place =
    codes ",\n{\"name\":\"" ++ (step_word step ++ (codes " " ++ (name_inside name ++ (codes "\",\"cat\":\"note\",\"ph\":\"X\"," ++ (place_text place ++ codes ",\"dur\":0.001}")))))

-- a point of the arrow that follows a submission
abbrev pub flow_event : Step → JobId → TrackPlace → List ℕ
flow_event step name place =
    codes ",\n{\"name\":\""
    ++ (name_inside name
    ++ (codes "\",\"cat\":\"job\",\"ph\":\"" ++ (step_letter step ++ (codes "\",\"id\":" ++ (decimal name.number ++ (codes ",\"bp\":\"e\"," ++ (place_text place ++ codes "}")))))))

-- the name of the track of a queue
abbrev pub queue_event : ℕ → ℕ → ℕ → List ℕ
queue_event actor queue shares =
    codes ",\n{\"name\":\"thread_name\",\"ph\":\"M\",\"pid\":"
    ++ (decimal actor
    ++ (codes ",\"tid\":" ++ (decimal queue ++ (codes ",\"args\":{\"name\":\"q" ++ (decimal queue ++ (codes ", " ++ (decimal shares ++ codes " shares\"}}")))))))

-- a note of a submission, with a step of its arrow
abbrev pub mark_text : Step → JobId → TrackPlace → List ℕ
mark_text step name place = mark_event step name place ++ flow_event step name place

-- a poll after which its job is done, with a step of its arrow
abbrev pub last_poll_text : ℕ → ℕ → Bar → List ℕ
last_poll_text actor start bar = poll_event actor start bar ++ flow_event Done bar.name (poll_place actor start bar)
