-- How a poll ended.
use Rattle.std.specs.Prelude.{Bool, true, false, List, ℕ, codes}
use Rattle.base_words.specs.declared.note.Note.{Note}
use Rattle.base_words.specs.declared.note.Note.TheVariants as note
use Rattle.judge_view.specs.declared.ends.End.{End}
use Rattle.judge_view.specs.declared.ends.End.TheVariants.{Yield, Park, Stayed, Done}

-- how the poll ended that a note settles
abbrev pub end_of : {T : Type 0} → Note T → End
end_of (note.Park name time) = Park
end_of (note.Stayed name time) = Stayed
end_of (note.Done name time value) = Done
end_of _ = Yield

-- whether the job is done
abbrev pub is_done : End → Bool
is_done Done = true
is_done _ = false

-- the word of an end, as that of its note
abbrev pub end_word : End → List ℕ
end_word Yield = codes "yield"
end_word Park = codes "park"
end_word Stayed = codes "stayed"
end_word Done = codes "done"
