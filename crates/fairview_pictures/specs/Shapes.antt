-- The shapes of a lane as text. What comes from a journal stands in it as numbers, and its names are escaped.
use Rattle.std.specs.Prelude.{ℕ, ◌%◌, ◌==◌, ◌++◌, if◌then◌else◌, Option, Some, None, List, codes, decimal}
use Rattle.base_words.specs.declared.names.JobId.{JobId}
use Rattle.text_words.specs.Notes.{name_text}
use Rattle.judge_view.specs.declared.ends.End.{End}
use Rattle.judge_view.specs.declared.ends.End.TheVariants.{Park, Stayed}
use Rattle.fairview_marks.specs.declared.polls.Bar.{Bar}
use Rattle.fairview_marks.specs.Escapes.{xml_text}
use Rattle.fairview_pictures.specs.declared.shapes.BoxText.{BoxText}

-- the word of a colour
abbrev pub colour_word : ℕ → List ℕ
colour_word number =
    if number == 0 then codes "a"
    else if number == 1 then codes "b"
    else if number == 2 then codes "c"
    else if number == 3 then codes "d"
    else if number == 4 then codes "e"
    else if number == 5 then codes "f"
    else if number == 6 then codes "g"
    else if number == 7 then codes "h"
    else if number == 8 then codes "i"
    else codes "j"

-- the colour of a queue: one of ten, or that of polls whose queue no note tells
abbrev pub colour : Option ℕ → List ℕ
colour None = codes "n"
colour (Some queue) = colour_word (queue % 10)

abbrev pub queue_text : Option ℕ → List ℕ
queue_text None = codes "no queue"
queue_text (Some queue) = codes "q" ++ decimal queue

-- the name of a submission inside a tag
abbrev pub name_inside : JobId → List ℕ
name_inside name = xml_text (name_text name)

-- a rectangle in the colour of a queue, without its end
abbrev pub box_text : BoxText → List ℕ
box_text shape =
    codes "<rect class=\""
    ++ (colour shape.queue
    ++ (codes "\" x=\""
    ++ (decimal shape.x
    ++ (codes "\" y=\"" ++ (decimal shape.y ++ (codes "\" width=\"" ++ (decimal shape.width ++ (codes "\" height=\"" ++ (decimal shape.height ++ codes "\"")))))))))

-- what is told of a job that asked to be parked
abbrev pub end_text : End → List ℕ
end_text Park = codes ", parked"
end_text Stayed = codes ", stayed"
end_text _ = codes ""

-- what is told of a poll
abbrev pub bar_title : Bar → List ℕ
bar_title bar =
    name_inside bar.name
    ++ (codes " of "
    ++ (queue_text bar.queue
    ++ (codes ", turn " ++ (decimal bar.turn ++ (codes ": " ++ (decimal bar.time ++ (codes " ns from " ++ (decimal bar.start ++ end_text bar.end))))))))

-- the bar of a poll
abbrev pub bar_text : BoxText → Bar → List ℕ
bar_text shape bar = box_text shape ++ (codes "><title>" ++ (bar_title bar ++ codes "</title></rect>\n"))
