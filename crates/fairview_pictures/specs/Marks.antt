-- The marks of a lane as text: hand-backs, closes and gates, and the queues of the legend.
use Rattle.std.specs.Prelude.{ℕ, ◌+◌, ◌*◌, ◌%◌, ◌^◌, ◌-◌, min, ◌++◌, Some, List, codes, decimal}
use Rattle.base_words.specs.declared.names.JobId.{JobId}
use Rattle.fairview_pictures.specs.Shapes.{box_text, name_inside}
use Rattle.fairview_pictures.specs.declared.marks.Kind.{Kind}
use Rattle.fairview_pictures.specs.declared.marks.Kind.TheVariants.{Back, Close, Gate}
use Rattle.fairview_pictures.specs.declared.marks.Stroke.{Stroke}
use Rattle.fairview_pictures.specs.declared.shapes.BoxText.{BoxText}

abbrev pub kind_word : Kind → List ℕ
kind_word Back = codes "back"
kind_word Close = codes "close"
kind_word Gate = codes "gate"

-- how far below the top of its lane it stands
abbrev pub kind_below : Kind → ℕ
kind_below Back = 58
kind_below Close = 66
kind_below Gate = 74

-- a mark under a lane, up to what is told of it
abbrev pub stroke_text : Stroke → List ℕ
stroke_text stroke =
    codes "<rect class=\""
    ++ (kind_word stroke.kind ++ (codes "\" x=\"" ++ (decimal stroke.x ++ (codes "\" y=\"" ++ (decimal stroke.y ++ codes "\" width=\"6\" height=\"8\"><title>")))))

abbrev pub back_text : Stroke → JobId → List ℕ
back_text stroke name = stroke_text stroke ++ (name_inside name ++ codes " handed back</title></rect>\n")

abbrev pub close_text : Stroke → ℕ → List ℕ
close_text stroke queue = stroke_text stroke ++ (codes "q" ++ (decimal queue ++ codes " closed</title></rect>\n"))

abbrev pub core_closed_text : Stroke → List ℕ
core_closed_text stroke = stroke_text stroke ++ codes "core closed</title></rect>\n"

abbrev pub gate_text : Stroke → ℕ → ℕ → List ℕ
gate_text stroke sender count =
    stroke_text stroke ++ (codes "gate of " ++ (decimal sender ++ (codes " shut after " ++ (decimal count ++ codes "</title></rect>\n"))))

-- within its type
abbrev pub fitting_line : ℕ → ℕ
fitting_line line = min line (2 ^ 32 - 1)

-- a row of the legend has eight queues
abbrev pub legend_left : ℕ → ℕ
legend_left queue = queue % 8 * 260 + 300

-- the box of a queue of the legend, under its lane
abbrev pub legend_box : ℕ → ℕ → BoxText
legend_box top queue = record { queue = Some queue; x = legend_left queue; y = fitting_line (top + 92); width = 24; height = 24 }

-- its words: its number and its shares
abbrev pub legend_words : ℕ → ℕ → ℕ → List ℕ
legend_words top queue shares =
    codes "/><text x=\""
    ++ (decimal (legend_left queue + 36)
    ++ (codes "\" y=\""
    ++ (decimal (fitting_line (top + 113)) ++ (codes "\">q" ++ (decimal queue ++ (codes ": " ++ (decimal shares ++ codes " shares</text>\n")))))))

-- a queue of the legend
abbrev pub legend_text : ℕ → ℕ → ℕ → List ℕ
legend_text top queue shares = box_text (legend_box top queue) ++ legend_words top queue shares
