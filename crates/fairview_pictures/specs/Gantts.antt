-- The picture of the polls of a run: a lane for each core, with the shapes of its notes.
use Rattle.std.specs.Prelude.{ℕ, zero, suc, ◌+◌, ◌-◌, nat_lt, if◌then◌else◌, ◌++◌, List, [], ◌∷◌, codes, decimal}
use Rattle.base_words.specs.declared.note.Note.{Note}
use Rattle.base_words.specs.declared.note.Note.TheVariants.{Created, Yield, Park, Stayed, Done, Returned, Back, QueueClosed, CoreClosed, Shut}
use Rattle.base_words.specs.Assembly.{Assembly, journal_of}
use Rattle.base_words.specs.Journal.{Journal}
use Rattle.base_words.specs.Picks.{turns}
use Rattle.judge_view.specs.Clocks.{busy_time}
use Rattle.judge_view.specs.declared.ends.End.TheVariants as ends
use Rattle.fairview_marks.specs.Bars.{bar}
use Rattle.fairview_marks.specs.declared.polls.Bar.{Bar}
use Rattle.fairview_pictures.specs.Cuts.{shows, has_turn, lanes}
use Rattle.fairview_pictures.specs.Frames.{fitting, cell, x, frame_of, longest}
use Rattle.fairview_pictures.specs.Marks.{back_text, close_text, core_closed_text, gate_text, legend_text, fitting_line, kind_below}
use Rattle.fairview_pictures.specs.Shapes.{bar_text}
use Rattle.fairview_pictures.specs.Heads.{head_text, end_text}
use Rattle.fairview_pictures.specs.declared.cut.Cut.{Cut}
use Rattle.fairview_pictures.specs.declared.frame.Frame.{Frame}
use Rattle.fairview_pictures.specs.declared.marks.Kind.{Kind}
use Rattle.fairview_pictures.specs.declared.marks.Kind.TheVariants as kind
use Rattle.fairview_pictures.specs.declared.marks.Stroke.{Stroke}
use Rattle.fairview_pictures.specs.declared.shapes.BoxText.{BoxText}

-- the box of a bar from one half point to another
abbrev pub bar_box : Frame → Bar → ℕ → ℕ → BoxText
bar_box frame bar left right = record { queue = bar.queue; x = fitting (left + 300); y = frame.top; width = right - left; height = 56 }

-- a bar is drawn if it ends at another half point than it starts
abbrev pub bar_between : Frame → Bar → ℕ → ℕ → List ℕ
bar_between frame bar left right = if nat_lt left right then bar_text (bar_box frame bar left right) bar else []

-- the bar of a poll, from the half point at which it starts to that at which it ends
abbrev pub poll_text : Frame → Bar → List ℕ
poll_text frame bar = bar_between frame bar (cell frame bar.start) (cell frame (fitting (bar.start + bar.time)))

-- the stroke of a mark at this time
abbrev pub stroke_at : Frame → Kind → ℕ → Stroke
stroke_at frame kind time = record { kind = kind; x = x frame time; y = fitting_line (frame.top + kind_below kind) }

-- the shape of a note, by the notes before it
abbrev pub shape_text : Frame → Note ℕ → Journal ℕ → List ℕ
shape_text frame (Yield name time) before = poll_text frame (bar name time ends.Yield before)
shape_text frame (Park name time) before = poll_text frame (bar name time ends.Park before)
shape_text frame (Stayed name time) before = poll_text frame (bar name time ends.Stayed before)
shape_text frame (Done name time value) before = poll_text frame (bar name time ends.Done before)
shape_text frame (Returned name reason) before = back_text (stroke_at frame kind.Back (busy_time before)) name
shape_text frame (Back name reason) before = back_text (stroke_at frame kind.Back (busy_time before)) name
shape_text frame (QueueClosed queue mode) before = close_text (stroke_at frame kind.Close (busy_time before)) queue
shape_text frame (CoreClosed mode) before = core_closed_text (stroke_at frame kind.Close (busy_time before))
shape_text frame (Shut sender count) before = gate_text (stroke_at frame kind.Gate (busy_time before)) sender count
shape_text frame _ before = []

-- the legend has each queue that is created; other notes have shapes in the turns that are shown
abbrev pub note_text : Frame → Note ℕ → Journal ℕ → List ℕ
note_text frame (Created queue shares) before = legend_text frame.top queue shares
note_text frame note before = if has_turn frame.cut (turns before) then shape_text frame note before else []

-- the shapes of these notes, the oldest first
unfoldable pub notes_text : Frame → Journal ℕ → List ℕ
notes_text frame [] = []
notes_text frame (note ∷ before) = notes_text frame before ++ note_text frame note before

-- the ground of a lane, and the name of its core
abbrev pub lane_head : ℕ → ℕ → List ℕ
lane_head top core =
    codes "<rect class=\"lane\" x=\"300\" y=\""
    ++ (decimal top
    ++ (codes "\" width=\"2000\" height=\"56\"/><text x=\"40\" y=\"" ++ (decimal (fitting_line (top + 38)) ++ (codes "\">core " ++ (decimal core ++ codes "</text>\n")))))

-- the lane of a core, whose legend begins with queue 0
abbrev pub lane_of : Frame → ℕ → Journal ℕ → List ℕ
lane_of frame core journal = lane_head frame.top core ++ (legend_text frame.top 0 1000 ++ notes_text frame journal)

abbrev pub lane_text : Cut → ℕ → ℕ → Journal ℕ → List ℕ
lane_text cut span core journal = lane_of (frame_of cut span core journal) core journal

-- the lane of a core, if the core is shown
abbrev pub lane_if : Cut → ℕ → ℕ → Journal ℕ → List ℕ
lane_if cut span core journal = if shows cut core then lane_text cut span core journal else []

-- the lanes of the cores below this number
unfoldable pub lanes_below : ℕ → Cut → ℕ → Assembly ℕ → List ℕ
lanes_below zero cut span assembly = []
lanes_below (suc core) cut span assembly = lanes_below core cut span assembly ++ lane_if cut span core (journal_of core assembly)

abbrev pub all_lanes : Cut → ℕ → Assembly ℕ → List ℕ
all_lanes cut span assembly = lanes_below assembly.cores cut span assembly

-- the whole picture
abbrev pub gantt_text : Cut → Assembly ℕ → List ℕ
gantt_text cut assembly = head_text (lanes cut assembly.cores) (longest cut assembly) ++ (all_lanes cut (longest cut assembly) assembly ++ end_text)
