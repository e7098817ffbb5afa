-- The places of a column's parts.
use Rattle.std.specs.Prelude.{ℕ, ◌+◌, ◌-◌, ◌*◌, ◌/◌, min, max, Some}
use Rattle.fairview_pictures.specs.Frames.{fitting}
use Rattle.fairview_pictures.specs.Marks.{fitting_line}
use Rattle.fairview_pictures.specs.declared.shapes.BoxText.{BoxText}
use Rattle.fairview_lag.specs.Columns.{edge, cell}
use Rattle.fairview_lag.specs.declared.column_texts.Strip.{Strip}
use Rattle.fairview_lag.specs.declared.columns.Column.{Column}
use Rattle.fairview_lag.specs.declared.columns.Panel.{Panel}

-- how high a lead stands: the bound at the last turn has 60 points
abbrev pub height : Panel → ℕ → ℕ
height panel lead = min (fitting (min lead panel.bound * 60) / max panel.bound 1) 60

-- the line on which a column stands when no queue is ahead
abbrev pub middle : Panel → ℕ
middle panel = fitting_line (panel.top + 60)

-- the left end of a column
abbrev pub left : Panel → Column → ℕ
left panel column = cell panel column.from * 2 + 300

-- its width, at least that of one column
abbrev pub width : Panel → Column → ℕ
width panel column = max (edge panel column.to * 2 - cell panel column.from * 2) 2

-- the lead of the first queue stands above the middle, in its colour
abbrev pub ahead_box : Panel → Column → BoxText
ahead_box panel column = record {
  queue = Some panel.first;
  x = left panel column;
  y = middle panel - height panel column.ahead;
  width = width panel column;
  height = height panel column.ahead;
}

-- the lead of the second queue stands below it
abbrev pub behind_box : Panel → Column → BoxText
behind_box panel column = record {
  queue = Some panel.second;
  x = left panel column;
  y = middle panel;
  width = width panel column;
  height = height panel column.behind;
}

-- a part of a column from this line on
abbrev pub strip_at : Panel → Column → ℕ → Strip
strip_at panel column y = record { x = left panel column; y = y; width = width panel column }

-- the bound above the middle
abbrev pub above_strip : Panel → Column → Strip
above_strip panel column = strip_at panel column (middle panel - height panel column.bound)

-- the bound below the middle
abbrev pub below_strip : Panel → Column → Strip
below_strip panel column = strip_at panel column (fitting_line (middle panel + height panel column.bound))
