-- A column of a panel as text.
use Rattle.std.specs.Prelude.{ℕ, Option, Some, None, List, [], ◌++◌, codes, decimal}
use Rattle.base_words.specs.Journal.{Journal}
use Rattle.fairview_pictures.specs.Shapes.{box_text}
use Rattle.fairview_lag.specs.ColumnPlaces.{ahead_box, behind_box, strip_at, above_strip, below_strip}
use Rattle.fairview_lag.specs.Columns.{column}
use Rattle.fairview_marks.specs.Lists.{lists_below}
use Rattle.fairview_lag.specs.declared.column_texts.Strip.{Strip}
use Rattle.fairview_lag.specs.declared.columns.Column.{Column}
use Rattle.fairview_lag.specs.declared.columns.Panel.{Panel}

-- where a part of a column stands and how wide it is, up to its height
abbrev pub strip_text : Strip → List ℕ
strip_text strip = codes "\" x=\"" ++ (decimal strip.x ++ (codes "\" y=\"" ++ (decimal strip.y ++ (codes "\" width=\"" ++ (decimal strip.width ++ codes "\" height=\"")))))

-- a piece of the line of the bound
abbrev pub bound_text : Strip → List ℕ
bound_text strip = codes "<rect class=\"bound" ++ (strip_text strip ++ codes "2\"/>")

-- the ground of the column, which the pointer finds
abbrev pub ground_text : Strip → List ℕ
ground_text strip = codes "<rect class=\"hit" ++ (strip_text strip ++ codes "120\"/>")

-- the title of a column, which is told when the pointer stands on it
abbrev pub title_text : Panel → Column → List ℕ
title_text panel column =
    codes "turns "
    ++ (decimal column.from
    ++ (codes " to "
    ++ (decimal column.to
    ++ (codes ": q"
    ++ (decimal panel.first
    ++ (codes " ahead by at most "
    ++ (decimal column.ahead ++ (codes ", q" ++ (decimal panel.second ++ (codes " by " ++ (decimal column.behind ++ (codes ", bound " ++ decimal column.bound))))))))))))

-- both leads, and the bound above and below
abbrev pub shapes_text : Panel → Column → List ℕ
shapes_text panel column =
    box_text (ahead_box panel column)
    ++ (codes "/>"
    ++ (box_text (behind_box panel column)
    ++ (codes "/>"
    ++ (bound_text (above_strip panel column) ++ bound_text (below_strip panel column)))))

-- a column: its title, its shapes and its ground
abbrev pub column_text : Panel → Column → List ℕ
column_text panel column =
    codes "<g><title>" ++ (title_text panel column ++ (codes "</title>" ++ (shapes_text panel column ++ (ground_text (strip_at panel column panel.top) ++ codes "</g>\n"))))

-- a column without a lag has no text
abbrev pub column_if : Panel → Option Column → List ℕ
column_if panel None = []
column_if panel (Some column) = column_text panel column

-- all columns of a panel
abbrev pub columns_text : Panel → Journal ℕ → List ℕ
columns_text panel journal = lists_below (λ number. column_if panel (column panel number journal)) 1000
