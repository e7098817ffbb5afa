-- What stands before the lanes of a picture, and behind them.
use Rattle.std.specs.Prelude.{ℕ, ◌+◌, ◌*◌, ◌++◌, List, codes, decimal}
use Rattle.fairview_pictures.specs.Marks.{fitting_line}
use Rattle.fairview_pictures.specs.Styles.{style, legend}

-- the first line
abbrev pub opening_text : ℕ → List ℕ
opening_text count =
    codes "<svg xmlns=\"http://www.w3.org/2000/svg\" viewBox=\"0 0 2400 " ++ (decimal (fitting_line (fitting_line (count * 160) + 140)) ++ codes "\" width=\"1200\">\n")

-- the axis: the time at its begin and at its end
abbrev pub axis_text : ℕ → List ℕ
axis_text span =
    codes "<text class=\"axis\" x=\"300\" y=\"80\">processor time of each core: 0</text><text class=\"axis end\" x=\"2300\" y=\"80\">" ++ (decimal span ++ codes " ns</text>\n")

-- what stands before the lanes
unfoldable pub head_text : ℕ → ℕ → List ℕ
head_text count span = opening_text count ++ (style ++ (legend ++ axis_text span))

-- the last line
abbrev pub end_text : List ℕ
end_text = codes "</svg>\n"
