-- A panel of two queues: its ground, what is told of the pair, and its columns.
use Rattle.std.specs.Prelude.{ℕ, ◌+◌, ◌*◌, List, ◌++◌, codes, decimal}
use Rattle.base_words.specs.Journal.{Journal}
use Rattle.base_words.specs.Picks.{turns}
use Rattle.fairview_pictures.specs.Marks.{fitting_line}
use Rattle.fairview_lag.specs.ColumnTexts.{columns_text}
use Rattle.fairview_lag.specs.Lags.{bound}
use Rattle.fairview_lag.specs.Lines.{pair_text}
use Rattle.fairview_lag.specs.declared.columns.Panel.{Panel}
use Rattle.fairview_lag.specs.declared.pairs.PairLag.{PairLag}

-- the top of the panel of this number
abbrev pub top_of : ℕ → ℕ
top_of index = fitting_line (fitting_line (index * 200) + 100)

-- the panel of a pair: the turns of its core, and the bound at the last
abbrev pub panel_of : ℕ → ℕ → PairLag → Journal ℕ → Panel
panel_of burst index pair journal = record {
  top = top_of index;
  burst = burst;
  first = pair.first;
  second = pair.second;
  turns = turns journal;
  bound = bound burst pair.first pair.second journal;
}

-- the ground of a panel
abbrev pub ground_text : Panel → List ℕ
ground_text panel = codes "<rect class=\"lane\" x=\"300\" y=\"" ++ (decimal panel.top ++ codes "\" width=\"2000\" height=\"120\"/>")

-- which queue is ahead above its middle, and which below it
abbrev pub above_text : Panel → List ℕ
above_text panel = codes "<text x=\"40\" y=\"" ++ (decimal (fitting_line (panel.top + 38)) ++ (codes "\">q" ++ (decimal panel.first ++ codes " ahead</text>")))

abbrev pub below_text : Panel → List ℕ
below_text panel = codes "<text x=\"40\" y=\"" ++ (decimal (fitting_line (panel.top + 98)) ++ (codes "\">q" ++ (decimal panel.second ++ codes " ahead</text>")))

-- what is told below a panel: the greatest lead, and the turns of the core
abbrev pub words_text : Panel → PairLag → List ℕ
words_text panel pair =
    codes "<text class=\"axis\" x=\"300\" y=\""
    ++ (decimal (fitting_line (panel.top + 152))
    ++ (codes "\">"
    ++ (pair_text pair
    ++ (codes "</text><text class=\"axis end\" x=\"2300\" y=\""
    ++ (decimal (fitting_line (panel.top + 152)) ++ (codes "\">turns 1 to " ++ (decimal panel.turns ++ codes "</text>\n")))))))

-- what stands before the columns
unfoldable pub head_text : Panel → PairLag → List ℕ
head_text panel pair = ground_text panel ++ (above_text panel ++ (below_text panel ++ words_text panel pair))

-- a panel
abbrev pub panel_on : Panel → PairLag → Journal ℕ → List ℕ
panel_on panel pair journal = head_text panel pair ++ columns_text panel journal

abbrev pub panel_text : ℕ → ℕ → PairLag → Journal ℕ → List ℕ
panel_text burst index pair journal = panel_on (panel_of burst index pair journal) pair journal
