-- The picture of the leads of a run: a panel for each pair of queues.
use Rattle.std.specs.Prelude.{ℕ, zero, suc, ◌+◌, ◌-◌, ◌*◌, min, nat_lt, if◌then◌else◌, Option, Some, None, List, [], ◌++◌, length, slice_get, codes, decimal}
use Rattle.base_words.specs.Assembly.{Assembly, journal_of}
use Rattle.fairview_pictures.specs.Heads.{end_text}
use Rattle.fairview_pictures.specs.Styles.{style}
use Rattle.fairview_marks.specs.Lists.{lists_below}
use Rattle.fairview_lag.specs.Pairs.{run_pairs}
use Rattle.fairview_lag.specs.Panels.{panel_text}
use Rattle.fairview_lag.specs.declared.pairs.PairLag.{PairLag}

-- a picture has no more panels
abbrev pub most_panels : ℕ
most_panels = 12

-- the first line
abbrev pub opening_text : ℕ → List ℕ
opening_text count = codes "<svg xmlns=\"http://www.w3.org/2000/svg\" viewBox=\"0 0 2400 " ++ (decimal (count * 200 + 160) ++ codes "\" width=\"1200\">\n")

-- the colours that only this picture has
unfoldable pub own_style : List ℕ
own_style = codes "<style>.bound{fill:#d01c1c}.hit{fill:transparent}@media(prefers-color-scheme:dark){.bound{fill:#ff5c5c}}</style>\n"

-- what is shown
unfoldable pub words_text : List ℕ
words_text = codes "<text class=\"axis\" x=\"300\" y=\"44\">lead in virtual runtime since both queues have work; red: the bound that is proved</text>\n"

-- what stands before the panels
abbrev pub head_text : ℕ → List ℕ
head_text count = opening_text count ++ (style ++ (own_style ++ words_text))

-- how many pairs are shown: the first ones
abbrev pub shown : List PairLag → ℕ
shown pairs = min (length pairs) most_panels

-- the panel of a pair, if its core is there
unfoldable pub panel_if : ℕ → PairLag → Assembly ℕ → List ℕ
panel_if index pair assembly = if nat_lt pair.core assembly.cores then panel_text assembly.burst index pair (journal_of pair.core assembly) else []

abbrev pub panel_told : ℕ → Option PairLag → Assembly ℕ → List ℕ
panel_told index None assembly = []
panel_told index (Some pair) assembly = panel_if index pair assembly

-- the panels of the first pairs, so many
abbrev pub panels_text : ℕ → List PairLag → Assembly ℕ → List ℕ
panels_text count pairs assembly = lists_below (λ index. panel_told index (slice_get pairs index) assembly) count

-- how many pairs are left out, if any
abbrev pub rest_text : ℕ → List ℕ
rest_text zero = []
rest_text (suc rest) = codes "<text class=\"axis\" x=\"300\" y=\"2540\">" ++ (decimal (suc rest) ++ codes " pairs more are left out</text>\n")

-- the picture of these pairs
abbrev pub picture_of : List PairLag → Assembly ℕ → List ℕ
picture_of pairs assembly = head_text (shown pairs) ++ (panels_text (shown pairs) pairs assembly ++ (rest_text (length pairs - shown pairs) ++ end_text))

-- the whole picture
abbrev pub lag_picture : Assembly ℕ → List ℕ
lag_picture assembly = picture_of (run_pairs assembly) assembly
