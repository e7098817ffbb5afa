-- The text of the journals of all actors, line by line.
use Rattle.std.specs.Prelude.{ℕ, ◌+◌, List, [], ◌∷◌, ◌++◌, codes, decimal, map, reverse, flat_map, if◌then◌else◌}
use Rattle.base_words.specs.Assembly.{Assembly}
use Rattle.base_words.specs.Bursts.{has_bursts}
use Rattle.base_words.specs.Journal.{Journal}
use Rattle.text_words.specs.Notes.{note_line}

-- the first line tells the form: the first where each turn is a single poll, the second where it may have several
abbrev pub form_line : ℕ → List ℕ
form_line burst = if has_bursts burst then codes "journal 2" else codes "journal 1"

-- how many polls a turn may have, where that is more than one
abbrev pub burst_text : ℕ → List ℕ
burst_text burst = if has_bursts burst then codes " burst " ++ decimal burst else []

-- the second line: how many cores there are, how much each link may hold, and how many polls a turn may have
abbrev pub size_line : ℕ → ℕ → ℕ → List ℕ
size_line cores cap burst = codes "cores " ++ decimal cores ++ codes " cap " ++ decimal cap ++ burst_text burst

-- the last line
abbrev pub end_line : List ℕ
end_line = codes "end"

-- the notes of one actor, the oldest first
abbrev pub actor_lines : ℕ → Journal ℕ → List (List ℕ)
actor_lines actor journal = map (note_line actor) (reverse journal)

-- the notes of the actors from this one on, actor after actor
abbrev pub journal_lines : ℕ → List (Journal ℕ) → List (List ℕ)
journal_lines actor [] = []
journal_lines actor (journal ∷ others) = actor_lines actor journal ++ journal_lines (actor + 1) others

-- all lines
abbrev pub assembly_lines : Assembly ℕ → List (List ℕ)
assembly_lines assembly = form_line assembly.burst ∷ size_line assembly.cores assembly.cap assembly.burst ∷ (journal_lines 0 assembly.journals ++ end_line ∷ [])

-- lines as text: each ends with a line feed
abbrev pub text_of : List (List ℕ) → List ℕ
text_of lines = flat_map (λ line. line ++ codes "\n") lines

-- the first two lines as text
unfoldable pub head_of : ℕ → ℕ → ℕ → List ℕ
head_of cores cap burst = text_of (form_line burst ∷ size_line cores cap burst ∷ [])

abbrev pub head_text : Assembly ℕ → List ℕ
head_text assembly = head_of assembly.cores assembly.cap assembly.burst

-- the text of the journals
unfoldable pub journal_text : Assembly ℕ → List ℕ
journal_text assembly = text_of (assembly_lines assembly)
