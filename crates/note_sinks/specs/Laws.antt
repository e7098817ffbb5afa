-- How the parts of all actors are joined.
use Rattle.std.specs.Prelude.{◌≡◌, ℕ, ◌+◌, List, [], ◌∷◌, ◌++◌, codes}
use Rattle.base_words.specs.Assembly.{Assembly}
use Rattle.base_words.specs.Journal.{Journal}
use Rattle.text_journal.specs.Texts.{actor_lines, end_line, head_text, journal_text, text_of}

-- the lines of the actors from this one on, actor after actor
abbrev pub parts_text : ℕ → List (Journal ℕ) → List ℕ
parts_text actor [] = []
parts_text actor (journal ∷ others) = text_of (actor_lines actor journal) ++ parts_text (actor + 1) others

-- the two head lines, the lines of all actors in their order, and the last line are the text of the journals
abbrev pub PartsAreJoined : Type 0
PartsAreJoined = (assembly : Assembly ℕ) → journal_text assembly ≡ head_text assembly ++ (parts_text 0 assembly.journals ++ (end_line ++ codes "\n"))
