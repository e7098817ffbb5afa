-- What became of the outside actor's submissions, as text.
use Rattle.std.specs.Prelude.{ℕ, zero, suc, ◌++◌, List, [], ◌∷◌, codes, Option, None, Some}
use Rattle.base_words.specs.declared.names.JobId.{JobId}
use Rattle.base_words.specs.declared.note.Note.{Note}
use Rattle.base_words.specs.declared.note.Note.TheVariants.{Sent}
use Rattle.base_words.specs.declared.note.OutcomeNote.{OutcomeNote}
use Rattle.base_words.specs.Assembly.{Assembly, journal_of, outcome_of}
use Rattle.base_words.specs.Filters.{if_to}
use Rattle.base_words.specs.Journal.{Journal}
use Rattle.text_words.specs.Notes.{name_text, outcome_text}

-- the line of a submission: its name and its outcome
abbrev pub outcome_line : JobId → OutcomeNote ℕ → List ℕ
outcome_line name outcome = name_text name ++ codes " " ++ outcome_text outcome

-- the same with its line feed, if there is an outcome
abbrev pub line_of : JobId → Option (OutcomeNote ℕ) → List ℕ
line_of name None = []
line_of name (Some outcome) = outcome_line name outcome ++ codes "\n"

-- the submission to this core that a note tells
abbrev pub name_sent : ℕ → Note ℕ → Option JobId
name_sent core (Sent name order) = if_to core name name
name_sent core _ = None

-- the line of a submission, if there is one: what was first given under its name
abbrev pub line_told : Assembly ℕ → Option JobId → List ℕ
line_told assembly None = []
line_told assembly (Some name) = line_of name (outcome_of name assembly)

-- the lines of the submissions to this core that these notes tell, the oldest first
unfoldable pub lines_told : Assembly ℕ → ℕ → Journal ℕ → List ℕ
lines_told assembly core [] = []
lines_told assembly core (note ∷ before) = lines_told assembly core before ++ line_told assembly (name_sent core note)

-- the lines of the outside actor's submissions to the cores below this number, by core and number
unfoldable pub lines_below : ℕ → Assembly ℕ → List ℕ
lines_below zero assembly = []
lines_below (suc core) assembly = lines_below core assembly ++ lines_told assembly core (journal_of assembly.cores assembly)

-- the lines of all submissions of the outside actor
abbrev pub outcomes_text : Assembly ℕ → List ℕ
outcomes_text assembly = lines_below assembly.cores assembly
