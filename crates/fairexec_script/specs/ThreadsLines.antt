-- Which lines a script for threads has.
use Rattle.std.specs.Prelude.{ℕ, ◌==◌, ◌&&◌, ◌||◌, not, Bool, true, false, List, [], ◌∷◌, Option, Some, None, Result, Ok, Err, if◌then◌else◌}
use Rattle.fairexec_script.specs.declared.line.Line.{Line}
use Rattle.fairexec_script.specs.declared.keyword.Keyword.{Keyword}
use Rattle.fairexec_script.specs.declared.keyword.Keyword.TheVariants as keyword
use Rattle.fairexec_script.specs.Keywords.{keyword_of, takes}
use Rattle.fairexec_script.specs.Lines as script
use Rattle.text_words.specs.declared.fault.Cause.{Cause}
use Rattle.text_words.specs.Numbers.{number_of, within}
use Rattle.text_words.specs.declared.fault.Cause.TheVariants.{BadWord}
use Rattle.text_words.specs.Words.{first, others, word_count}
use Rattle.fairexec_script.specs.declared.fault.ThreadsCause.{ThreadsCause}
use Rattle.fairexec_script.specs.declared.fault.ThreadsCause.TheVariants as why

-- something was read
abbrev pub is_read : Result ℕ Cause → Bool
is_read (Ok number) = true
is_read (Err cause) = false

-- the word is the number of the outside actor, as numbers are spelled; it is how many cores there are
abbrev pub is_outside : ℕ → List ℕ → Bool
is_outside cores word = is_read (within cores cores (number_of word))

-- of the words behind a line's first word: there is a sender, and it isn't the outside actor
abbrev pub is_of_another : ℕ → List (List ℕ) → Bool
is_of_another cores [] = false
is_of_another cores (word ∷ rest) = not (is_outside cores word)

-- a line with this first word and those behind it stands in other scripts alone: only queues and four kinds of orders are told
abbrev pub bars : Keyword → ℕ → List (List ℕ) → Bool
bars keyword.Queue cores ws = false
bars keyword.Submit cores ws = is_of_another cores ws
bars keyword.Create cores ws = is_of_another cores ws
bars keyword.Shares cores ws = is_of_another cores ws
bars keyword.Close cores ws = is_of_another cores ws
bars _ cores ws = true

-- the same by a first word that may be none of a script
abbrev pub is_barred : Option Keyword → ℕ → List (List ℕ) → Bool
is_barred None cores ws = false
is_barred (Some keyword) cores ws = bars keyword cores ws

-- a word begins as a poll that parks
abbrev pub is_park : List ℕ → Bool
is_park [] = false
is_park (letter ∷ rest) = letter == 107

-- one of these words does
abbrev pub has_park : List (List ℕ) → Bool
has_park [] = false
has_park (word ∷ rest) = is_park word || has_park rest

-- A line with this first word submits a job, has as many words as such lines have, and one of them begins as a poll that parks.
-- Nobody would wake the job; a number that begins so is a bad word in any script.
abbrev pub parks : Option Keyword → List (List ℕ) → Bool
parks (Some keyword.Submit) ws = script.counts (takes keyword.Submit) (word_count ws) && has_park ws
parks _ ws = false

-- what a line of any script says
abbrev pub of_script : Result Line Cause → Result Line ThreadsCause
of_script (Ok line) = Ok line
of_script (Err cause) = Err (why.Line cause)

-- the first line that isn't skipped
abbrev pub size_told : List (List ℕ) → Result Line ThreadsCause
size_told ws = of_script (script.first_line ws)

-- a line after it; `late` says that a line other than a `queue` line came before
abbrev pub line_told : ℕ → Bool → List (List ℕ) → Result Line ThreadsCause
line_told cores late ws =
    if is_barred (keyword_of (first ws)) cores (others ws) then Err why.NotForThreads
    else (if parks (keyword_of (first ws)) ws then Err (why.Line BadWord)
    else of_script (script.later_line cores late ws))
