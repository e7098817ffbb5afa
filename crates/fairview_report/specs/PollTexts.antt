-- The polls of all cores as rows with commas.
use Rattle.std.specs.Prelude.{◌≡◌, ◌≤◌, ℕ, nat_lt, if◌then◌else◌, Option, Some, None, List, [], ◌++◌, codes, decimal, flat_map, get_or, length, string_bytes}
use Rattle.base_words.specs.Assembly.{Assembly, journal_of}
use Rattle.base_words.specs.Journal.{Journal}
use Rattle.text_words.specs.Notes.{name_text}
use Rattle.judge_view.specs.Ends.{end_word}
use Rattle.text_journal.specs.Handed.{Handed}
use Rattle.judge_view.specs.Polls.{KnowsTurns, polls}
use Rattle.judge_view.specs.declared.polls.Poll.{Poll}
use Rattle.fairview_marks.specs.Lists.{lists_below}
use Rattle.fairview_report.specs.declared.poll.PollRows.{PollRows}

-- the first line
abbrev pub head_text : List ℕ
head_text = codes "core,turn,queue,name,step,time,virtual_runtime,end\n"

-- when and where a poll ran: its core, its turn, and the queue of that turn
abbrev pub turn_text : ℕ → Poll → List ℕ
turn_text core poll = decimal core ++ codes "," ++ decimal poll.turn ++ codes "," ++ decimal poll.picked.queue

-- its job, which of its polls it was, and its time
abbrev pub job_text : Poll → List ℕ
job_text poll = name_text poll.name ++ codes "," ++ decimal poll.step ++ codes "," ++ decimal poll.time

-- the row of a poll; the last columns are the virtual runtime of its queue before it, and how it ended
abbrev pub poll_row : ℕ → Poll → List ℕ
poll_row core poll =
    turn_text core poll ++ (codes "," ++ (job_text poll ++ (codes "," ++ (decimal poll.picked.virtual_runtime ++ (codes "," ++ end_word poll.end)))))

-- the rows of a core
abbrev pub core_text : ℕ → Journal ℕ → List ℕ
core_text core journal = flat_map (λ poll. poll_row core poll ++ codes "\n") (polls journal)

-- the rows of all cores, by number
abbrev pub cores_text : Assembly ℕ → List ℕ
cores_text assembly = lists_below (λ core. core_text core (journal_of core assembly)) assembly.cores

-- all rows
abbrev pub polls_text : Assembly ℕ → List ℕ
polls_text assembly = head_text ++ cores_text assembly

-- the row of a poll, if there is one
abbrev pub row_told : ℕ → Option Poll → List ℕ
row_told core None = []
row_told core (Some poll) = poll_row core poll ++ codes "\n"

-- the rows of these journals, each of a core
abbrev pub rows_of : List (Journal ℕ) → List ℕ
rows_of journals = lists_below (λ core. core_text core (get_or journals core [])) (length journals)

-- the rows of the actor whose notes come now: the outside actor has none
abbrev pub rows_now : ℕ → ℕ → Journal ℕ → List ℕ
rows_now actor cores notes = if nat_lt actor cores then core_text actor notes else []

-- the rows of all that was handed over stand on the page
pub record HasRows (rows : PollRows) (handed : Handed) : Type 0 where
  pub cores : rows.cores ≡ handed.cores
  pub few : handed.cores ≤ 255
  pub actor : rows.actor ≡ length handed.earlier
  pub walk : KnowsTurns rows.walk handed.notes
  pub page : string_bytes rows.page ≡ (head_text ++ rows_of handed.earlier) ++ rows_now (length handed.earlier) handed.cores handed.notes
