-- The lines of statistics.
use Rattle.std.specs.Prelude.{ℕ, Bool, true, false, ◌++◌, List, codes, decimal}
use Rattle.base_words.specs.declared.stats.CoreStats.{CoreStats}
use Rattle.base_words.specs.declared.stats.QueueStats.{QueueStats}

abbrev pub yes_or_no : Bool → List ℕ
yes_or_no true = codes "yes"
yes_or_no false = codes "no"

-- the line of a core: how many turns it made, its floor, the jobs inside, and whether it is drained
abbrev pub core_line : ℕ → CoreStats → List ℕ
core_line core stats =
    codes "core " ++ decimal core ++ codes " turns " ++ decimal stats.turns ++ codes " floor " ++ decimal stats.floor
    ++ codes " held " ++ decimal stats.held ++ codes " drained " ++ yes_or_no stats.drained

-- the first part of a queue's line: of which core and queue they are, its shares and its picks
abbrev pub shares_text : ℕ → ℕ → QueueStats → List ℕ
shares_text core queue stats =
    codes "stat " ++ decimal core ++ codes " q" ++ decimal queue ++ codes " shares " ++ decimal stats.shares ++ codes " selected " ++ decimal stats.selected

-- its middle part: the time that its turns took, and its virtual runtime
abbrev pub times_text : QueueStats → List ℕ
times_text stats = codes "runtime " ++ decimal stats.runtime ++ codes " vr " ++ decimal stats.virtual_runtime

-- its last part: the jobs that wait, that are done, and that a pick handed back
abbrev pub jobs_text : QueueStats → List ℕ
jobs_text stats = codes "waiting " ++ decimal stats.waiting ++ codes " finished " ++ decimal stats.finished ++ codes " returned " ++ decimal stats.returned

-- the line of a queue
abbrev pub queue_line : ℕ → ℕ → QueueStats → List ℕ
queue_line core queue stats = shares_text core queue stats ++ codes " " ++ times_text stats ++ codes " " ++ jobs_text stats
