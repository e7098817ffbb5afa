-- What each queue got and what it should have got, as text.
use Rattle.std.specs.Prelude.{ℕ, ◌/◌, Bool, true, false, Option, Some, None, List, [], ◌++◌, codes, decimal}
use Rattle.base_words.specs.declared.stats.QueueStats.{QueueStats}
use Rattle.base_words.specs.Assembly.{Assembly, journal_of}
use Rattle.base_words.specs.Journal.{Journal}
use Rattle.judge_view.specs.Clocks.{busy_time}
use Rattle.judge_view.specs.Shares.{queue_share}
use Rattle.judge_view.specs.declared.shares.QueueShare.{QueueShare}
use Rattle.fairview_marks.specs.Lists.{lists_below}
use Rattle.fairview_report.specs.Texts.{right, bar}
use Rattle.fairview_report.specs.declared.share.Form.{Form}
use Rattle.fairview_report.specs.declared.share.Form.TheVariants.{Blocks, Plain, Csv}

-- the first line of the table, and that of the comma-separated rows
abbrev pub head_text : Form → List ℕ
head_text Csv = codes "core,queue,shares,due,got,selected,most_waiting,finished,returned\n"
head_text _ = codes "core queue shares         due         got selected waiting finished returned\n"

-- the first columns of a queue's row: core, queue, shares, what it was due in whole nanoseconds, and what it got
abbrev pub numbers_text : ℕ → ℕ → QueueShare → List ℕ
numbers_text core queue share =
    right 4 (decimal core) ++ right 6 (decimal queue) ++ right 7 (decimal share.stats.shares) ++ right 12 (decimal (share.due / 1000))
    ++ right 12 (decimal share.stats.runtime)

-- the others: picks, jobs that waited at most, that are done and that were handed back
abbrev pub counts_text : QueueShare → List ℕ
counts_text share =
    right 9 (decimal share.stats.selected) ++ right 8 (decimal share.most_waiting) ++ right 9 (decimal share.stats.finished)
    ++ right 9 (decimal share.stats.returned)

-- the row of a queue in the table, with a bar of 20 marks for all time of the core
abbrev pub table_row : Bool → ℕ → ℕ → ℕ → QueueShare → List ℕ
table_row plain core busy queue share =
    numbers_text core queue share ++ counts_text share ++ codes " " ++ bar plain 20 share.stats.runtime busy ++ codes "\n"

-- the same columns with commas between them
abbrev pub whose_csv : ℕ → ℕ → QueueStats → List ℕ
whose_csv core queue stats = decimal core ++ codes "," ++ decimal queue ++ codes "," ++ decimal stats.shares

abbrev pub times_csv : QueueShare → List ℕ
times_csv share = decimal (share.due / 1000) ++ codes "," ++ decimal share.stats.runtime

abbrev pub counts_csv : QueueShare → List ℕ
counts_csv share =
    decimal share.stats.selected ++ codes "," ++ decimal share.most_waiting ++ codes "," ++ decimal share.stats.finished ++ codes ","
    ++ decimal share.stats.returned

abbrev pub csv_row : ℕ → ℕ → QueueShare → List ℕ
csv_row core queue share = whose_csv core queue share.stats ++ codes "," ++ times_csv share ++ codes "," ++ counts_csv share

-- the row of a queue, if there is such a queue
abbrev pub row_text : Form → ℕ → ℕ → ℕ → Option QueueShare → List ℕ
row_text form core busy queue None = []
row_text Blocks core busy queue (Some share) = table_row false core busy queue share
row_text Plain core busy queue (Some share) = table_row true core busy queue share
row_text Csv core busy queue (Some share) = csv_row core queue share ++ codes "\n"

-- the rows of a core's queues, by number, where a turn may have so many polls
abbrev pub queues_text : Form → ℕ → ℕ → ℕ → Journal ℕ → List ℕ
queues_text form burst core busy journal = lists_below (λ queue. row_text form core busy queue (queue_share burst queue journal)) 256

abbrev pub core_text : Form → ℕ → ℕ → Journal ℕ → List ℕ
core_text form burst core journal = queues_text form burst core (busy_time journal) journal

-- the rows of all cores, by number
abbrev pub cores_text : Form → Assembly ℕ → List ℕ
cores_text form assembly = lists_below (λ core. core_text form assembly.burst core (journal_of core assembly)) assembly.cores

-- the whole table
abbrev pub shares_text : Form → Assembly ℕ → List ℕ
shares_text form assembly = head_text form ++ cores_text form assembly
