-- What the words of a command line show, or what is wrong with them.
use Rattle.std.specs.Prelude.{ℕ, ◌-◌, ◌^◌, nat_lt, if◌then◌else◌, List, Bool, true, false, Option, Some, None, Result, Ok, Err, codes}
use Rattle.base_words.specs.declared.names.JobId.{JobId}
use Rattle.text_journal.specs.Fields.{name_of, number_in}
use Rattle.fairview_args.specs.Asks.{Wish}
use Rattle.fairview_args.specs.Asks as wish
use Rattle.fairview_report.specs.declared.share.Form.{Form}
use Rattle.fairview_report.specs.declared.share.Form.TheVariants.{Blocks, Plain, Csv}
use Rattle.fairview_report.specs.declared.view.View.{View}
use Rattle.fairview_report.specs.declared.view.View.TheVariants.{Waits, Shares, Story, Polls, Gantt, Lag, Trace}
use Rattle.fairview.specs.declared.refusal.Refusal.{Refusal}
use Rattle.fairview.specs.declared.refusal.Refusal.TheVariants.{Name, Core, Turn, Order}

-- rows with commas have no bars
abbrev pub form_asked : Bool → Bool → Form
form_asked plain true = Csv
form_asked true false = Plain
form_asked false false = Blocks

-- the submission that a word names
abbrev pub name_asked : Option (List ℕ) → Option JobId
name_asked None = None
name_asked (Some word) = name_of 16 word

abbrev pub story_named : Option JobId → Result View Refusal
story_named None = Err Name
story_named (Some name) = Ok (Story name)

abbrev pub story_asked : Option (List ℕ) → Result View Refusal
story_asked word = story_named (name_asked word)

-- the core that a word names; without a word all are shown
abbrev pub core_named : Option ℕ → Result (Option ℕ) Refusal
core_named None = Err Core
core_named (Some core) = Ok (Some core)

abbrev pub core_asked : Option (List ℕ) → Result (Option ℕ) Refusal
core_asked None = Ok None
core_asked (Some word) = core_named (number_in 0 15 word)

-- the turn that a word names, or another if there is no word
abbrev pub turn_named : Option ℕ → Result ℕ Refusal
turn_named None = Err Turn
turn_named (Some turn) = Ok turn

abbrev pub turn_asked : Option (List ℕ) → ℕ → Result ℕ Refusal
turn_asked None unnamed = Ok unnamed
turn_asked (Some word) unnamed = turn_named (number_in 0 (2 ^ 64 - 1) word)

-- the picture of the turns from one to another; the first is not above the last
abbrev pub gantt_between : Option ℕ → ℕ → ℕ → Result View Refusal
gantt_between core from to = if nat_lt to from then Err Order else Ok (Gantt (record { core = core; from = from; to = to }))

-- what is wrong with the first of the words is told, and of the right ones the picture
abbrev pub gantt_named : Result (Option ℕ) Refusal → Result ℕ Refusal → Result ℕ Refusal → Result View Refusal
gantt_named (Err refusal) from to = Err refusal
gantt_named (Ok core) (Err refusal) to = Err refusal
gantt_named (Ok core) (Ok from) (Err refusal) = Err refusal
gantt_named (Ok core) (Ok from) (Ok to) = gantt_between core from to

-- without words all turns of all cores are shown
abbrev pub gantt_asked : Option (List ℕ) → Option (List ℕ) → Option (List ℕ) → Result View Refusal
gantt_asked core from to = gantt_named (core_asked core) (turn_asked from 0) (turn_asked to (2 ^ 64 - 1))

-- the view that is asked for
abbrev pub view_asked : Wish → Result View Refusal
view_asked (wish.Wait plain) = Ok (Waits plain)
view_asked (wish.Share plain csv) = Ok (Shares (form_asked plain csv))
view_asked (wish.Why name) = story_asked name
view_asked wish.Csv = Ok Polls
view_asked (wish.Gantt core from to) = gantt_asked core from to
view_asked (wish.Lag text) = Ok (Lag text)
view_asked wish.Trace = Ok Trace

-- the text of a refusal
abbrev pub refusal_text : Refusal → List ℕ
refusal_text Name = codes "NAME is no name of a submission: sender, receiver and number, as '0>1#2'"
refusal_text Core = codes "--core wants the number of a core, from 0 to 15"
refusal_text Turn = codes "--from and --to want the number of a turn, from 0 to 18446744073709551615"
refusal_text Order = codes "--from is above --to"
