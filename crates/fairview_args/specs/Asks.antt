-- What the words of a command line ask for.
use Rattle.std.specs.Prelude.{Bool, List, Option, if◌then◌else◌, codes, option_map}
use Rattle.std.specs.Str.{bytes_eq}
use Rattle.clap.specs.Words.{Row, Text}
use Rattle.clap.specs.Walk.{first_of}
use Rattle.fair_args.specs.Asks.{Wishes}
use Rattle.fair_args.specs.Found.{is_given}
use Rattle.fairview_args.specs.declared.asked.Journals.{Journals}
use Rattle.fairview_args.specs.declared.asked.Journals.TheVariants as journals
use Rattle.fairview_args.specs.declared.asked.Request.{Request}
use Rattle.fairview_args.specs.declared.asked.What.{What}
use Rattle.fairview_args.specs.declared.asked.What.TheVariants as what

-- what is to be printed; a submission, a core and turns are named by words
pub data Wish : Type 0 where
  Wait : Bool → Wish
  Share : Bool → Bool → Wish
  Why : Option Text → Wish
  Csv : Wish
  Gantt : Option Text → Option Text → Option Text → Wish
  Lag : Bool → Wish
  Trace : Wish

-- what is drawn, with these matches
abbrev pub gantt_named : List Row → Wish
gantt_named rows = Gantt (first_of (codes "core") rows) (first_of (codes "from") rows) (first_of (codes "to") rows)

-- what the subcommand of this name prints, with these matches
abbrev pub what_named : Wishes Wish
what_named name rows = if bytes_eq name (codes "wait") then Wait (is_given (codes "plain") rows)
    else (if bytes_eq name (codes "share") then Share (is_given (codes "plain") rows) (is_given (codes "csv") rows)
    else (if bytes_eq name (codes "why") then Why (first_of (codes "NAME") rows)
    else (if bytes_eq name (codes "gantt") then gantt_named rows
    else (if bytes_eq name (codes "lag") then Lag (is_given (codes "text") rows)
    else (if bytes_eq name (codes "trace") then Trace
    else Csv)))))

-- the same, as it is read
abbrev pub what_told : What → Wish
what_told (what.Wait plain) = Wait plain
what_told (what.Share plain csv) = Share plain csv
what_told (what.Why name) = Why (option_map (λ word. word.now) name)
what_told what.Csv = Csv
what_told (what.Gantt core from to) = Gantt (option_map (λ word. word.now) core) (option_map (λ word. word.now) from) (option_map (λ word. word.now) to)
what_told (what.Lag text) = Lag text
what_told what.Trace = Trace

-- as what journals are read: by `--parts` as the parts in a folder, else by `--bytes` as bytes, else as a text
abbrev pub journals_given : List Row → Journals
journals_given rows = if is_given (codes "parts") rows then journals.Parts else (if is_given (codes "bytes") rows then journals.Bytes else journals.Text)

-- what is to be printed of journals, and as what these are read
abbrev pub request_named : Wishes (Wish × Journals)
request_named name rows = (what_named name rows, journals_given rows)

abbrev pub request_told : Request → Wish × Journals
request_told request = (what_told request.what, request.journals)
