-- What the words of a command line ask for.
use Rattle.std.specs.Prelude.{List, true, false, if◌then◌else◌, codes}
use Rattle.std.specs.Str.{bytes_eq}
use Rattle.clap.specs.Words.{Row}
use Rattle.fair_args.specs.Asks.{Wishes}
use Rattle.fair_args.specs.Found.{is_given}
use Rattle.fairexec_args.specs.declared.asked.What.{What}
use Rattle.fairexec_args.specs.declared.asked.What.TheVariants.{Run, Threads, Audit, Parts, Journal}

-- what `audit` judges: by `--follow` the parts in a folder as they grow, by `--parts` those that are there, else a file of bytes or of text
abbrev pub judged : List Row → What
judged rows = if is_given (codes "follow") rows then Parts true
    else (if is_given (codes "parts") rows then Parts false
    else Audit (is_given (codes "bytes") rows))

-- what the subcommand of this name does, with these matches
abbrev pub what_named : Wishes What
what_named name rows = if bytes_eq name (codes "audit") then judged rows
    else (if bytes_eq name (codes "journal") then Journal
    else (if bytes_eq name (codes "threads") then Threads (is_given (codes "journal") rows) (is_given (codes "stats") rows)
    else Run (is_given (codes "journal") rows) (is_given (codes "stats") rows)))
