-- The command line: its subcommands, with their flags and arguments.
use Rattle.std.specs.Prelude.{codes}
use Rattle.clap.specs.Words.{App, new_app, with_rule, with_subcommand}
use Rattle.fair_args.specs.Commands.{file_rule, flag_rule, option_rule, program_app, word_rule}

-- `.. [--bytes] [--parts] [FILE]`: what each of them reads
abbrev pub reading : App → App
reading app = with_rule (with_rule (with_rule app (flag_rule (codes "bytes"))) (flag_rule (codes "parts"))) file_rule

-- `wait [--plain] [--bytes] [--parts] [FILE]`
unfoldable pub wait_app : App
wait_app = reading (with_rule (new_app (codes "wait")) (flag_rule (codes "plain")))

-- `share [--plain] [--csv] [--bytes] [--parts] [FILE]`
unfoldable pub share_app : App
share_app = reading (with_rule (with_rule (new_app (codes "share"))
    (flag_rule (codes "plain")))
    (flag_rule (codes "csv")))

-- `why [--bytes] [--parts] NAME [FILE]`
unfoldable pub why_app : App
why_app = reading (with_rule (new_app (codes "why")) (word_rule (codes "NAME")))

-- `csv [--bytes] [--parts] [FILE]`
unfoldable pub csv_app : App
csv_app = reading (new_app (codes "csv"))

-- `gantt [--core D] [--from N] [--to N] [--bytes] [--parts] [FILE]`
unfoldable pub gantt_app : App
gantt_app = reading (with_rule (with_rule (with_rule (new_app (codes "gantt"))
    (option_rule (codes "core")))
    (option_rule (codes "from")))
    (option_rule (codes "to")))

-- `lag [--text] [--bytes] [--parts] [FILE]`
unfoldable pub lag_app : App
lag_app = reading (with_rule (new_app (codes "lag")) (flag_rule (codes "text")))

-- `trace [--bytes] [--parts] [FILE]`
unfoldable pub trace_app : App
trace_app = reading (new_app (codes "trace"))

-- the program with the two subcommands that print tables
unfoldable pub with_tables : App
with_tables = with_subcommand (with_subcommand (program_app (codes "fairview")) wait_app.top) share_app.top

-- the program with the subcommands that print text
unfoldable pub with_rows : App
with_rows = with_subcommand (with_subcommand with_tables why_app.top) csv_app.top

-- the program with the subcommands that print text, and those that draw
unfoldable pub with_pictures : App
with_pictures = with_subcommand (with_subcommand with_rows gantt_app.top) lag_app.top

-- the command line of the program
unfoldable pub our_app : App
our_app = with_subcommand with_pictures trace_app.top
