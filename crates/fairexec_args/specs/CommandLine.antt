-- The command line: its subcommands, with their flags and arguments.
use Rattle.std.specs.Prelude.{true, codes}
use Rattle.clap.specs.Words.{App, Rule, Text, new_app, with_rule, with_subcommand}
use Rattle.fair_args.specs.Commands.{file_rule, flag_rule, program_app}

-- `run [--journal] [--stats] [FILE]`
unfoldable pub run_app : App
run_app = with_rule (with_rule (with_rule (new_app (codes "run"))
    (flag_rule (codes "journal")))
    (flag_rule (codes "stats")))
    file_rule

-- `threads [--journal] [--stats] [FILE]`
unfoldable pub threads_app : App
threads_app = with_rule (with_rule (with_rule (new_app (codes "threads"))
    (flag_rule (codes "journal")))
    (flag_rule (codes "stats")))
    file_rule

-- `audit [--bytes] [--parts] [--follow] [FILE]`
unfoldable pub audit_app : App
audit_app = with_rule (with_rule (with_rule (with_rule (new_app (codes "audit"))
    (flag_rule (codes "bytes")))
    (flag_rule (codes "parts")))
    (flag_rule (codes "follow")))
    file_rule

-- a flag that has to be there, `--name`
abbrev pub needed_flag_rule : Text → Rule
needed_flag_rule name = record (flag_rule name) { required = true }

-- `journal --text [FILE]`
unfoldable pub journal_app : App
journal_app = with_rule (with_rule (new_app (codes "journal")) (needed_flag_rule (codes "text"))) file_rule

-- the program with the two subcommands that run scripts
unfoldable pub with_runs : App
with_runs = with_subcommand (with_subcommand (program_app (codes "fairexec")) run_app.top) threads_app.top

-- the command line of the program
unfoldable pub our_app : App
our_app = with_subcommand (with_subcommand with_runs audit_app.top) journal_app.top
