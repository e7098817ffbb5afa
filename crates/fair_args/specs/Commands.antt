-- The parts of a command line.
use Rattle.std.specs.Prelude.{Some, true, codes}
use Rattle.clap.specs.Words.{App, Rule, Text, new_app, new_rule}
use Rattle.clap.specs.Simple.{on_top}
use Rattle.clap.specs.declared.builder.action.ArgAction.TheVariants.{Set, SetTrue}

-- `FILE`: a word that is no flag
abbrev pub file_rule : Rule
file_rule = new_rule (codes "FILE")

-- a word that is no flag, and has to be there
abbrev pub word_rule : Text → Rule
word_rule name = record (new_rule name) { required = true }

-- a flag, `--name`
abbrev pub flag_rule : Text → Rule
flag_rule name = record (new_rule name) { long = Some name; action = Some SetTrue }

-- an option with a value, `--name VALUE`
abbrev pub option_rule : Text → Rule
option_rule name = record (new_rule name) { long = Some name; action = Some Set; value_names = 1 }

-- a program: it has a version, and one of its subcommands has to be named
abbrev pub program_app : Text → App
program_app name = on_top (λ top. record top { has_version = true; subcommand_required = true }) (new_app name)
