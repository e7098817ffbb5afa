-- Command lines, and what each asks for or why it is refused.
use Rattle.std.specs.Prelude.{◌≡◌, [], ◌∷◌, true, false, List, Option, Some, None, codes}
use Rattle.clap.specs.Words.{Text, fault_of, takes}
use Rattle.clap.specs.Kinds.{Kinds}
use Rattle.clap.specs.declared.error.kind.ErrorKind.TheVariants as kind
use Rattle.fair_args.specs.Asks.{asks_of}
use Rattle.fairview_args.specs.Asks.{Wish, Wait, Share, Why, Csv, Gantt, Lag, Trace, request_named}
use Rattle.fairview_args.specs.CommandLine.{our_app}
use Rattle.fairview_args.specs.declared.asked.Journals.{Journals}
use Rattle.fairview_args.specs.declared.asked.Journals.TheVariants.{Bytes, Parts}
use Rattle.fairview_args.specs.declared.asked.Journals.TheVariants as journals

-- the words of a command line, behind the program's name
abbrev pub fairview : List Text → List Text
fairview words = codes "fairview" ∷ words

-- the words are taken, and ask for this, of journals that are read so
abbrev pub IsAskedOf : Journals → List Text → Wish → Option Text → Type 0
IsAskedOf journals words wish file = (takes our_app words ≡ true) × (asks_of request_named our_app words ≡ Some ((wish, journals), file))

abbrev pub IsAsked : List Text → Wish → Option Text → Type 0
IsAsked words wish file = IsAskedOf journals.Text words wish file

-- the words are not taken, and have one of these faults
abbrev pub IsRefused : List Text → Kinds → Type 0
IsRefused words faults = (takes our_app words ≡ false) × (fault_of our_app words ≡ faults)

-- command lines that are taken
pub record AreAsked : Type 0 where
  -- fairview wait
  pub wait : IsAsked (fairview (codes "wait" ∷ [])) (Wait false) None
  -- fairview wait x --plain: a flag may come behind the file
  pub wait_plain : IsAsked (fairview (codes "wait" ∷ codes "x" ∷ codes "--plain" ∷ [])) (Wait true) (Some (codes "x"))
  -- fairview share x
  pub share : IsAsked (fairview (codes "share" ∷ codes "x" ∷ [])) (Share false false) (Some (codes "x"))
  -- fairview share --plain
  pub share_plain : IsAsked (fairview (codes "share" ∷ codes "--plain" ∷ [])) (Share true false) None
  -- fairview share --csv -- --plain: what follows `--` is a file
  pub share_csv : IsAsked (fairview (codes "share" ∷ codes "--csv" ∷ codes "--" ∷ codes "--plain" ∷ [])) (Share false true) (Some (codes "--plain"))
  -- fairview why 0>1#2
  pub why : IsAsked (fairview (codes "why" ∷ codes "0>1#2" ∷ [])) (Why (Some (codes "0>1#2"))) None
  -- fairview why 0>1#2 -: a file named `-` is a file
  pub why_file : IsAsked (fairview (codes "why" ∷ codes "0>1#2" ∷ codes "-" ∷ [])) (Why (Some (codes "0>1#2"))) (Some (codes "-"))
  -- fairview csv share: the name of a subcommand is a file here
  pub csv : IsAsked (fairview (codes "csv" ∷ codes "share" ∷ [])) Csv (Some (codes "share"))
  -- fairview gantt
  pub gantt : IsAsked (fairview (codes "gantt" ∷ [])) (Gantt None None None) None
  -- fairview gantt --to 9 x --core=1: an option may come behind the file
  pub gantt_cut : IsAsked (fairview (codes "gantt" ∷ codes "--to" ∷ codes "9" ∷ codes "x" ∷ codes "--core=1" ∷ [])) (Gantt (Some (codes "1")) None (Some (codes "9"))) (Some (codes "x"))
  -- fairview gantt --from x --to y: words that are no numbers are taken here, and refused later
  pub gantt_words : IsAsked (fairview (codes "gantt" ∷ codes "--from" ∷ codes "x" ∷ codes "--to" ∷ codes "y" ∷ [])) (Gantt None (Some (codes "x")) (Some (codes "y"))) None
  -- fairview lag
  pub lag : IsAsked (fairview (codes "lag" ∷ [])) (Lag false) None
  -- fairview lag --text x
  pub lag_text : IsAsked (fairview (codes "lag" ∷ codes "--text" ∷ codes "x" ∷ [])) (Lag true) (Some (codes "x"))
  -- fairview trace x
  pub trace : IsAsked (fairview (codes "trace" ∷ codes "x" ∷ [])) Trace (Some (codes "x"))
  -- fairview wait --bytes x
  pub wait_bytes : IsAskedOf Bytes (fairview (codes "wait" ∷ codes "--bytes" ∷ codes "x" ∷ [])) (Wait false) (Some (codes "x"))
  -- fairview why --bytes 0>1#2: the flag may come before the name
  pub why_bytes : IsAskedOf Bytes (fairview (codes "why" ∷ codes "--bytes" ∷ codes "0>1#2" ∷ [])) (Why (Some (codes "0>1#2"))) None
  -- fairview gantt --bytes --core 1, and the others behind their own flags
  pub gantt_bytes : IsAskedOf Bytes (fairview (codes "gantt" ∷ codes "--bytes" ∷ codes "--core" ∷ codes "1" ∷ [])) (Gantt (Some (codes "1")) None None) None
  pub share_bytes : IsAskedOf Bytes (fairview (codes "share" ∷ codes "--csv" ∷ codes "--bytes" ∷ [])) (Share false true) None
  pub csv_bytes : IsAskedOf Bytes (fairview (codes "csv" ∷ codes "--bytes" ∷ [])) Csv None
  pub lag_bytes : IsAskedOf Bytes (fairview (codes "lag" ∷ codes "--text" ∷ codes "--bytes" ∷ [])) (Lag true) None
  pub trace_bytes : IsAskedOf Bytes (fairview (codes "trace" ∷ codes "--bytes" ∷ [])) Trace None
  -- fairview wait --parts journals
  pub wait_parts : IsAskedOf Parts (fairview (codes "wait" ∷ codes "--parts" ∷ codes "journals" ∷ [])) (Wait false) (Some (codes "journals"))
  -- fairview why 0>1#2 --parts --bytes: parts are bytes anyway
  pub why_parts : IsAskedOf Parts (fairview (codes "why" ∷ codes "0>1#2" ∷ codes "--parts" ∷ codes "--bytes" ∷ [])) (Why (Some (codes "0>1#2"))) None
  -- fairview gantt --bytes --parts --to 9, and the others behind their own flags
  pub gantt_parts : IsAskedOf Parts (fairview (codes "gantt" ∷ codes "--bytes" ∷ codes "--parts" ∷ codes "--to" ∷ codes "9" ∷ [])) (Gantt None None (Some (codes "9"))) None
  pub share_parts : IsAskedOf Parts (fairview (codes "share" ∷ codes "--csv" ∷ codes "--parts" ∷ [])) (Share false true) None
  pub csv_parts : IsAskedOf Parts (fairview (codes "csv" ∷ codes "--parts" ∷ [])) Csv None
  pub lag_parts : IsAskedOf Parts (fairview (codes "lag" ∷ codes "--text" ∷ codes "--parts" ∷ [])) (Lag true) None
  pub trace_parts : IsAskedOf Parts (fairview (codes "trace" ∷ codes "--parts" ∷ codes "x" ∷ [])) Trace (Some (codes "x"))

-- command lines that are not taken
pub record AreRefused : Type 0 where
  -- fairview
  pub nothing : IsRefused (fairview []) (kind.MissingSubcommand ∷ [])
  -- fairview go
  pub unknown : IsRefused (fairview (codes "go" ∷ [])) (kind.UnknownArgument ∷ kind.InvalidSubcommand ∷ [])
  -- fairview wait a b
  pub two_files : IsRefused (fairview (codes "wait" ∷ codes "a" ∷ codes "b" ∷ [])) (kind.UnknownArgument ∷ [])
  -- fairview share --csv --csv
  pub twice : IsRefused (fairview (codes "share" ∷ codes "--csv" ∷ codes "--csv" ∷ [])) (kind.ArgumentConflict ∷ [])
  -- fairview trace --parts --parts
  pub twice_of_parts : IsRefused (fairview (codes "trace" ∷ codes "--parts" ∷ codes "--parts" ∷ [])) (kind.ArgumentConflict ∷ [])
  -- fairview wait --csv
  pub flag_of_share : IsRefused (fairview (codes "wait" ∷ codes "--csv" ∷ [])) (kind.UnknownArgument ∷ [])
  -- fairview why
  pub no_name : IsRefused (fairview (codes "why" ∷ [])) (kind.MissingRequiredArgument ∷ [])
  -- fairview gantt --core
  pub no_value : IsRefused (fairview (codes "gantt" ∷ codes "--core" ∷ [])) (kind.InvalidValue ∷ [])
  -- fairview gantt --from 1 --from 2
  pub two_values : IsRefused (fairview (codes "gantt" ∷ codes "--from" ∷ codes "1" ∷ codes "--from" ∷ codes "2" ∷ [])) (kind.ArgumentConflict ∷ [])
  -- fairview trace --core 1
  pub option_of_gantt : IsRefused (fairview (codes "trace" ∷ codes "--core" ∷ codes "1" ∷ [])) (kind.UnknownArgument ∷ [])
  -- fairview --help
  pub help : IsRefused (fairview (codes "--help" ∷ [])) (kind.DisplayHelp ∷ [])
  -- fairview why -h
  pub help_of_why : IsRefused (fairview (codes "why" ∷ codes "-h" ∷ [])) (kind.DisplayHelp ∷ [])
  -- fairview -V
  pub version : IsRefused (fairview (codes "-V" ∷ [])) (kind.DisplayVersion ∷ [])
