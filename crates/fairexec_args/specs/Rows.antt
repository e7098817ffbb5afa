-- Command lines, and what each asks for or why it is refused.
use Rattle.std.specs.Prelude.{◌≡◌, [], ◌∷◌, true, false, List, Option, Some, None, codes}
use Rattle.clap.specs.Words.{Text, fault_of, takes}
use Rattle.clap.specs.Kinds.{Kinds}
use Rattle.clap.specs.declared.error.kind.ErrorKind.TheVariants as kind
use Rattle.fair_args.specs.Asks.{asks_of}
use Rattle.fairexec_args.specs.Asks.{what_named}
use Rattle.fairexec_args.specs.CommandLine.{our_app}
use Rattle.fairexec_args.specs.declared.asked.What.{What}
use Rattle.fairexec_args.specs.declared.asked.What.TheVariants.{Run, Threads, Audit, Parts, Journal}

-- the words of a command line, behind the program's name
abbrev pub fairexec : List Text → List Text
fairexec words = codes "fairexec" ∷ words

-- the words are taken, and ask for this
abbrev pub IsAsked : List Text → What → Option Text → Type 0
IsAsked words what file = (takes our_app words ≡ true) × (asks_of what_named our_app words ≡ Some (what, file))

-- the words are not taken, and have one of these faults
abbrev pub IsRefused : List Text → Kinds → Type 0
IsRefused words faults = (takes our_app words ≡ false) × (fault_of our_app words ≡ faults)

-- command lines that are taken
pub record AreAsked : Type 0 where
  -- fairexec run
  pub run : IsAsked (fairexec (codes "run" ∷ [])) (Run false false) None
  -- fairexec run --journal a.script
  pub journal : IsAsked (fairexec (codes "run" ∷ codes "--journal" ∷ codes "a.script" ∷ [])) (Run true false) (Some (codes "a.script"))
  -- fairexec run a.script --stats: a flag may come behind the file
  pub stats : IsAsked (fairexec (codes "run" ∷ codes "a.script" ∷ codes "--stats" ∷ [])) (Run false true) (Some (codes "a.script"))
  -- fairexec run --stats --journal -- --journal: what follows `--` is a file
  pub trailing : IsAsked (fairexec (codes "run" ∷ codes "--stats" ∷ codes "--journal" ∷ codes "--" ∷ codes "--journal" ∷ [])) (Run true true) (Some (codes "--journal"))
  -- fairexec run -: a file named `-` is a file
  pub dash : IsAsked (fairexec (codes "run" ∷ codes "-" ∷ [])) (Run false false) (Some (codes "-"))
  -- fairexec run threads: the name of a subcommand is a file here
  pub named : IsAsked (fairexec (codes "run" ∷ codes "threads" ∷ [])) (Run false false) (Some (codes "threads"))
  -- fairexec threads x
  pub threads : IsAsked (fairexec (codes "threads" ∷ codes "x" ∷ [])) (Threads false false) (Some (codes "x"))
  -- fairexec threads --journal x
  pub threads_journal : IsAsked (fairexec (codes "threads" ∷ codes "--journal" ∷ codes "x" ∷ [])) (Threads true false) (Some (codes "x"))
  -- fairexec threads x --stats: a flag may come behind the file here too
  pub threads_stats : IsAsked (fairexec (codes "threads" ∷ codes "x" ∷ codes "--stats" ∷ [])) (Threads false true) (Some (codes "x"))
  -- fairexec threads --stats --journal
  pub threads_both : IsAsked (fairexec (codes "threads" ∷ codes "--stats" ∷ codes "--journal" ∷ [])) (Threads true true) None
  -- fairexec audit
  pub audit : IsAsked (fairexec (codes "audit" ∷ [])) (Audit false) None
  -- fairexec audit x --bytes: a flag may come behind the file here too
  pub audit_bytes : IsAsked (fairexec (codes "audit" ∷ codes "x" ∷ codes "--bytes" ∷ [])) (Audit true) (Some (codes "x"))
  -- fairexec audit --parts journals
  pub parts : IsAsked (fairexec (codes "audit" ∷ codes "--parts" ∷ codes "journals" ∷ [])) (Parts false) (Some (codes "journals"))
  -- fairexec audit --bytes --parts: parts are bytes anyway
  pub parts_as_bytes : IsAsked (fairexec (codes "audit" ∷ codes "--bytes" ∷ codes "--parts" ∷ [])) (Parts false) None
  -- fairexec audit --follow journals: what is followed are parts
  pub follow : IsAsked (fairexec (codes "audit" ∷ codes "--follow" ∷ codes "journals" ∷ [])) (Parts true) (Some (codes "journals"))
  -- fairexec audit --parts --follow
  pub follow_parts : IsAsked (fairexec (codes "audit" ∷ codes "--parts" ∷ codes "--follow" ∷ [])) (Parts true) None
  -- fairexec journal --text x
  pub journal_text : IsAsked (fairexec (codes "journal" ∷ codes "--text" ∷ codes "x" ∷ [])) Journal (Some (codes "x"))

-- command lines that are not taken
pub record AreRefused : Type 0 where
  -- fairexec
  pub nothing : IsRefused (fairexec []) (kind.MissingSubcommand ∷ [])
  -- fairexec go
  pub unknown : IsRefused (fairexec (codes "go" ∷ [])) (kind.UnknownArgument ∷ kind.InvalidSubcommand ∷ [])
  -- fairexec run a b
  pub two_files : IsRefused (fairexec (codes "run" ∷ codes "a" ∷ codes "b" ∷ [])) (kind.UnknownArgument ∷ [])
  -- fairexec run --journal --journal
  pub twice : IsRefused (fairexec (codes "run" ∷ codes "--journal" ∷ codes "--journal" ∷ [])) (kind.ArgumentConflict ∷ [])
  -- fairexec run --journal=x
  pub valued : IsRefused (fairexec (codes "run" ∷ codes "--journal=x" ∷ [])) (kind.TooManyValues ∷ [])
  -- fairexec threads --stats --stats
  pub twice_on_threads : IsRefused (fairexec (codes "threads" ∷ codes "--stats" ∷ codes "--stats" ∷ [])) (kind.ArgumentConflict ∷ [])
  -- fairexec audit --journal
  pub flag_of_audit : IsRefused (fairexec (codes "audit" ∷ codes "--journal" ∷ [])) (kind.UnknownArgument ∷ [])
  -- fairexec run --bytes
  pub bytes_of_run : IsRefused (fairexec (codes "run" ∷ codes "--bytes" ∷ [])) (kind.UnknownArgument ∷ [])
  -- fairexec journal --text --parts x
  pub parts_of_journal : IsRefused (fairexec (codes "journal" ∷ codes "--text" ∷ codes "--parts" ∷ codes "x" ∷ [])) (kind.UnknownArgument ∷ [])
  -- fairexec run --follow
  pub follow_of_run : IsRefused (fairexec (codes "run" ∷ codes "--follow" ∷ [])) (kind.UnknownArgument ∷ [])
  -- fairexec journal x
  pub no_form : IsRefused (fairexec (codes "journal" ∷ codes "x" ∷ [])) (kind.MissingRequiredArgument ∷ [])
  -- fairexec --help
  pub help : IsRefused (fairexec (codes "--help" ∷ [])) (kind.DisplayHelp ∷ [])
  -- fairexec run -h
  pub help_of_run : IsRefused (fairexec (codes "run" ∷ codes "-h" ∷ [])) (kind.DisplayHelp ∷ [])
  -- fairexec -V
  pub version : IsRefused (fairexec (codes "-V" ∷ [])) (kind.DisplayVersion ∷ [])
