-- Why the words of a command line ask for nothing.
use Rattle.std.specs.Prelude.{◌≡◌, ◌≢◌, ◌⊎◌, ⊤}
use Rattle.clap.specs.Kinds.{IsAmong, Kinds}
use Rattle.clap.specs.declared.error.kind.ErrorKind.{ErrorKind}
use Rattle.clap.specs.declared.error.kind.ErrorKind.TheVariants.{DisplayHelp, DisplayVersion, OutOfMemory}
use Rattle.fair_args.specs.declared.unasked.Unasked.{Unasked}
use Rattle.fair_args.specs.declared.unasked.Unasked.TheVariants as unasked

-- help or the version is asked for
abbrev pub IsTold : ErrorKind → Type 0
IsTold kind = (kind ≡ DisplayHelp) ⊎ (kind ≡ DisplayVersion)

-- the words are wrong
abbrev pub IsWrong : ErrorKind → Type 0
IsWrong kind = (kind ≢ DisplayHelp) × (kind ≢ DisplayVersion) × (kind ≢ OutOfMemory)

-- an error of this kind is answered so
abbrev pub IsAnswerTo : ErrorKind → Unasked → Type 0
IsAnswerTo kind unasked.Told = IsTold kind
IsAnswerTo kind unasked.Write = IsTold kind
IsAnswerTo kind unasked.Mistake = IsWrong kind
IsAnswerTo kind unasked.Memory = kind ≡ OutOfMemory

-- one of the faults is answered so
abbrev pub AnswersOne : Kinds → Unasked → Type 0
AnswersOne faults why = (kind : ErrorKind) × IsAmong kind faults × IsAnswerTo kind why

-- words with these faults may be answered so; memory may run out at any words
abbrev pub IsReason : Kinds → Unasked → Type 0
IsReason faults unasked.Memory = ⊤
IsReason faults why = AnswersOne faults why
