-- Answers that are wrong, and a command line that isn't read.
use Rattle.std.specs.Prelude.{[], ◌∷◌, codes}
use Rattle.clap.specs.Words.{App, new_app}
use Rattle.clap.specs.declared.error.kind.ErrorKind.TheVariants.{DisplayHelp, DisplayVersion, OutOfMemory, UnknownArgument}
use Rattle.fair_args.specs.Asks.{IsRead}
use Rattle.fair_args.specs.Refusals.{IsAnswerTo, IsReason}
use Rattle.fair_args.specs.declared.unasked.Unasked.TheVariants as unasked

-- a command line without a subcommand
abbrev pub lone_app : App
lone_app = new_app (codes "lone")

-- each of these is refused
pub record AnswersAreRefused : Type 0 where
  -- wrong words are told as a call for help
  pub told : IsAnswerTo UnknownArgument unasked.Told → ⊥
  -- so is want of memory
  pub memory_told : IsAnswerTo OutOfMemory unasked.Told → ⊥
  -- a call for help is a mistake
  pub help : IsAnswerTo DisplayHelp unasked.Mistake → ⊥
  -- so is a call for the version
  pub version : IsAnswerTo DisplayVersion unasked.Mistake → ⊥
  -- so is want of memory
  pub memory : IsAnswerTo OutOfMemory unasked.Mistake → ⊥
  -- wrong words are a want of memory
  pub wrong : IsAnswerTo UnknownArgument unasked.Memory → ⊥
  -- words without a fault are a mistake
  pub faultless : IsReason [] unasked.Mistake → ⊥
  -- words with a mistake alone are told as a call for help, or as one that couldn't be written
  pub mistake : IsReason (UnknownArgument ∷ []) unasked.Told → ⊥
  pub unwritten : IsReason (UnknownArgument ∷ []) unasked.Write → ⊥
  -- a call for help alone is a mistake
  pub asked : IsReason (DisplayHelp ∷ []) unasked.Mistake → ⊥
  -- no subcommand has to be named
  pub lone : IsRead lone_app → ⊥
