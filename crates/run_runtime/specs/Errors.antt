-- The texts of the errors of a start and of a finish.
use Rattle.std.specs.Prelude.{◌++◌, ℕ, List, codes, decimal}
use Rattle.run_runtime.specs.declared.error.FinishError.{FinishError}
use Rattle.run_runtime.specs.declared.error.FinishError.TheVariants.{NotClosed}
use Rattle.run_runtime.specs.declared.error.StartError.{StartError}
use Rattle.run_runtime.specs.declared.error.StartError.TheVariants.{BadConfig, Memory, Thread}

-- the text of a start that failed
abbrev pub start_text : StartError → List ℕ
start_text BadConfig = codes "the configuration is out of range"
start_text Memory = codes "out of memory"
start_text Thread = codes "a thread could not be made"

-- the text of a finish that was refused
abbrev pub finish_text : {R : Type 0} → FinishError R → List ℕ
finish_text (NotClosed core runtime) = codes "core " ++ decimal core ++ codes " is not closed"
