-- A whole run of a script.
use Rattle.std.proofs.Common.{◌≡◌, ℕ, List, Option, Some, None, Ok, true, Bool, refl, ap, ◌∙◌}
use Rattle.std.specs.Option.{IfSome}
use Rattle.base_words.specs.Assembly.{Assembly}
use Rattle.fairexec_report.specs.Writing.{IsTold}
use Rattle.fairexec_report.specs.VerdictTexts.{is_sound}
use Rattle.run_config.specs.Configs.{Entry}
use Rattle.fairexec_script.specs.declared.threads_script.ThreadsScript.{ThreadsScript}
use Rattle.fairexec_script.specs.Orders.{Told}
use Rattle.fairexec_script.specs.ThreadsScripts.{threads_script_of, drafted}
use Rattle.fairexec_threads.specs.Runs.{RunsOrders, TellsRun}

pub own : (P : ℕ → ℕ → Type 0) (a b c d : ℕ) → c ≡ a → d ≡ b → P a b → P c d
own P a b c d first second p = rw (first, second) p

-- the run is of the script that the source tells
pub tells_run : (source : Option (List ℕ)) (script : ThreadsScript) (assembly : Assembly ℕ) → IfSome source (λ text. threads_script_of text ≡ Ok (drafted script)) → RunsOrders script.cores script.cap script.burst script.queues.items script.orders.items assembly → TellsRun source assembly
tells_run None script assembly told runs = tt
tells_run (Some text) script assembly told runs = (drafted script, told, ((script.cores, script.cap), refl, runs))

-- sound journals are told as sound
pub told_sound : (cores cap burst : ℕ) (queues : List Entry) (orders : List Told) (assembly : Assembly ℕ) (journal stats : Bool) (old new : Option (List ℕ)) (answer : Bool) → RunsOrders cores cap burst queues orders assembly →
    IsTold journal stats assembly old new answer → answer ≡ true
told_sound cores cap burst queues orders assembly journal stats old new answer runs told = told.answered ∙ ap is_sound (told.report.judged.sound.1 runs.finishes.sound)
