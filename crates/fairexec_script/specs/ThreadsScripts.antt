-- The text of a script for threads: its lines, judged one after another.
use Rattle.std.specs.Prelude.{ℕ, List, Result, Some}
use Rattle.text_bytes.specs.Texts.{Judge, text_judged}
use Rattle.fairexec_script.specs.Ends.{judge_of}
use Rattle.fairexec_script.specs.declared.fault.ThreadsCause.{ThreadsCause}
use Rattle.fairexec_script.specs.declared.fault.ThreadsCause.TheVariants as why
use Rattle.fairexec_script.specs.ThreadsDrafts.{Drafted, empty_draft, with_text}
use Rattle.fairexec_script.specs.declared.threads_script.ThreadsScript.{ThreadsScript}

-- what a faulty line is told by: its number from 1 and the cause
abbrev pub Fault : Type 0
Fault = ℕ × ThreadsCause

abbrev pub judge : Judge Drafted ThreadsCause
judge = judge_of why.Line with_text (λ draft. draft.size)

-- the script for threads that a text writes, or its first faulty line
abbrev pub threads_script_of : List ℕ → Result Drafted Fault
threads_script_of text = text_judged judge empty_draft text

-- a whole script for threads, as the judge of its lines sees it
abbrev pub drafted : ThreadsScript → Drafted
drafted script = record { size = Some (script.cores, script.cap); burst = script.burst; queues = script.queues.items; orders = script.orders.items }
