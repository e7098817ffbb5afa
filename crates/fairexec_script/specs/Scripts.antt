-- A script's text: its lines, judged one after another.
use Rattle.std.specs.Prelude.{ℕ, List, Result, Some}
use Rattle.text_bytes.specs.Texts.{Judge, text_judged}
use Rattle.text_words.specs.declared.fault.Cause.{Cause}
use Rattle.fairexec_script.specs.Drafts.{Drafted, empty_draft, with_text}
use Rattle.fairexec_script.specs.Ends.{judge_of}
use Rattle.fairexec_script.specs.declared.script.Script.{Script}

-- what a faulty line is told by: its number from 1 and the cause
abbrev pub Fault : Type 0
Fault = ℕ × Cause

abbrev pub judge : Judge Drafted Cause
judge = judge_of (λ cause. cause) with_text (λ draft. draft.size)

-- the script that a text writes, or its first faulty line
abbrev pub script_of : List ℕ → Result Drafted Fault
script_of text = text_judged judge empty_draft text

-- a whole script, as the judge of its lines sees it
abbrev pub drafted : Script → Drafted
drafted script = record { size = Some (script.cores, script.cap); burst = script.burst; queues = script.queues.items; events = script.events.items }
