-- A script as far as its lines are judged.
use Rattle.std.specs.Prelude.{ℕ, ◌==◌, ◌++◌, ◌∷◌, [], Bool, true, List, length, Option, Some, None, Result, Ok, Err, nat_lt, if◌then◌else◌, count_by}
use Rattle.fairexec_script.specs.declared.event.ScriptEvent.{ScriptEvent}
use Rattle.fairexec_script.specs.declared.line.Line.{Line}
use Rattle.fairexec_script.specs.declared.line.Line.TheVariants.{Size, Queue, Step}
use Rattle.text_words.specs.declared.fault.Cause.{Cause}
use Rattle.text_words.specs.declared.fault.Cause.TheVariants.{TooManyQueues}
use Rattle.text_words.specs.Words.{words}
use Rattle.fairexec_script.specs.Lines.{first_line, later_line}

-- cores and capacity, once a line told them; the burst, 1 if no line told it; the `queue` lines by core and shares; the events; all in order
pub record Drafted : Type 0 where
  pub size : Option (ℕ × ℕ)
  pub burst : ℕ
  pub queues : List (ℕ × ℕ)
  pub events : List ScriptEvent

-- before the first line
abbrev pub empty_draft : Drafted
empty_draft = record { size = None; burst = 1; queues = []; events = [] }

-- how many `queue` lines a core has
abbrev pub queue_lines : ℕ → List (ℕ × ℕ) → ℕ
queue_lines core queues = count_by (λ queue. queue.0 == core) queues

-- the draft and one line more; a core has at most 255 `queue` lines
abbrev pub with_line : Drafted → Line → Result Drafted Cause
with_line draft (Size cores cap burst) = Ok (record { size = Some (cores, cap); burst = burst; queues = draft.queues; events = draft.events })
with_line draft (Queue core shares) =
    if nat_lt (queue_lines core draft.queues) 255 then Ok (record { size = draft.size; burst = draft.burst; queues = draft.queues ++ (core, shares) ∷ []; events = draft.events })
    else Err TooManyQueues
with_line draft (Step event) = Ok (record { size = draft.size; burst = draft.burst; queues = draft.queues; events = draft.events ++ event ∷ [] })

-- what was read, taken into the draft
abbrev pub with_read : Drafted → Result Line Cause → Result Drafted Cause
with_read draft (Ok line) = with_line draft line
with_read draft (Err cause) = Err cause

-- what a line says at its place: the first tells the size, and no `queue` line stands behind an event
abbrev pub line_at : Option (ℕ × ℕ) → Bool → List (List ℕ) → Result Line Cause
line_at None late ws = first_line ws
line_at (Some size) late ws = later_line size.0 late ws

-- a line that is skipped: it is empty or begins with `#`
abbrev pub is_skipped : List ℕ → Bool
is_skipped [] = true
is_skipped (byte ∷ rest) = byte == 35

-- a line that isn't too long
abbrev pub with_text : Drafted → List ℕ → Result Drafted Cause
with_text draft line =
    if is_skipped line then Ok draft
    else with_read draft (line_at draft.size (nat_lt 0 (length draft.events)) (words line))
