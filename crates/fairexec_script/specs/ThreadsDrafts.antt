-- A script for threads as far as its lines are judged.
use Rattle.std.specs.Prelude.{ℕ, ◌+◌, ◌-◌, ◌++◌, ◌∷◌, [], Bool, List, length, Option, Some, None, Result, Ok, Err, nat_lt, nat_le, if◌then◌else◌}
use Rattle.fairexec_script.specs.declared.event.ScriptEvent.{ScriptEvent}
use Rattle.fairexec_script.specs.declared.event.ScriptEvent.TheVariants.{Send}
use Rattle.fairexec_script.specs.declared.line.Line.{Line}
use Rattle.fairexec_script.specs.declared.line.Line.TheVariants.{Size, Queue, Step}
use Rattle.fairexec_script.specs.Drafts.{queue_lines, is_skipped}
use Rattle.text_words.specs.declared.fault.Cause.TheVariants.{TooManyQueues}
use Rattle.text_words.specs.Words.{words}
use Rattle.fairexec_script.specs.declared.fault.ThreadsCause.{ThreadsCause}
use Rattle.fairexec_script.specs.declared.fault.ThreadsCause.TheVariants as why
use Rattle.fairexec_script.specs.ThreadsLines.{size_told, line_told}
use Rattle.fairexec_script.specs.Orders.{Told, orders_to, polls_of, polls_in, most_polls}

-- cores and capacity, once a line told them; the burst, 1 if no line told it; the `queue` lines by core and shares; the orders; all in order
pub record Drafted : Type 0 where
  pub size : Option (ℕ × ℕ)
  pub burst : ℕ
  pub queues : List (ℕ × ℕ)
  pub orders : List Told

-- before the first line
abbrev pub empty_draft : Drafted
empty_draft = record { size = None; burst = 1; queues = []; orders = [] }

-- the capacity, 0 before it is told
abbrev pub cap_of : Option (ℕ × ℕ) → ℕ
cap_of None = 0
cap_of (Some size) = size.1

-- why there is no room for an order to this core with so many polls: a core gets fewer orders than the capacity, since one place stays for
-- the order that closes it; all jobs together have at most so many polls
abbrev pub refusal : Drafted → ℕ → ℕ → Option ThreadsCause
refusal draft core polls =
    if nat_le (cap_of draft.size - 1) (orders_to core draft.orders) then Some why.TooManyForCap
    else (if nat_lt most_polls (polls_in draft.orders + polls) then Some why.TooManyPolls else None)

-- the draft and one order more, unless there is no room for it
abbrev pub unless : Option ThreadsCause → Drafted → Told → Result Drafted ThreadsCause
unless (Some cause) draft told = Err cause
unless None draft told = Ok (record { size = draft.size; burst = draft.burst; queues = draft.queues; orders = draft.orders ++ told ∷ [] })

abbrev pub with_order : Drafted → Told → Result Drafted ThreadsCause
with_order draft told = unless (refusal draft told.0 (polls_of told.1)) draft told

-- what a line lets happen is an order of the outside actor; lines with anything else are refused before
abbrev pub with_event : Drafted → ScriptEvent → Result Drafted ThreadsCause
with_event draft (Send sender core order) = with_order draft (core, order)
with_event draft _ = Err why.NotForThreads

-- the draft and one queue more; a core has at most 255 `queue` lines
abbrev pub with_queue : Drafted → ℕ → ℕ → Result Drafted ThreadsCause
with_queue draft core shares =
    if nat_lt (queue_lines core draft.queues) 255 then Ok (record { size = draft.size; burst = draft.burst; queues = draft.queues ++ (core, shares) ∷ []; orders = draft.orders })
    else Err (why.Line TooManyQueues)

-- the draft and one line more
abbrev pub with_line : Drafted → Line → Result Drafted ThreadsCause
with_line draft (Size cores cap burst) = Ok (record { size = Some (cores, cap); burst = burst; queues = draft.queues; orders = draft.orders })
with_line draft (Queue core shares) = with_queue draft core shares
with_line draft (Step event) = with_event draft event

-- what was read, taken into the draft
abbrev pub with_read : Drafted → Result Line ThreadsCause → Result Drafted ThreadsCause
with_read draft (Ok line) = with_line draft line
with_read draft (Err cause) = Err cause

-- what a line says at its place: the first tells the size, and no `queue` line stands behind an order
abbrev pub line_at : Option (ℕ × ℕ) → Bool → List (List ℕ) → Result Line ThreadsCause
line_at None late ws = size_told ws
line_at (Some size) late ws = line_told size.0 late ws

-- a line that isn't too long
abbrev pub with_text : Drafted → List ℕ → Result Drafted ThreadsCause
with_text draft line =
    if is_skipped line then Ok draft
    else with_read draft (line_at draft.size (nat_lt 0 (length draft.orders)) (words line))
