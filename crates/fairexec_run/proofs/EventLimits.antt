-- The events that a script's lines tell: their actors exist, and their jobs have made no poll.
use Rattle.std.proofs.Common.{◌≡◌, ℕ, ◌≤◌, List, length, arith, ◌==◌, false, All, slice_index_or}
use Rattle.std.specs.Prelude.{map}
use Rattle.std.proofs.lemmas.List.Elements.{All-map}
use Rattle.std.proofs.lemmas.Bool.Decides.{nat_tests}
use Rattle.base_words.specs.declared.order.Order.TheVariants as order
use Rattle.base_jobs.specs.Ready.{HasReadyJob}
use Rattle.base_jobs.specs.ScriptMeaning.{script_meaning}
use Rattle.base_jobs.specs.Scripts.{Script}
use Rattle.model_world.specs.declared.event.Event.{Event}
use Rattle.model_world.specs.Sends.{actor_of, AreThere}
use Rattle.model_world.specs.Opening.{HasReadyEvent}
use Rattle.fairexec_script.specs.declared.event.ScriptEvent.{ScriptEvent}
use Rattle.fairexec_script.specs.declared.event.ScriptEvent.TheVariants.{Send, Deliver, Turn, Shut, Collect, Redeem, Detach}
use Rattle.fairexec_script.specs.Limits.{IsEventOf}
use Rattle.fairexec_run.specs.Replies.{event_of}

-- the actors of such an event exist
pub are_there : (cores : ℕ) (event : ScriptEvent) → IsEventOf cores event → AreThere cores (event_of event)
are_there cores (Send sender core order) here = (here.sender, here.core)
are_there cores (Deliver core sender) here = (here.core, here.sender)
are_there cores (Turn core) here = here.core
are_there cores (Shut core sender) here = (here.core, here.sender)
are_there cores (Collect sender core) here = (here.sender, here.core)
are_there cores (Redeem name) here = here.sender
are_there cores (Detach name) here = here.sender

-- the actor of such an event exists
pub is_there : (cores : ℕ) (event : ScriptEvent) → IsEventOf cores event → actor_of (event_of event) ≤ cores
is_there cores (Send sender core order) here = here.sender
is_there cores (Deliver core sender) here = let within = here.core in omega arith
is_there cores (Turn core) here = let within = here.core in omega arith
is_there cores (Shut core sender) here = let within = here.core in omega arith
is_there cores (Collect sender core) here = here.sender
is_there cores (Redeem name) here = here.sender
is_there cores (Detach name) here = here.sender

-- and its job may be polled
pub is_ready : (cores : ℕ) (event : ScriptEvent) → IsEventOf cores event → HasReadyEvent (HasReadyJob script_meaning) (event_of event)
is_ready cores (Send sender core (order.Job queue job)) here = let open_yet : (job.polled == length job.polls) ≡ false = grind (arith, nat_tests, here.some_polls, here.none_made) in (open_yet, tt)
is_ready cores (Send sender core (order.Create weight)) here = tt
is_ready cores (Send sender core (order.SetShares queue weight)) here = tt
is_ready cores (Send sender core (order.Close queue mode)) here = tt
is_ready cores (Send sender core (order.CloseCore mode)) here = tt
is_ready cores (Send sender core (order.Wake actor number)) here = tt
is_ready cores (Deliver core sender) here = tt
is_ready cores (Turn core) here = tt
is_ready cores (Shut core sender) here = tt
is_ready cores (Collect sender core) here = tt
is_ready cores (Redeem name) here = tt
is_ready cores (Detach name) here = tt

-- the jobs of such events may be polled
abbrev pub AreReady : List (Event Script) → Type 0
AreReady events = All (HasReadyEvent (HasReadyJob script_meaning)) events

pub are_ready : (cores : ℕ) (events : List ScriptEvent) → All (IsEventOf cores) events → AreReady (map event_of events)
are_ready cores events all = All-map (HasReadyEvent (HasReadyJob script_meaning)) event_of events (λ place default within. is_ready cores (slice_index_or events place default) (all place default within))
