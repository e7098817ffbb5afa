-- The events of a script as events of the model, and what is printed of a reply.
use Rattle.std.specs.Prelude.{ℕ, Option, None, Some}
use Rattle.base_words.specs.declared.names.JobId.{JobId}
use Rattle.base_words.specs.declared.names.TicketError.TheVariants as ticket
use Rattle.base_words.specs.declared.order.SendError.TheVariants as refused
use Rattle.base_jobs.specs.Scripts.{Script}
use Rattle.model_world.specs.declared.event.Event.{Event}
use Rattle.model_world.specs.declared.event.Event.TheVariants as event
use Rattle.model_world.specs.declared.event.Reply.{Reply}
use Rattle.model_world.specs.declared.event.Reply.TheVariants as reply
use Rattle.fairexec_script.specs.declared.event.ScriptEvent.{ScriptEvent}
use Rattle.fairexec_script.specs.declared.event.ScriptEvent.TheVariants.{Send, Deliver, Turn, Shut, Collect, Redeem, Detach}
use Rattle.text_words.specs.declared.reply.EventEnds.{EventEnds}
use Rattle.text_words.specs.declared.reply.Quiet.{Quiet}
use Rattle.text_words.specs.declared.reply.Quiet.TheVariants as quiet

-- the event of the model; a turn has no time of its own
abbrev pub event_of : ScriptEvent → Event Script
event_of (Send sender core order) = event.Send sender core order
event_of (Deliver core sender) = event.Deliver core sender
event_of (Turn core) = event.Turn core 0
event_of (Shut core sender) = event.Shut core sender
event_of (Collect sender core) = event.Collect sender core
event_of (Redeem name) = event.Redeem name.from name
event_of (Detach name) = event.Detach name.from name

-- the ends of an event that names no submission
abbrev pub ends : ℕ → ℕ → EventEnds
ends actor other = record { actor = actor; other = other; number = 0 }

-- the ends of an event that names a submission
abbrev pub ends_named : JobId → EventEnds
ends_named name = record { actor = name.from; other = name.to; number = name.number }

-- who makes the step of an event, and who is at the other end of its link; a turn has nobody there
abbrev pub ends_of : ScriptEvent → EventEnds
ends_of (Send sender core order) = ends sender core
ends_of (Deliver core sender) = ends core sender
ends_of (Turn core) = ends core 0
ends_of (Shut core sender) = ends core sender
ends_of (Collect sender core) = ends sender core
ends_of (Redeem name) = ends_named name
ends_of (Detach name) = ends_named name

-- what is printed of a reply, if it comes with no note
abbrev pub quiet_of : Reply Script → Option Quiet
quiet_of reply.Idle = Some quiet.Idle
quiet_of reply.Spent = Some quiet.NoTurnLeft
quiet_of reply.Empty = Some quiet.Empty
quiet_of (reply.NotSent (refused.Full back)) = Some quiet.Full
quiet_of (reply.NotSent (refused.Closed back count)) = Some (quiet.Closed count)
quiet_of (reply.NotSent (refused.Spent back)) = Some quiet.NoNumberLeft
quiet_of (reply.NotSent (refused.NoCore back)) = None
quiet_of reply.NotClosed = Some quiet.NotClosed
quiet_of reply.AlreadyShut = Some quiet.AlreadyShut
quiet_of (reply.Collected count) = Some quiet.Nothing
quiet_of (reply.NoTicket ticket.Pending) = Some quiet.Pending
quiet_of (reply.NoTicket ticket.Gone) = Some quiet.Gone
quiet_of (reply.NoTicket ticket.Unknown) = Some quiet.Unknown
quiet_of (reply.Redeemed outcome) = None
quiet_of reply.Detached = None
quiet_of (reply.Sent name) = None
quiet_of reply.Noted = None
quiet_of (reply.NoActor back) = None
quiet_of (reply.NoRoom back) = None
