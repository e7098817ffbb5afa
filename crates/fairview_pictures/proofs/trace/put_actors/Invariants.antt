-- The events of the actors so far stand behind what the page had.
use Rattle.std.proofs.Common.{◌≡◌, ◌++◌, string_bytes}
use Rattle.fairview_pictures.specs.Traces.{actors_below}
use Rattle.fairview_pictures.proofs.trace.put_actors.Given as goal

abbrev pub invariant-loop-actor : goal.invariant-loop-actor
invariant-loop-actor l = string_bytes l.page ≡ string_bytes l.initial.page ++ actors_below l.actor l.assembly
