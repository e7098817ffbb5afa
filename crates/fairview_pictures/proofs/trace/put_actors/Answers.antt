use Rattle.std.proofs.Common.{string_bytes}
use Rattle.fairview_pictures.proofs.TraceLemmas.{before_actors, after_actor}
use Rattle.fairview_pictures.proofs.trace.put_actors.Goals as goal

pub loop-actor-init : goal.loop-actor-init
loop-actor-init c = before_actors c.args.assembly.now (string_bytes c.args.page.now)

pub loop-actor-preserved : goal.loop-actor-preserved
loop-actor-preserved c =
    after_actor c.loop-actor.actor c.args.assembly.now _ _ _ _ _ c.loop-actor.invariant c.of-times.ensures c.journal.ensures c.in_ok-put_actor.ensures
