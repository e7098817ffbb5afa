use Rattle.std.proofs.Common.{◌∙◌, subst}
use Rattle.actor_desk.specs.Rolls.{EndsLeft}
use Rattle.actor_desk.proofs.RollEnds.{held-popped}
use Rattle.actor_desk.proofs.roll.trim.Goals as goal

pub loop-lines-preserved : goal.loop-lines-preserved
loop-lines-preserved g c =
    let ends = subst EndsLeft c.deref.ensures.value (c.ends_left.ensures.0 c.loop-lines-test.true) in
    let kept = held-popped c.loop-lines.lines.items c.pop-left.new.self.items c.pop-left.result c.pop-left.ensures.items ends c.loop-lines.invariant.rising in
    record { rising = kept.0; held = kept.1 ∙ c.loop-lines.invariant.held; capacity = c.pop-left.ensures.capacity ∙ c.loop-lines.invariant.capacity }
