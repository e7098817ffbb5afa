use Rattle.judge_audit.proofs.Names.{arith, get_or_past, greatest_word, slot}
use Rattle.judge_audit.proofs.order.Numbers.start.Goals as goal

pub returns-else-at-lt4352-clause-this : goal.returns-else-at-lt4352-clause-this
returns-else-at-lt4352-clause-this c =
    let past =
    get_or_past c.args.self.now.started (slot c.args.name.now.from c.args.queue) greatest_word (omega (arith, c.if-at-lt4352.false, c.slot-at.ensures)) in
    omega (arith, past)
