use Rattle.std.proofs.Common.{ap}
use Rattle.text_parts.specs.Parts.{notes_at, or_notes}
use Rattle.text_parts.proofs.ByteLaws.{ends, goes_on, is_done}
use Rattle.text_parts.proofs.part.notes_at.Goals as goal

pub returns-in_default : goal.returns-in_default
returns-in_default c =
    let none = rw c.in_default.is at c.note_at.ensures in
    ap or_notes (ends c.loop.notes.items c.args.count c.loop.counter c.loop.rest.now (notes_at c.args.count c.args.bytes.now) c.loop-test.true none c.loop.invariant)

pub loop-preserved : goal.loop-preserved
loop-preserved c =
    rw c.in_ok-push.ensures.items (goes_on c.loop.notes.items c.args.count c.loop.counter c.loop.rest.now c.in-Some.note c.in-Some.after.now (notes_at c.args.count c.args.bytes.now) c.loop-test.true c.in-Some.ensures c.loop.invariant)

pub returns : goal.returns
returns c = ap or_notes (is_done c.loop.notes.items c.args.count c.loop.counter c.loop.rest.now (notes_at c.args.count c.args.bytes.now) c.loop-test.false c.loop.invariant)
