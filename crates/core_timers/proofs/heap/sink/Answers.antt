use Rattle.std.proofs.Common.{◌≢◌, arith}
use Rattle.core_timers.specs.Tables.{table, put}
use Rattle.core_timers.specs.Heap.{IsEarly}
use Rattle.core_timers.proofs.Sifts.{Goes-down, IsEarly-found, IsEarly-last, Settles-settled, key_within}
use Rattle.core_timers.proofs.heap.sink.Goals.{else-loop-at-test, then-loop-at-test+then-slot-other}
use Rattle.core_timers.proofs.heap.sink.Goals as goal

pub loop-at-preserved : goal.loop-at-preserved
loop-at-preserved g c =
    let at = c.loop-at.at in
    let start = put (table c.args.heap.now.items c.args.rows.now.items) c.args.hole c.args.slot in
    let t = table c.loop-at.heap.items c.loop-at.rows.items in
    let later = table c.write.new.heap.items c.write.new.rows.items in
    let next = c.first_below-next.result in
    let found = c.first_below-next.ensures in
    let apart : next ≢ at = omega (arith, c.first_below-next.ensures.behind) in
    let down =
    Goes-down c.args.count at next start t later c.args.slot c.index-other.result.now c.loop-at.invariant.goes found.within apart c.index-other.ensures c.write.ensures found.above found.behind c.if-slot-other.false found.first in
    record { goes = down.0; late = down.1 }

pub write-requires-2-clause-key : goal.write-requires-2-clause-key
write-requires-2-clause-key g c =
    key_within c.args.count c.loop-at.at (put (table c.args.heap.now.items c.args.rows.now.items) c.args.hole c.args.slot) (table c.loop-at.heap.items c.loop-at.rows.items) c.args.slot c.loop-at.invariant.goes

pub returns : goal.returns
returns g c =
    let at = c.loop-at.at in
    let start = put (table c.args.heap.now.items c.args.rows.now.items) c.args.hole c.args.slot in
    let t = table c.loop-at.heap.items c.loop-at.rows.items in
    let early : IsEarly c.args.count at (put t at c.args.slot)
    = elim c.loop-at-test.branch [
      | else-loop-at-test w ↦ IsEarly-last c.args.count at (put t at c.args.slot) (omega (arith, w.loop-at-test.false))
      | then-loop-at-test+then-slot-other w ↦
          IsEarly-found c.args.count at w.first_below-next.result start t c.args.slot w.index-other.result.now c.loop-at.invariant.goes w.first_below-next.ensures.within w.index-other.ensures w.if-slot-other.true w.first_below-next.ensures.first
    ] in
    Settles-settled c.args.count at start (put t at c.args.slot) (table c.write-2.new.heap.items c.write-2.new.rows.items) c.loop-at.invariant.goes early c.loop-at.invariant.late c.write-2.ensures
