use Rattle.std.proofs.Common.{◌<◌, ◌≢◌, refl, arith}
use Rattle.core_timers.specs.Tables.{table, put}
use Rattle.core_timers.specs.Heap.{above, IsLate}
use Rattle.core_timers.proofs.Sifts.{Goes-up, IsLate-found, Settles-settled, key_within}
use Rattle.core_timers.proofs.heap.rise.Goals.{else-loop-at-test, then-loop-at-test+then-other-slot}
use Rattle.core_timers.proofs.heap.rise.Goals as goal

pub loop-at-preserved : goal.loop-at-preserved
loop-at-preserved g c =
    let at = c.loop-at.at in
    let start = put (table c.args.heap.now.items c.args.rows.now.items) c.args.hole c.args.slot in
    let t = table c.loop-at.heap.items c.loop-at.rows.items in
    let later = table c.write.new.heap.items c.write.new.rows.items in
    let inside : above at < c.args.count = omega (arith, c.loop-at.invariant.goes.inside) in
    let apart : above at ≢ at = omega (arith, c.loop-at-test.true) in
    let up = Goes-up c.args.count at (above at) start t later c.args.slot c.index-other.result.now c.loop-at.invariant.goes inside apart c.index-other.ensures c.write.ensures c.loop-at-test.true refl c.if-other-slot.false in
    record { goes = up.0; early = up.1 }

pub write-requires-2-clause-key : goal.write-requires-2-clause-key
write-requires-2-clause-key g c =
    key_within c.args.count c.loop-at.at (put (table c.args.heap.now.items c.args.rows.now.items) c.args.hole c.args.slot) (table c.loop-at.heap.items c.loop-at.rows.items) c.args.slot c.loop-at.invariant.goes

pub returns : goal.returns
returns g c =
    let at = c.loop-at.at in
    let start = put (table c.args.heap.now.items c.args.rows.now.items) c.args.hole c.args.slot in
    let t = table c.loop-at.heap.items c.loop-at.rows.items in
    let late : IsLate at (put t at c.args.slot)
    = λ some.
    elim c.loop-at-test.branch [
      | else-loop-at-test w ↦ absurd (omega (arith, some, w.loop-at-test.false))
      | then-loop-at-test+then-other-slot w ↦ IsLate-found c.args.count at start t c.args.slot w.index-other.result.now c.loop-at.invariant.goes some w.index-other.ensures w.if-other-slot.true
    ] in
    Settles-settled c.args.count at start (put t at c.args.slot) (table c.write-2.new.heap.items c.write-2.new.rows.items) c.loop-at.invariant.goes c.loop-at.invariant.early late c.write-2.ensures
