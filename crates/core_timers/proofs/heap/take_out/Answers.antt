use Rattle.std.proofs.Common.{◌≡◌, ◌+◌, ◌<◌, length, set, None, sym, ap, ◌∙◌, arith}
use Rattle.core_timers.specs.Tables.{table, key_at, timers_of}
use Rattle.core_timers.proofs.Sifts.{slot_read}
use Rattle.core_timers.proofs.Shrinks.{IsPlaced-goes, IsOrderedBut-goes, timers_of-gone, timers_of-fewer, told_at}
use Rattle.core_timers.proofs.heap.take_out.Goals as goal

pub returns-then-at-last-clause-gone : goal.returns-then-at-last-clause-gone
returns-then-at-last-clause-gone g c =
    let t = table c.args.heap.now.items c.args.rows.now.items in
    let told = told_at t c.args.key c.index.result.now c.requires.key c.index.ensures in
    let here : key_at t c.args.last ≡ c.args.key = ap (key_at t) (sym (told ∙ c.if-at-last.true)) ∙ c.requires.placed.there c.args.key (omega (arith, c.requires.key, c.requires.placed.long)) in
    timers_of-fewer c.args.last t c.requires.placed c.requires.within ∙ ap (λ k. set (timers_of (c.args.last + 1) t) k None) here

pub settle-requires-clause-placed : goal.settle-requires-clause-placed
settle-requires-clause-placed g c =
    let t = table c.args.heap.now.items c.args.rows.now.items in
    let at = c.index.result.now.at in
    let told = told_at t c.args.key c.index.result.now c.requires.key c.index.ensures in
    let before : at < c.args.last = omega (arith, told, c.requires.set, c.if-at-last.false) in
    let inside : at < length t.heap = omega (arith, before, c.requires.within) in
    let between = table c.write.new.heap.items c.write.new.rows.items in
    IsPlaced-goes c.args.last c.args.key at t between c.index-gone.result.now c.index-moved.result.now c.requires.placed c.requires.order c.requires.within c.requires.key before told
    (slot_read t at c.index-gone.result.now inside c.index-gone.ensures) (slot_read t c.args.last c.index-moved.result.now c.requires.within c.index-moved.ensures) c.write.ensures

pub settle-requires-clause-order : goal.settle-requires-clause-order
settle-requires-clause-order g c =
    let t = table c.args.heap.now.items c.args.rows.now.items in
    let at = c.index.result.now.at in
    let told = told_at t c.args.key c.index.result.now c.requires.key c.index.ensures in
    let before : at < c.args.last = omega (arith, told, c.requires.set, c.if-at-last.false) in
    let inside : at < length t.heap = omega (arith, before, c.requires.within) in
    let between = table c.write.new.heap.items c.write.new.rows.items in
    IsOrderedBut-goes c.args.last c.args.key at t between c.index-gone.result.now c.index-moved.result.now c.requires.placed c.requires.order c.requires.within c.requires.key before told
    (slot_read t at c.index-gone.result.now inside c.index-gone.ensures) (slot_read t c.args.last c.index-moved.result.now c.requires.within c.index-moved.ensures) c.write.ensures

pub returns-clause-gone : goal.returns-clause-gone
returns-clause-gone g c =
    let t = table c.args.heap.now.items c.args.rows.now.items in
    let at = c.index.result.now.at in
    let told = told_at t c.args.key c.index.result.now c.requires.key c.index.ensures in
    let before : at < c.args.last = omega (arith, told, c.requires.set, c.if-at-last.false) in
    let inside : at < length t.heap = omega (arith, before, c.requires.within) in
    let between = table c.write.new.heap.items c.write.new.rows.items in
    timers_of-gone c.args.last c.args.key at t between c.index-gone.result.now c.index-moved.result.now c.requires.placed c.requires.order c.requires.within c.requires.key before told
    (slot_read t at c.index-gone.result.now inside c.index-gone.ensures) (slot_read t c.args.last c.index-moved.result.now c.requires.within c.index-moved.ensures) c.write.ensures
    (table c.settle.new.heap.items c.settle.new.rows.items) c.settle.ensures
