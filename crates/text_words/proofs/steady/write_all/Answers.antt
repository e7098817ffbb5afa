use Rattle.std.proofs.Common.{◌-◌, ◌≤◌, length, take, drop, arith, length-take}
use Rattle.text_words.proofs.KnownLemmas.{Appends-more}
use Rattle.text_words.proofs.steady.write_all.Goals as goal

pub loop-written-preserved : goal.loop-written-preserved
loop-written-preserved g c =
    let done = c.loop-written.written in
    let bytes = c.args.bytes.now in
    let fits : c.in_ok-written.field-0 ≤ length (take (length bytes - done) (drop done bytes)) = c.in_ok-written.ensures.within in
    let most = length-take (length bytes - done) (drop done bytes) in
    record {
      within = omega arith;
      done = Appends-more _ _ _ bytes done c.in_ok-written.field-0 c.loop-written.invariant.within fits c.loop-written.invariant.done c.in_ok-written.ensures.bytes;
    }
