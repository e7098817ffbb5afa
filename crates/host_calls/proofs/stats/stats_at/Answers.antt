use Rattle.std.proofs.Common.{◌≡◌, arith, slice_index_or, subst}
use Rattle.host_calls.proofs.Counted.{told_at}
use Rattle.host_calls.proofs.stats.stats_at.Goals as goal

pub returns-then-place-len : goal.returns-then-place-len
returns-then-place-len g c = λ burst. λ notes. λ tells.
    let stats = c.index-deref-place.result in
    told_at c.args.queue stats tells (omega (arith, c.if-place-len.true, c.len.ensures.value))
    (subst (λ items. stats ≡ slice_index_or items c.args.queue stats) c.deref.ensures.0 c.index-deref-place.is)
