use Rattle.std.proofs.Common.{arith, rules}
use Rattle.std.proofs.KnownBytes.{Consumes-trans}
use Rattle.text_parts.proofs.WholeLemmas.{none_more}
use Rattle.text_parts.proofs.whole.read_all.Goals as goal

pub loop-page-preserved : goal.loop-page-preserved
loop-page-preserved g c =
    let seen = c.loop-page.invariant.seen in
    record {
      room = search rules;
      seen = rw c.in_ok-extend_from_slice.ensures.items (Consumes-trans _ _ _ _ _ seen c.in-Ok.ensures.bytes);
      tried = omega (arith, c.loop-page.invariant.tried, c.read_some.ensures.tried);
    }

pub returns-in_default-clause-failed : goal.returns-in_default-clause-failed
returns-in_default-clause-failed g c = (c.loop-page.source, c.loop-page.invariant.tried, c.in_default.ensures.failed)

pub returns-then-count-eq0-clause-ok : goal.returns-then-count-eq0-clause-ok
returns-then-count-eq0-clause-ok g c =
    none_more (g.S.Source.remaining c.args.source.now) (g.S.Source.remaining c.loop-page.source) (g.S.Source.remaining c.read_some.new.source) c.loop-page.bytes.items c.read_some.new.room c.in-Ok.count
    c.if-count-eq0.true c.loop-page.invariant.seen c.in-Ok.ensures.bytes

pub returns-then-count-eq0-clause-end : goal.returns-then-count-eq0-clause-end
returns-then-count-eq0-clause-end g c = c.in-Ok.ensures.end c.if-count-eq0.true (omega (arith, c.loop-page.invariant.room))

pub returns-in_err-extend_from_slice-clause-taken : goal.returns-in_err-extend_from_slice-clause-taken
returns-in_err-extend_from_slice-clause-taken g c = (_, Consumes-trans _ _ _ _ _ c.loop-page.invariant.seen c.in-Ok.ensures.bytes)
