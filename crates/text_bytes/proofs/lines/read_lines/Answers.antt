use Rattle.std.proofs.Common.{◌≡◌, ℕ, ◌++◌, List, [], Err, arith, rules, take}
use Rattle.std.proofs.KnownBytes.{Consumes-trans}
use Rattle.std.proofs.lemmas.List.{length-take}
use Rattle.std.proofs.lemmas.Option.{IfSome_then}
use Rattle.std.proofs.lemmas.Result.{IfOk-weaker, IfErr-weaker}
use Rattle.std.specs.Option.{IfSome}
use Rattle.text_bytes.specs.Readings.{at}
use Rattle.text_bytes.specs.Taking.{IsToldByRead}
use Rattle.text_bytes.specs.Texts.{text_from, text_judged}
use Rattle.text_bytes.proofs.FaultLemmas.{told_of, not_read, not_written}
use Rattle.text_bytes.proofs.SourceLemmas.{consumes_kept, told_at_end, told_in_page}
use Rattle.text_bytes.proofs.TakingLemmas.{takes_append, fault_is_prompt}
use Rattle.text_bytes.proofs.lines.read_lines.Goals as goal

pub loop-count-preserved : goal.loop-count-preserved
loop-count-preserved g c =
    let seen = c.loop-count.invariant.seen in
    record {
      room = search rules;
      ready = c.in_default-feed.ensures.ready;
      seen = (
        seen.0 ++ take c.in-Ok.count c.read_some.new.room,
        Consumes-trans _ _ _ _ _ seen.1 c.in-Ok.ensures.bytes,
        takes_append g.D.LineDraft.judge _ _ _ _ _ seen.2 c.in_default-feed.ensures.taken,
      );
      tried = omega (arith, c.loop-count.invariant.tried, c.read_some.ensures.tried);
    }

pub returns-in_default-clause-prompt : goal.returns-in_default-clause-prompt
returns-in_default-clause-prompt g c =
    let seen = c.loop-count.invariant.seen in
    record {
      before = seen.0;
      consumed = consumes_kept _ _ _ seen.0 seen.1 c.in_default.ensures.kept;
      faultless = record { reading = _; takes = seen.2 };
    }

pub returns-then-count-eq0-clause-ok : goal.returns-then-count-eq0-clause-ok
returns-then-count-eq0-clause-ok g c =
    let judge = g.D.LineDraft.judge in
    let source = g.S.Source.remaining c.args.source.now in
    let here = at c.loop-count.draft c.loop-count.reader.number c.loop-count.reader.line.items in
    let seen = c.loop-count.invariant.seen in
    let none = rw c.if-count-eq0.true at c.in-Ok.ensures.bytes in
    let end = c.in-Ok.ensures.end c.if-count-eq0.true (omega (arith, c.loop-count.invariant.room)) in
    IfOk-weaker c.finish.result _ _
    (λ whole told. IfSome_then source (told_at_end judge c.args.draft _ _ _ seen.0 here _ seen.1 none end seen.2 told.1) (λ text is. (told.0, is, told.2)))
    c.finish.ensures.ok

pub returns-then-count-eq0-clause-faulty : goal.returns-then-count-eq0-clause-faulty
returns-then-count-eq0-clause-faulty g c =
    let judge = g.D.LineDraft.judge in
    let source = g.S.Source.remaining c.args.source.now in
    let here = at c.loop-count.draft c.loop-count.reader.number c.loop-count.reader.line.items in
    let seen = c.loop-count.invariant.seen in
    let none = rw c.if-count-eq0.true at c.in-Ok.ensures.bytes in
    let end = c.in-Ok.ensures.end c.if-count-eq0.true (omega (arith, c.loop-count.invariant.room)) in
    IfErr-weaker c.finish.result _ _
    (λ fault. told_of (λ told. text_from judge here [] ≡ Err told) (λ told. IfSome source (λ text. text_judged judge c.args.draft text ≡ Err told)) fault
    (λ told is. told_at_end judge c.args.draft _ _ _ seen.0 here _ seen.1 none end seen.2 is))
    c.finish.ensures.faulty

pub returns-then-count-eq0-clause-prompt : goal.returns-then-count-eq0-clause-prompt
returns-then-count-eq0-clause-prompt g c =
    let judge = g.D.LineDraft.judge in
    let here = at c.loop-count.draft c.loop-count.reader.number c.loop-count.reader.line.items in
    let seen = c.loop-count.invariant.seen in
    IfErr-weaker c.finish.result _ _
    (λ fault. fault_is_prompt judge c.args.draft _ _ _ seen.0 _ here (λ told. text_from judge here [] ≡ Err told) fault seen.1 c.in-Ok.ensures.bytes
    (omega (arith, length-take c.in-Ok.count c.read_some.new.room)) seen.2)
    c.finish.ensures.faulty

pub returns-in-Err-clause-faulty : goal.returns-in-Err-clause-faulty
returns-in-Err-clause-faulty g c =
    let judge = g.D.LineDraft.judge in
    let source = g.S.Source.remaining c.args.source.now in
    let here = at c.loop-count.draft c.loop-count.reader.number c.loop-count.reader.line.items in
    let seen = c.loop-count.invariant.seen in
    let page = take c.in-Ok.count c.read_some.new.room in
    told_of (λ told. (rest : List ℕ) → text_from judge here (page ++ rest) ≡ Err told) (λ told. IfSome source (λ text. text_judged judge c.args.draft text ≡ Err told)) c.in-Err.fault
    (λ told is. told_in_page judge c.args.draft _ _ _ seen.0 page here _ seen.1 c.in-Ok.ensures.bytes seen.2 is) c.in-Err.ensures.faulty

pub returns-in-Err-clause-prompt : goal.returns-in-Err-clause-prompt
returns-in-Err-clause-prompt g c =
    let judge = g.D.LineDraft.judge in
    let here = at c.loop-count.draft c.loop-count.reader.number c.loop-count.reader.line.items in
    let seen = c.loop-count.invariant.seen in
    let page = take c.in-Ok.count c.read_some.new.room in
    fault_is_prompt judge c.args.draft _ _ _ seen.0 page here (λ told. (rest : List ℕ) → text_from judge here (page ++ rest) ≡ Err told) c.in-Err.fault seen.1 c.in-Ok.ensures.bytes
    (omega (arith, length-take c.in-Ok.count c.read_some.new.room)) seen.2 c.in-Err.ensures.faulty

pub returns-in_default-clause-failed : goal.returns-in_default-clause-failed
returns-in_default-clause-failed g c = (c.loop-count.source, c.loop-count.invariant.tried, c.in_default.ensures.failed)

pub returns-then-count-eq0-clause-at_once : goal.returns-then-count-eq0-clause-at_once
returns-then-count-eq0-clause-at_once g c =
    let judge = g.D.LineDraft.judge in
    let here = at c.loop-count.draft c.loop-count.reader.number c.loop-count.reader.line.items in
    let seen = c.loop-count.invariant.seen in
    let AtOnce = IsToldByRead judge c.args.draft g.S.Source.remaining g.S.Source.tries g.S.Source.reads g.S.Source.interrupts c.args.source.now c.read_some.new.source in
    IfErr-weaker c.finish.result _ _
    (λ fault. told_of (λ told. text_from judge here [] ≡ Err told) (λ told. AtOnce) fault
    (λ told is. record { between = c.loop-count.source; before = seen.0; last = take c.in-Ok.count c.read_some.new.room; consumed = seen.1; reads_last = c.in-Ok.ensures.gives; faultless = record { reading = here; takes = seen.2 } }))
    c.finish.ensures.faulty

pub returns-then-count-eq0-clause-failed : goal.returns-then-count-eq0-clause-failed
returns-then-count-eq0-clause-failed g c =
    let here = at c.loop-count.draft c.loop-count.reader.number c.loop-count.reader.line.items in
    IfErr-weaker c.finish.result _ _ (λ fault. not_read (λ told. text_from g.D.LineDraft.judge here [] ≡ Err told) _ fault) c.finish.ensures.faulty

pub returns-in-Err-clause-at_once : goal.returns-in-Err-clause-at_once
returns-in-Err-clause-at_once g c =
    let judge = g.D.LineDraft.judge in
    let here = at c.loop-count.draft c.loop-count.reader.number c.loop-count.reader.line.items in
    let seen = c.loop-count.invariant.seen in
    let AtOnce = IsToldByRead judge c.args.draft g.S.Source.remaining g.S.Source.tries g.S.Source.reads g.S.Source.interrupts c.args.source.now c.read_some.new.source in
    let page = take c.in-Ok.count c.read_some.new.room in
    told_of (λ told. (rest : List ℕ) → text_from judge here (page ++ rest) ≡ Err told) (λ told. AtOnce) c.in-Err.fault
    (λ told is. record { between = c.loop-count.source; before = seen.0; last = page; consumed = seen.1; reads_last = c.in-Ok.ensures.gives; faultless = record { reading = here; takes = seen.2 } })
    c.in-Err.ensures.faulty

pub returns-in-Err-clause-failed : goal.returns-in-Err-clause-failed
returns-in-Err-clause-failed g c =
    let here = at c.loop-count.draft c.loop-count.reader.number c.loop-count.reader.line.items in
    let page = take c.in-Ok.count c.read_some.new.room in
    not_read (λ told. (rest : List ℕ) → text_from g.D.LineDraft.judge here (page ++ rest) ≡ Err told) _ c.in-Err.fault c.in-Err.ensures.faulty

pub returns-then-count-eq0-clause-device : goal.returns-then-count-eq0-clause-device
returns-then-count-eq0-clause-device g c =
    let here = at c.loop-count.draft c.loop-count.reader.number c.loop-count.reader.line.items in
    IfErr-weaker c.finish.result _ _ (λ fault. not_written (λ told. text_from g.D.LineDraft.judge here [] ≡ Err told) fault) c.finish.ensures.faulty

pub returns-in-Err-clause-device : goal.returns-in-Err-clause-device
returns-in-Err-clause-device g c =
    let here = at c.loop-count.draft c.loop-count.reader.number c.loop-count.reader.line.items in
    let page = take c.in-Ok.count c.read_some.new.room in
    not_written (λ told. (rest : List ℕ) → text_from g.D.LineDraft.judge here (page ++ rest) ≡ Err told) c.in-Err.fault c.in-Err.ensures.faulty
