use Rattle.std.proofs.Common.{◌∙◌, ◌++◌, sym, ap}
use Rattle.run_runtime.proofs.AllPassed.{rest_kept}
use Rattle.run_runtime.proofs.finishing.part.Goals as goal

pub returns-clause-part : goal.returns-clause-part
returns-clause-part g c =
    let ended = c.into_all-linked.ensures.ended in
    let sink = c.into_all-linked.ensures.sink in
    let journal = c.into_journal.ensures ∙ (ap (λ recorded. recorded.journal) c.into_parts-recorded.ensures.recorded ∙ ap (λ linked. linked.recorded.journal) c.into_all-linked.ensures.linked) in
    let had = ap g.S.Sink.has sink ∙ (ended.passed ∙ ap (λ journal. journal.passed) (sym journal)) in
    let notes = ap (λ had. c.into_kept-kept.result.notes ++ had) had ∙ (c.into_kept-kept.ensures.notes ∙ ap (λ journal. journal.notes) journal) in
    record { ended = ended; sink_is = sink; notes_are = notes; rest = rest_kept g.J.Task.meaning g.S.Sink.has g.S.Sink.refused c.args.ended (record { sink = c.into_all-linked.result.1; kept = c.into_kept-kept.result }) ended sink notes }
