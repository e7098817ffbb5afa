use Rattle.std.proofs.Common.{ap, ◌++◌, ◌∙◌, refl, append_assoc}
use Rattle.std.proofs.lemmas.Result.{on_ok_weaker}
use Rattle.base_words.specs.Stats.{core_stats}
use Rattle.fairexec_report.specs.StatTexts.{core_text, queues_below}
use Rattle.fairexec_report.proofs.stats.put_stats.Goals as goal

pub returns : goal.returns
returns c =
    let notes = c.args.journal.now.notes in
    let core = c.in_ok-put_core.ensures c.args.burst notes c.in_ok-sums.ensures in
    let line = core_text c.args.core (core_stats core.drained notes) in
    let lines = queues_below 256 c.args.core c.args.burst notes in
    on_ok_weaker c.put_queues.result
    (λ told. (
      line ++ lines,
      record { drained = core.drained; right = core.right; told = refl },
      told c.args.burst notes c.in_ok-sums.ensures ∙ (ap (λ page. page ++ lines) core.put ∙ append_assoc _ line lines),
    ))
    c.put_queues.ensures
