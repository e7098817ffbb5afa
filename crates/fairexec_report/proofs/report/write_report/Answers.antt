use Rattle.fairexec_report.specs.Audits.{IsJudged}
use Rattle.fairexec_report.proofs.ReportLemmas.{reported}
use Rattle.fairexec_report.proofs.report.write_report.Goals as goal
use Rattle.std.proofs.Common.{◌∙◌}

pub returns-in-Ok-clause-done : goal.returns-in-Ok-clause-done
returns-in-Ok-clause-done g c =
    let found = c.in_ok-verdict.ensures in
    let judged : IsJudged c.args.assembly.now c.in_ok-verdict.verdict =
    record { spelled = c.requires; sound = (λ sound. (found.sound sound).1, found.only c.requires); rule = found.rule c.requires; place = found.place c.requires } in
    record {
      verdict = c.in_ok-verdict.verdict;
      text = _;
      report = reported c.args.journal c.args.stats c.args.assembly.now c.in_ok-verdict.verdict _ _ _ _ _ _ judged
          c.new-front.ensures.bytes (c.as_bytes.ensures.value ∙ c.in_ok-put_outcomes.ensures) (c.as_slice.ensures.value ∙ c.in_ok-middle.ensures) c.new-rear.ensures.bytes c.in_ok-put_stats_if.ensures (c.as_bytes-2.ensures.value ∙ c.in_ok-put_verdict.ensures);
      answered = c.is_sound.ensures;
      appends = c.in-Ok.ensures.ok;
    }
