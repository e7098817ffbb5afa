use Rattle.std.proofs.Common.{◌≡◌, true, ◌∙◌, subst, sym}
use Rattle.std.specs.Io.KnownBytes.{Appends}
use Rattle.text_journal.specs.Pages.{AppendsFront}
use Rattle.fairexec_report.specs.VerdictTexts.{verdict_text}
use Rattle.fairexec_report.proofs.AuditLemmas.{judged, line_of, tells_sound}
use Rattle.fairexec_report.proofs.audit.audit_text.Goals as goal

pub returns-in-Ok-clause-done : goal.returns-in-Ok-clause-done
returns-in-Ok-clause-done g c = record {
  verdict = c.in_ok-verdict.verdict;
  judged = judged (g.R.Source.remaining c.args.source.now) c.in_ok-assembly.assembly c.in_ok-verdict.verdict c.in_ok-assembly.ensures.same_text c.in_ok-verdict.ensures.sound c.in_ok-verdict.ensures.rule c.in_ok-verdict.ensures.place c.in_ok-verdict.ensures.only;
  answered = c.is_sound.ensures;
  appends = subst (Appends (g.S.ByteSink.contents c.args.sink.now) (g.S.ByteSink.contents c.write_line.new.sink))
      (line_of _ _ c.as_bytes.result.now (verdict_text c.in_ok-verdict.verdict) c.as_bytes.ensures.value c.in_ok-put_verdict.ensures c.new-page.ensures.bytes) c.in-Ok.ensures.ok;
}

pub returns-clause-unwritten : goal.returns-clause-unwritten
returns-clause-unwritten g c = record {
  verdict = c.in_ok-verdict.verdict;
  judged = judged (g.R.Source.remaining c.args.source.now) c.in_ok-assembly.assembly c.in_ok-verdict.verdict c.in_ok-assembly.ensures.same_text c.in_ok-verdict.ensures.sound c.in_ok-verdict.ensures.rule c.in_ok-verdict.ensures.place c.in_ok-verdict.ensures.only;
  appends = subst (AppendsFront (g.S.ByteSink.contents c.args.sink.now) (g.S.ByteSink.contents c.write_line.new.sink))
      (line_of _ _ c.as_bytes.result.now (verdict_text c.in_ok-verdict.verdict) c.as_bytes.ensures.value c.in_ok-put_verdict.ensures c.new-page.ensures.bytes) c.in-Err.ensures.err;
}

pub returns-in-Ok-clause-sound : goal.returns-in-Ok-clause-sound
returns-in-Ok-clause-sound g c = λ done.
    let answer : c.is_sound.result ≡ true = cc in
    tells_sound (g.R.Source.remaining c.args.source.now) c.in_ok-assembly.assembly c.in_ok-verdict.verdict c.in_ok-assembly.ensures.same_text c.in_ok-verdict.ensures.sound (sym c.is_sound.ensures ∙ answer)
