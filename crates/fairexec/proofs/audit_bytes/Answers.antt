use Rattle.std.proofs.Common.{◌∙◌, None, Some, inl, inr, refl, subst}
use Rattle.std.proofs.lemmas.Result.{IfErr-weaker}
use Rattle.text_bytes.proofs.FaultLemmas.{never_read}
use Rattle.fairexec.specs.Answers.{HasJudgedText}
use Rattle.fairexec.proofs.audit_bytes.Goals as goal

pub returns-in-Ok : goal.returns-in-Ok
returns-in-Ok g c =
    let audited = c.audit_text in
    inl (
      c.in-Ok.text.items,
      c.in-Ok.ensures.text,
      (
        audited.result,
        refl,
        subst (λ all. HasJudgedText g.S.ByteSink (Some all) c.args.output.now audited.new.sink audited.result) (c.of.ensures ∙ c.deref.ensures.value)
            (record {
              done = audited.ensures.done;
              sound = audited.ensures.sound;
              faulty = audited.ensures.faulty;
              silent = audited.ensures.silent;
              unwritten = audited.ensures.unwritten;
              failed = audited.ensures.failed;
            }),
        IfErr-weaker audited.result _ _ (λ why. never_read (λ source. None) audited.new.source audited.new.source why) audited.ensures.unread,
      ),
    )

pub returns-in-Err : goal.returns-in-Err
returns-in-Err g c = inr (c.in-Err.fault, c.in-Err.ensures.none, refl, refl)
