use Rattle.std.proofs.Common.{◌∙◌, None, Some, inl, inr, refl, subst}
use Rattle.std.proofs.lemmas.Result.{IfErr-weaker}
use Rattle.fairview.proofs.EndLemmas.{never_read, no_bytes_found, no_fault_found}
use Rattle.fairview.specs.Answers.{HasShown}
use Rattle.fairview.proofs.show_bytes.Goals as goal

pub returns-in-Ok-clause-shows : goal.returns-in-Ok-clause-shows
returns-in-Ok-clause-shows g c =
    let shown = c.view_text in
    inl (
      c.in-Ok.text.items,
      c.in-Ok.ensures.text,
      shown.result,
      refl,
      subst (λ all. HasShown g.S.ByteSink c.args.view (Some all) c.args.output.now shown.new.sink shown.result) (c.of.ensures ∙ c.deref.ensures.value)
          (record {
            done = shown.ensures.done;
            faulty = shown.ensures.faulty;
            coreless = shown.ensures.coreless;
            silent = shown.ensures.silent;
            unwritten = shown.ensures.unwritten;
            failed = shown.ensures.failed;
          }),
      IfErr-weaker shown.result _ _ (λ why. never_read (λ source. None) shown.new.source shown.new.source why) shown.ensures.unread,
    )

pub returns-in-Ok-clause-never : goal.returns-in-Ok-clause-never
returns-in-Ok-clause-never g c = no_fault_found c.view_text.result

pub returns-in-Err-clause-shows : goal.returns-in-Err-clause-shows
returns-in-Err-clause-shows g c = inr (c.in-Err.fault, c.in-Err.ensures.none, refl, refl)

pub returns-in-Err-clause-never : goal.returns-in-Err-clause-never
returns-in-Err-clause-never g c = no_bytes_found c.in-Err.fault
