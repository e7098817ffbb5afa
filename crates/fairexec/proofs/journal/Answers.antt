use Rattle.std.proofs.Common.{inl, inr, refl, subst}
use Rattle.fairexec.proofs.BytesLemmas.{no_bytes_found, none_found}
use Rattle.fairexec.specs.Answers.{HasPrinted}
use Rattle.fairexec.proofs.journal.Goals as goal

pub returns-in-Ok-clause-ends : goal.returns-in-Ok-clause-ends
returns-in-Ok-clause-ends g c =
    let printed = c.print in
    inl (
      c.in-Ok.text.items,
      c.in-Ok.ensures.text,
      (printed.result, refl, subst (λ all. HasPrinted g.S.ByteSink all c.args.output.now printed.new.output printed.result) c.deref.ensures.value printed.ensures.printed),
    )

pub returns-in-Ok-clause-never : goal.returns-in-Ok-clause-never
returns-in-Ok-clause-never g c = none_found c.print.result c.print.ensures.done

pub returns-in-Err-clause-ends : goal.returns-in-Err-clause-ends
returns-in-Err-clause-ends g c = inr (c.in-Err.why, c.in-Err.ensures.none, refl, refl)

pub returns-in-Err-clause-never : goal.returns-in-Err-clause-never
returns-in-Err-clause-never g c = no_bytes_found c.in-Err.why
