use Rattle.std.proofs.Common.{[], inl, inr, refl, subst}
use Rattle.std.proofs.lemmas.Result.{on_err_weaker}
use Rattle.text_journal.specs.Pages.{AppendsFront}
use Rattle.text_journal.proofs.PageLemmas.{OnErr-any}
use Rattle.fairexec_run.proofs.RearLemmas.{core_puts, core_out, nothing_out, on_ok_both}
use Rattle.fairexec_run.proofs.journal.print_core.Goals as goal

pub returns-in_err-put_stats-clause-err : goal.returns-in_err-put_stats-clause-err
returns-in_err-put_stats-clause-err g c = OnErr-any c.from_residual.result ([], inl refl, nothing_out _ _)

pub returns-then-len-lt-FULL_PAGE-clause-ok : goal.returns-then-len-lt-FULL_PAGE-clause-ok
returns-then-len-lt-FULL_PAGE-clause-ok g c =
    let put = c.in_ok-put_stats.ensures in (put.0, put.1, core_puts _ _ _ put.0 put.2)

pub returns-clause-ok : goal.returns-clause-ok
returns-clause-ok g c =
    let put = c.in_ok-put_stats.ensures in
    on_ok_both c.print_page.result (λ out empty. (put.0, put.1, core_out _ _ _ _ _ put.0 put.2 out empty)) c.print_page.ensures.ok c.print_page.ensures.empty

pub returns-clause-err : goal.returns-clause-err
returns-clause-err g c =
    let put = c.in_ok-put_stats.ensures in
    on_err_weaker c.print_page.result (λ front. (put.0, inr put.1, subst (AppendsFront (g.S.ByteSink.contents c.args.sink.now) (g.S.ByteSink.contents c.print_page.new.sink)) put.2 front)) c.print_page.ensures.err
