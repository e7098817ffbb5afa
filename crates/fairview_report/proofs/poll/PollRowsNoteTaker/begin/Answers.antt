use Rattle.std.proofs.Common.{◌++◌, [], refl, ap, sym, ◌∙◌, arith}
use Rattle.fairview_report.specs.PollTexts.{head_text, rows_of}
use Rattle.fairview_report.proofs.RowLemmas.{rows_begin}
use Rattle.fairview_report.proofs.poll.PollRowsNoteTaker.begin.Goals as goal

pub returns : goal.returns
returns c =
    λ has. record {
      cores = refl;
      few = omega (arith, c.ranges.cores.fits);
      actor = has.actor;
      walk = has.walk;
      page = has.page ∙ ap (λ rows. (head_text ++ rows_of []) ++ rows) (sym (rows_begin 0 1) ∙ rows_begin 0 c.args.cores);
    }
