use Rattle.std.proofs.Common.{◌++◌, ap, ◌∙◌, string_bytes}
use Rattle.std.specs.Prelude.{flat_map}
use Rattle.std.proofs.lemmas.Result.{on_ok_weaker}
use Rattle.fairview_lag.specs.Lines.{pair_line}
use Rattle.fairview_report.proofs.lag.put_lags.Goals as goal

pub returns : goal.returns
returns c =
    on_ok_weaker c.put_pair_lines.result
    (λ puts assembly knows. puts ∙ ap (λ pairs. string_bytes c.args.page.now ++ flat_map pair_line pairs) (c.deref.ensures.value ∙ c.in_ok-pairs.ensures assembly knows))
    c.put_pair_lines.ensures
