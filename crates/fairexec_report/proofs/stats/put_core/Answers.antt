use Rattle.std.proofs.Common.{ap, ◌++◌, ◌∙◌, string_bytes}
use Rattle.base_words.specs.declared.stats.CoreStats.{CoreStats}
use Rattle.fairexec_report.specs.StatTexts.{core_text}
use Rattle.fairexec_report.proofs.stats.put_core.Goals as goal

pub returns : goal.returns
returns c =
    λ burst journal knows.
    record {
      drained = c.core_stats.result.drained;
      right = c.core_stats.ensures.drained burst journal knows;
      put =
          c.in_ok-writeln.ensures.bytes ∙
          ap (λ (stats : CoreStats). string_bytes c.args.page.now ++ core_text c.args.core stats) (c.core_stats.ensures.core burst journal knows);
    }
