-- The pairs are those of the cores so far.
use Rattle.std.proofs.Common.{◌≡◌, ℕ}
use Rattle.base_words.specs.Assembly.{Assembly, journal_of}
use Rattle.fairview_marks.specs.Lists.{lists_below}
use Rattle.fairview_lag.specs.Pairs.{core_pairs}
use Rattle.fairview_report.specs.Told.{AreLags}
use Rattle.fairview_report.proofs.lag.pairs_of.Given as goal

abbrev pub invariant-loop-core : goal.invariant-loop-core
invariant-loop-core l =
    (assembly : Assembly ℕ) → AreLags l.walked.cores l.walked.burst l.walked.each.items assembly →
    l.pairs.items ≡ lists_below (λ core. core_pairs assembly.burst core (journal_of core assembly)) l.core
