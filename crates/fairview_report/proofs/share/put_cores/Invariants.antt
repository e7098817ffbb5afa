-- The rows of the cores so far stand behind what the page had.
use Rattle.std.proofs.Common.{◌≡◌, ◌++◌, ℕ, string_bytes}
use Rattle.base_words.specs.Assembly.{Assembly, journal_of}
use Rattle.fairview_marks.specs.Lists.{lists_below}
use Rattle.fairview_report.specs.ShareTexts.{core_text}
use Rattle.fairview_report.specs.Told.{AreShares}
use Rattle.fairview_report.proofs.share.put_cores.Given as goal

abbrev pub invariant-loop-core : goal.invariant-loop-core
invariant-loop-core l =
    (assembly : Assembly ℕ) → AreShares l.walked.cores l.walked.burst l.walked.each.items assembly →
    string_bytes l.page ≡ string_bytes l.initial.page ++ lists_below (λ core. core_text l.form assembly.burst core (journal_of core assembly)) l.core
