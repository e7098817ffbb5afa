-- The texts of the cores so far stand behind what the page had.
use Rattle.std.proofs.Common.{ℕ, string_bytes}
use Rattle.base_words.specs.Assembly.{Assembly, journal_of}
use Rattle.fairview_report.specs.Texts.{AreTextsBelow, Puts}
use Rattle.fairview_report.specs.Told.{AreWaits}
use Rattle.fairview_report.specs.WaitTexts.{IsCoreText}
use Rattle.fairview_report.proofs.wait.put_waits.Given as goal

abbrev pub invariant-loop-core : goal.invariant-loop-core
invariant-loop-core l =
    (assembly : Assembly ℕ) → AreWaits l.walked.cores l.walked.burst l.walked.each.items assembly →
    Puts (AreTextsBelow (λ core. IsCoreText l.plain core (journal_of core assembly)) l.core) (string_bytes l.initial.page) (string_bytes l.page)
