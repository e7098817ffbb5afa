-- Laws of what is told of a run: it has one text, and each of its parts stands there.
use Rattle.std.specs.Prelude.{◌≡◌, ◌++◌, ℕ, Bool, true, false, List}
use Rattle.base_words.specs.Assembly.{Assembly}
use Rattle.judge_audit.specs.declared.judge.Verdict.{Verdict}
use Rattle.fairexec_report.specs.Outcomes.{outcomes_text}
use Rattle.fairexec_report.specs.VerdictTexts.{verdict_text}
use Rattle.fairexec_report.specs.Writing.{IsReport}

-- the same journals, with the same wishes, are told by one text
abbrev pub ReportIsDetermined : Type 0
ReportIsDetermined =
    (journal stats : Bool) (assembly : Assembly ℕ) (one other : Verdict) (text more : List ℕ) → IsReport journal stats assembly one text → IsReport journal stats assembly other more → text ≡ more

-- with neither wish the outcomes and the verdict are the whole text
abbrev pub PlainReportIsShort : Type 0
PlainReportIsShort = (assembly : Assembly ℕ) (verdict : Verdict) (text : List ℕ) → IsReport false false assembly verdict text → text ≡ outcomes_text assembly ++ verdict_text verdict

-- texts that tell nothing right: with journals or statistics that nobody asked for, and without the line of the verdict
pub record WrongReportsAreRefused : Type 0 where
  pub journal : (stats : Bool) (assembly : Assembly ℕ) (one other : Verdict) (text : List ℕ) → IsReport true stats assembly one text → IsReport false stats assembly other text → ⊥
  pub stats : (journal : Bool) (assembly : Assembly ℕ) (one other : Verdict) (text : List ℕ) → IsReport journal true assembly one text → IsReport journal false assembly other text → ⊥
  pub verdict : (journal stats : Bool) (assembly : Assembly ℕ) (one other : Verdict) (text : List ℕ) →
      IsReport journal stats assembly one (text ++ verdict_text one) → IsReport journal stats assembly other text → ⊥
