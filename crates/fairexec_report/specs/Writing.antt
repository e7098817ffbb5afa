-- What is written of the journals of running threads.
use Rattle.std.specs.Prelude.{◌≡◌, ◌++◌, ℕ, Bool, true, false, List, [], Option}
use Rattle.std.specs.Io.KnownBytes.{Appends}
use Rattle.base_words.specs.Assembly.{Assembly}
use Rattle.judge_audit.specs.declared.judge.Verdict.{Verdict}
use Rattle.text_journal.specs.Pages.{AppendsFront}
use Rattle.text_journal.specs.Texts.{journal_text}
use Rattle.fairexec_report.specs.Audits.{IsJudged}
use Rattle.fairexec_report.specs.Outcomes.{outcomes_text}
use Rattle.fairexec_report.specs.StatTexts.{IsStatsIf}
use Rattle.fairexec_report.specs.VerdictTexts.{is_sound, verdict_text}

-- the text of the journals, if it is wanted
abbrev pub journal_if : Bool → Assembly ℕ → List ℕ
journal_if true assembly = journal_text assembly
journal_if false assembly = []

-- what became of each submission of the outside actor, the journals and the statistics if they are wanted, and the line of the verdict
abbrev pub told_text : Bool → Assembly ℕ → List ℕ → Verdict → List ℕ
told_text journal assembly counted verdict = outcomes_text assembly ++ (journal_if journal assembly ++ (counted ++ verdict_text verdict))

-- the text is what is told of these journals, with this verdict
pub record IsReport (journal stats : Bool) (assembly : Assembly ℕ) (verdict : Verdict) (text : List ℕ) : Type 0 where
  pub judged : IsJudged assembly verdict
  pub counted : List ℕ
  pub right : IsStatsIf stats assembly counted
  pub told : text ≡ told_text journal assembly counted verdict

-- that text is written; the answer tells whether the journals are sound
pub record IsTold (journal stats : Bool) (assembly : Assembly ℕ) (sink_old sink_new : Option (List ℕ)) (answer : Bool) : Type 0 where
  pub verdict : Verdict
  pub text : List ℕ
  pub report : IsReport journal stats assembly verdict text
  pub answered : answer ≡ is_sound verdict
  pub appends : Appends sink_old sink_new text

-- a first part of it is written
pub record IsCutShort (journal stats : Bool) (assembly : Assembly ℕ) (sink_old sink_new : Option (List ℕ)) : Type 0 where
  pub verdict : Verdict
  pub text : List ℕ
  pub report : IsReport journal stats assembly verdict text
  pub appends : AppendsFront sink_old sink_new text
