-- What an audit of a text writes and answers.
use Rattle.std.specs.Prelude.{◌≡◌, ◌↔◌, ℕ, Bool, List, Option}
use Rattle.std.specs.Option.{IfSome}
use Rattle.std.specs.Io.KnownBytes.{Appends}
use Rattle.base_words.specs.Assembly.{Assembly}
use Rattle.base_words.specs.Sound.{IsSound}
use Rattle.base_words.specs.Spelled.{IsSpelled}
use Rattle.judge_audit.specs.declared.judge.Verdict.{Verdict}
use Rattle.judge_audit.specs.declared.judge.Verdict.TheVariants.{Sound}
use Rattle.judge_audit.specs.Verdicts.{IsFirstBroken, IsVerdict, rule_named}
use Rattle.text_journal.specs.Texts.{journal_text}
use Rattle.text_journal.specs.Pages.{AppendsFront}
use Rattle.fairexec_report.specs.VerdictTexts.{is_sound, verdict_text}

-- a verdict of these journals: `Sound` exactly of sound ones; else it names the first rule that is broken, at its first place
pub record IsJudged (assembly : Assembly ℕ) (verdict : Verdict) : Type 0 where
  pub spelled : IsSpelled assembly
  pub sound : verdict ≡ Sound ↔ IsSound assembly
  pub rule : IsFirstBroken assembly (rule_named verdict)
  pub place : IsVerdict assembly verdict

-- the text is that of some journals, and this is a verdict of them
abbrev pub JudgesText : Verdict → List ℕ → Type 0
JudgesText verdict text = (assembly : Assembly ℕ) × (text ≡ journal_text assembly) × IsJudged assembly verdict

-- the source tells journals, and the line of their verdict is written; the answer tells whether they are sound
pub record IsAudited (source sink_old sink_new : Option (List ℕ)) (answer : Bool) : Type 0 where
  pub verdict : Verdict
  pub judged : IfSome source (JudgesText verdict)
  pub answered : answer ≡ is_sound verdict
  pub appends : Appends sink_old sink_new (verdict_text verdict)

-- the source tells journals, and a first part of the line of their verdict is written
pub record IsCutShort (source sink_old sink_new : Option (List ℕ)) : Type 0 where
  pub verdict : Verdict
  pub judged : IfSome source (JudgesText verdict)
  pub appends : AppendsFront sink_old sink_new (verdict_text verdict)

-- the source tells sound journals
abbrev pub TellsSound : Option (List ℕ) → Type 0
TellsSound source = IfSome source (λ text. (assembly : Assembly ℕ) × (text ≡ journal_text assembly) × IsSpelled assembly × IsSound assembly)
