-- What is written of a verdict.
use Rattle.std.proofs.Common.{◌≡◌, Result, Ok, Err, OnOk, OnErr, ℕ, List, [], Option, Some, None, true, refl, append-nil, ap, ◌∙◌, ◌++◌}
use Rattle.std.specs.Option.{IfSome}
use Rattle.std.specs.Io.KnownBytes.{Appends}
use Rattle.base_words.specs.Assembly.{Assembly}
use Rattle.base_words.specs.Sound.{IsSound}
use Rattle.base_words.specs.Spelled.{IsSpelled}
use Rattle.judge_audit.specs.declared.judge.Verdict.{Verdict}
use Rattle.judge_audit.specs.declared.judge.Verdict.TheVariants.{Sound, Fault}
use Rattle.judge_audit.specs.Verdicts.{IsFirstBroken, IsVerdict, rule_named}
use Rattle.fairexec_report.specs.Audits.{JudgesText, TellsSound}
use Rattle.text_journal.specs.Pages.{AppendsFront}
use Rattle.fairexec_report.specs.VerdictTexts.{is_sound}
use Rattle.text_journal.specs.Texts.{journal_text}
pub use Rattle.text_journal.proofs.PageLemmas.{front_of_count}

pub OnOk-any : {T E P : Type 0} (result : Result T E) → P → OnOk result P
OnOk-any (Ok value) p = p
OnOk-any (Err error) p = tt

-- all is written
pub front_of_all : (old new : Option (List ℕ)) (text : List ℕ) → Appends old new text → AppendsFront old new text
front_of_all old new text out = record { written = text; rest = []; appends = out; whole = append-nil text }

-- the line is all that stands on its page
pub line_of : (before page bytes text : List ℕ) → bytes ≡ page → page ≡ before ++ text → before ≡ [] → bytes ≡ text
line_of before page bytes text same put empty = same ∙ (put ∙ ap (λ front. front ++ text) empty)

sound_only : (verdict : Verdict) → is_sound verdict ≡ true → verdict ≡ Sound
sound_only Sound is = refl
sound_only (Fault actor line rule) is = cc

module _ (source : Option (List ℕ)) (assembly : Assembly ℕ) (verdict : Verdict) (told : IfSome source (λ text. IsSpelled assembly × (text ≡ journal_text assembly))) (sound : verdict ≡ Sound → IsSpelled assembly × IsSound assembly) where
  -- the verdict is one of the journals that the source tells
  pub judged : (IsSpelled assembly → IsFirstBroken assembly (rule_named verdict)) → (IsSpelled assembly → IsVerdict assembly verdict) →
      (IsSpelled assembly → IsSound assembly → verdict ≡ Sound) → IfSome source (JudgesText verdict)
  judged rule place only = from source told
    where
      from : (all : Option (List ℕ)) → IfSome all (λ text. IsSpelled assembly × (text ≡ journal_text assembly)) → IfSome all (JudgesText verdict)
      from None is = tt
      from (Some text) (spelled, same) = (assembly, same, record { spelled = spelled; sound = (λ found. (sound found).1, only spelled); rule = rule spelled; place = place spelled })

  -- and they are sound if it says so
  pub tells_sound : is_sound verdict ≡ true → TellsSound source
  tells_sound holds = from source told
    where
      from : (all : Option (List ℕ)) → IfSome all (λ text. IsSpelled assembly × (text ≡ journal_text assembly)) → TellsSound all
      from None is = tt
      from (Some text) (spelled, same) = (assembly, same, spelled, (sound (sound_only verdict holds)).1)
