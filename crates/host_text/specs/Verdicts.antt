-- What an audit finds.
use Rattle.std.specs.Prelude.{◌≡◌, ℕ, true, false}
use Rattle.base_words.specs.Assembly.{Assembly}
use Rattle.base_words.specs.Sound.{IsSound}
use Rattle.base_words.specs.Spelled.{IsSpelled}
use Rattle.judge_audit.specs.declared.judge.Verdict.{Verdict}
use Rattle.judge_audit.specs.declared.judge.Verdict.TheVariants.{Sound, Fault}
use Rattle.judge_audit.specs.Verdicts.{IsVerdict}
use Rattle.host_text.specs.declared.ended.JudgeError.{JudgeError}
use Rattle.host_text.specs.declared.ended.JudgeError.TheVariants.{Parted, Memory}
use Rattle.host_text.specs.Ended.{EndedView}

-- sound journals are spelled and sound, and of spelled ones it is the first fault
pub record IsFound (assembly : Assembly ℕ) (found : Verdict) : Type 0 where
  pub sound : found ≡ Sound → IsSpelled assembly × IsSound assembly
  pub place : IsSpelled assembly → IsVerdict assembly found
  pub only : IsSpelled assembly → IsSound assembly → found ≡ Sound
  pub unspelled : (IsSpelled assembly → ⊥) → found ≡ Fault 0 0 1

-- journals that kept all their notes are judged
pub record Judges (ended : EndedView) (found : Verdict) : Type 0 where
  pub whole : ended.parted ≡ false
  pub is_found : IsFound ended.assembly found

-- they aren't: notes were passed on, and nothing is said of what is gone; or there is no memory
abbrev pub IsUnjudged : EndedView → JudgeError → Type 0
IsUnjudged ended Parted = ended.parted ≡ true
IsUnjudged ended Memory = ended.parted ≡ false
