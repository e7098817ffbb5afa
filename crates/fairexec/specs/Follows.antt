-- Journals whose parts stand in a folder, a file for each actor, judged as they grow.
use Rattle.std.specs.Prelude.{◌≡◌, ◌⊎◌, ℕ, List, Option, false, IfErr, IfOk, map}
use Rattle.std.specs.Io.KnownBytes.{Appends}
use Rattle.base_words.specs.Assembly.{Assembly}
use Rattle.judge_audit.specs.Verdicts.{IsVerdict}
use Rattle.judge_audit.specs.declared.judge.Verdict.{Verdict}
use Rattle.judge_audit.specs.declared.judge.Verdict.TheVariants.{Sound}
use Rattle.fair_parts.specs.Folders.{TellsHouse}
use Rattle.judge_fronts.specs.Fronts.{IsLost}
use Rattle.judge_parts.specs.Fronts.{TellFronts}
use Rattle.text_bytes.specs.Tries.{HasFailedSince}
use Rattle.text_bytes.specs.declared.sink.ByteSink as writing
use Rattle.text_feed.specs.declared.fault.FeedError.{FeedError}
use Rattle.text_feed.specs.declared.fault.FeedError.TheVariants as feed
use Rattle.text_journal.specs.Pages.{AppendsFront}
use Rattle.text_parts.specs.declared.parts.HouseNumbers.{HouseNumbers}
use Rattle.text_words.specs.Statuses.{status_of}
use Rattle.text_words.specs.declared.fault.Fault.TheVariants.{Write, Memory}
use Rattle.text_words.specs.declared.status.Status.{Status}
use Rattle.text_words.specs.declared.status.Status.TheVariants as status
use Rattle.fairexec_report.specs.VerdictTexts.{verdict_text}
use Rattle.fairexec.specs.Answers.{AuditAnswer, HasPrinted, RunAnswer}
use Rattle.fairexec.specs.Parts.{AreSoundFiles, JudgesWhole}

-- files were opened: each begins with parts that tell the first notes of an actor of this house
abbrev pub AreFronts : {F : Type 0} → (F → Option (List ℕ)) → HouseNumbers → Assembly ℕ → Type 0
AreFronts {F} file house front = (opened : List F) × TellFronts house (map file opened) front

module _ {F : Type 0} (file : F → Option (List ℕ)) where
  -- one file has the numbers of a house, and others tell fronts of its actors; no later notes make these sound, and this is their verdict
  pub record TellFault (verdict : Verdict) : Type 0 where
    pub head : F
    pub house : HouseNumbers
    pub numbers : TellsHouse (file head) house
    pub front : Assembly ℕ
    pub fronts : AreFronts file house front
    pub lost : IsLost front
    pub verdict_is : IsVerdict front verdict

-- the status of parts that couldn't be read on
abbrev pub status_unread : FeedError → Status
status_unread feed.Read = status.Device
status_unread feed.Memory = status.Memory
status_unread (feed.Faulty cause) = status.Refused

module _ {S : Type 0} (sink : writing.Ghosts S) (old new : S) where
  -- a verdict that finds a fault is printed; or a write failed, and a first part of it is written; or there is no memory, and nothing is written
  pub record HasPrintedFault (verdict : Verdict) (answer : AuditAnswer) : Type 0 where
    pub done : IfOk answer (λ sound. (sound ≡ false) × Appends (sink.contents old) (sink.contents new) (verdict_text verdict))
    pub failed : IfErr answer (λ fault. ((fault ≡ Write) × AppendsFront (sink.contents old) (sink.contents new) (verdict_text verdict) × HasFailedSince sink.tries sink.interrupts sink.fails old new) ⊎ ((fault ≡ Memory) × (new ≡ old)))

  -- the files tell fronts that no later notes make sound, and their verdict is printed
  abbrev pub JudgesFront : {F : Type 0} → (F → Option (List ℕ)) → Status → Type 0
  JudgesFront file result = (verdict : Verdict) × TellFault file verdict × (answer : AuditAnswer) × (result ≡ status_of answer) × HasPrintedFault verdict answer

  -- the files tell sound journals, and that is printed; or their fronts are judged, or all their bytes; or they couldn't be read on, and nothing is written
  abbrev pub FollowsParts : {F : Type 0} → (F → Option (List ℕ)) → Status → Type 0
  FollowsParts file result =
      (AreSoundFiles file × (answer : RunAnswer) × (result ≡ status_of answer) × HasPrinted sink (verdict_text Sound) old new answer)
      ⊎ JudgesFront file result
      ⊎ JudgesWhole sink old new file result
      ⊎ ((why : FeedError) × (result ≡ status_unread why) × (new ≡ old))
