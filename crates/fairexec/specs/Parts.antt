-- Journals whose parts stand in a folder, a file for each actor: how they are judged.
use Rattle.std.specs.Prelude.{◌≡◌, ◌⊎◌, ℕ, List, Option, Some, IfErr, map}
use Rattle.fair_parts.specs.Folders.{IsBytesOf, IsUnopened, TellsHouse}
use Rattle.judge_audit.specs.declared.judge.Verdict.TheVariants.{Sound}
use Rattle.judge_parts.specs.Houses.{TellSound}
use Rattle.text_bytes.specs.declared.sink.ByteSink as writing
use Rattle.text_parts.specs.Faults.{IfBytes, bytes_status}
use Rattle.text_parts.specs.Houses.{IsFault}
use Rattle.text_parts.specs.Wholes.{MakesText}
use Rattle.text_parts.specs.declared.fault.BytesFault.{BytesFault}
use Rattle.text_parts.specs.declared.parts.HouseNumbers.{HouseNumbers}
use Rattle.text_words.specs.Faults as text
use Rattle.text_words.specs.Statuses.{status_of}
use Rattle.text_words.specs.declared.status.Status.{Status}
use Rattle.fairexec_report.specs.VerdictTexts.{verdict_text}
use Rattle.fairexec.specs.Answers.{AuditAnswer, HasJudgedText, HasPrinted, RunAnswer}

module _ {F : Type 0} (file : F → Option (List ℕ)) where
  -- files were opened: one has the numbers of a house, and each of the others tells the journal of an actor; together these are sound
  pub record AreSoundFiles : Type 0 where
    pub head : F
    pub house : HouseNumbers
    pub numbers : TellsHouse (file head) house
    pub opened : List F
    pub sound : TellSound house (map file opened)

module _ {S : Type 0} (sink : writing.Ghosts S) (old new : S) where
  -- bytes are journals, and their text is judged; or they are none, for this fault, and nothing is written
  abbrev pub JudgesAll : List ℕ → Status → Type 0
  JudgesAll bytes result =
      ((all : List ℕ) × MakesText all bytes × (answer : AuditAnswer) × (result ≡ status_of answer) × HasJudgedText sink (Some all) old new answer × IfErr answer (text.IfRead ⊥))
      ⊎ ((why : BytesFault) × IfBytes (IsFault bytes) why × (result ≡ bytes_status why) × (new ≡ old))

  -- all bytes of the files are judged; or a read failed or there is no memory, and nothing is written
  abbrev pub JudgesWhole : {F : Type 0} → (F → Option (List ℕ)) → Status → Type 0
  JudgesWhole file result =
      ((bytes : List ℕ) × IsBytesOf file bytes × JudgesAll bytes result)
      ⊎ ((why : BytesFault) × IsUnopened why × (result ≡ bytes_status why) × (new ≡ old))

  -- the files tell sound journals, and that is printed; or all their bytes are judged
  abbrev pub JudgesParts : {F : Type 0} → (F → Option (List ℕ)) → Status → Type 0
  JudgesParts file result =
      (AreSoundFiles file × (answer : RunAnswer) × (result ≡ status_of answer) × HasPrinted sink (verdict_text Sound) old new answer)
      ⊎ JudgesWhole file result
