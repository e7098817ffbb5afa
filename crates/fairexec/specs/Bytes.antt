-- Journals that are bytes: how they are read, and what is done with their text.
use Rattle.std.specs.Prelude.{◌≡◌, ◌⊎◌, ℕ, List, Option, None, Some, IfErr, IfSome}
use Rattle.std.specs.Io.KnownBytes.{IsAtEnd}
use Rattle.text_bytes.specs.Tries.{HasFailedSince}
use Rattle.text_bytes.specs.declared.source.Source as reading
use Rattle.text_parts.specs.Faults.{IfBytes, IfRead, IfUnwritten, bytes_status}
use Rattle.text_parts.specs.Houses.{IsFault}
use Rattle.text_parts.specs.Wholes.{MakesText}
use Rattle.text_parts.specs.declared.fault.BytesFault.{BytesFault}
use Rattle.text_words.specs.Faults as text
use Rattle.text_words.specs.Statuses.{status_of}
use Rattle.text_words.specs.declared.status.Status.{Status}
use Rattle.fair_parts.specs.Folders.{IsUnopened}
use Rattle.fairexec.specs.Answers.{AuditAnswer, Passed, RunAnswer, HasJudgedText, HasPrinted, file_reads}
use Rattle.fairexec.specs.Files.{Devices}

module _ {R : Type 0} (source : reading.Ghosts R) (old new : R) where
  -- bytes were read to their end, and this is the text of the journals that they are
  pub record TellsText (text : List ℕ) : Type 0 where
    pub told : IfSome (source.remaining old) (MakesText text)
    pub end : IsAtEnd (source.remaining new)

  -- there is no text, for this fault: the bytes have it, a read failed, or there is no memory
  pub record TellsNone (why : BytesFault) : Type 0 where
    pub faulty : IfBytes (λ place cause. IfSome (source.remaining old) (λ bytes. IsFault bytes place cause)) why
    pub unread : IfRead (HasFailedSince source.tries source.interrupts source.fails old new) why
    pub unwritten : IfUnwritten ⊥ why

module _ {R F : Type 0} (source : reading.Ghosts R) (file : F → Option (List ℕ)) (old new : R) where
  -- the text of journals: without a file the bytes are the source's, else a file's, and the source stays
  abbrev pub HasText : Option (List ℕ) → List ℕ → Type 0
  HasText None text = TellsText source old new text
  HasText (Some path) text = ((from : F) × (to : F) × TellsText (file_reads file) from to text) × (new ≡ old)

  -- there is none, in the same way
  abbrev pub HasNoText : Option (List ℕ) → BytesFault → Type 0
  HasNoText None why = TellsNone source old new why
  HasNoText (Some path) why = (((from : F) × (to : F) × TellsNone (file_reads file) from to why) ⊎ IsUnopened why) × (new ≡ old)

module _ {R F S : Type 0} (devices : Devices R F S) (at : Passed R S) where
  -- the journals have a text, and this is how it ends with that; or they have none, the status is that of the fault, and nothing is written
  abbrev pub EndsByText : (List ℕ → Status → Type 0) → Option (List ℕ) → Status → Type 0
  EndsByText ends path result =
      ((all : List ℕ) × HasText devices.source devices.file at.source_old at.source_new path all × ends all result)
      ⊎ ((why : BytesFault) × HasNoText devices.source devices.file at.source_old at.source_new path why × (result ≡ bytes_status why) × (at.sink_new ≡ at.sink_old))

  -- the text is judged, and no read of it fails
  abbrev pub JudgesBytes : Option (List ℕ) → Status → Type 0
  JudgesBytes path result = EndsByText (λ all ended.
      (answer : AuditAnswer) × (ended ≡ status_of answer) × HasJudgedText devices.sink (Some all) at.sink_old at.sink_new answer × IfErr answer (text.IfRead ⊥)) path result

  -- the text is printed
  abbrev pub PrintsText : Option (List ℕ) → Status → Type 0
  PrintsText path result = EndsByText (λ all ended.
      (answer : RunAnswer) × (ended ≡ status_of answer) × HasPrinted devices.sink all at.sink_old at.sink_new answer) path result
