-- Journals that are bytes, in a file or in the parts of a folder: how they are read, and that what is shown is their text's.
use Rattle.std.specs.Prelude.{◌≡◌, ◌⊎◌, ◌++◌, ℕ, List, [], Option, None, Some, IfErr, IfSome}
use Rattle.std.specs.Io.KnownBytes.{IsAtEnd}
use Rattle.fair_parts.specs.Folders.{IsBytesOf, IsUnopened}
use Rattle.fairview_args.specs.declared.asked.Journals.{Journals}
use Rattle.fairview_args.specs.declared.asked.Journals.TheVariants as journals
use Rattle.fairview_report.specs.Faults.{status_of}
use Rattle.fairview_report.specs.Faults as text
use Rattle.fairview_report.specs.declared.view.View.{View}
use Rattle.text_bytes.specs.Tries.{HasFailedSince}
use Rattle.text_bytes.specs.declared.sink.ByteSink as writing
use Rattle.text_bytes.specs.declared.source.Source as reading
use Rattle.text_parts.specs.Faults.{IfBytes, IfRead, IfUnwritten, bytes_status}
use Rattle.text_parts.specs.Houses.{IsFault}
use Rattle.text_parts.specs.Wholes.{MakesText}
use Rattle.text_parts.specs.declared.fault.BytesFault.{BytesFault}
use Rattle.text_words.specs.declared.status.Status.{Status}
use Rattle.fairview.specs.Answers.{Answer, Devices, HasShown, Passed, ShowsOf, file_reads}

module _ {R : Type 0} (source : reading.Ghosts R) (old new : R) where
  -- bytes were read to their end, and this is the text of the journals that they are
  pub record TellsText (text : List ℕ) : Type 0 where
    pub told : IfSome (source.remaining old) (MakesText text)
    pub end : IsAtEnd (source.remaining new)

  -- there is no text, for this fault: the bytes have it, a read failed, or there is no memory
  pub record TellsNone (why : BytesFault) : Type 0 where
    pub faulty : IfBytes (λ place cause. IfSome (source.remaining old) (λ bytes. IsFault bytes place cause)) why
    pub unread : IfRead (HasFailedSince source.tries source.interrupts source.fails old new) why
    pub unwritten : IfUnwritten ⊥ why

module _ {R F : Type 0} (source : reading.Ghosts R) (file : F → Option (List ℕ)) (old new : R) where
  -- the text of journals: without a file the bytes are the source's, else a file's, and the source stays
  abbrev pub HasText : Option (List ℕ) → List ℕ → Type 0
  HasText None text = TellsText source old new text
  HasText (Some path) text = ((from : F) × (to : F) × TellsText (file_reads file) from to text) × (new ≡ old)

  -- there is none, in the same way
  abbrev pub HasNoText : Option (List ℕ) → BytesFault → Type 0
  HasNoText None why = TellsNone source old new why
  HasNoText (Some path) why = (((from : F) × (to : F) × TellsNone (file_reads file) from to why) ⊎ IsUnopened why) × (new ≡ old)

module _ {R F S : Type 0} (devices : Devices R F S) (at : Passed R S) where
  -- The journals have a text, and it is shown, and no read of it fails. Or they have none: the status is that of the fault, and nothing is written.
  abbrev pub ShowsBytes : Option (List ℕ) → View → Status → Type 0
  ShowsBytes path view result =
      ((all : List ℕ) × HasText devices.source devices.file at.source_old at.source_new path all
      × (answer : Answer) × (result ≡ status_of answer) × HasShown devices.sink view (Some all) at.sink_old at.sink_new answer × IfErr answer (text.IfRead ⊥))
      ⊎ ((why : BytesFault) × HasNoText devices.source devices.file at.source_old at.source_new path why × (result ≡ bytes_status why) × (at.sink_new ≡ at.sink_old))

-- bytes in memory: no read of them is interrupted, and none fails
abbrev pub in_memory : reading.Ghosts (List ℕ)
in_memory = record { remaining = Some; tries = λ source. None; reads = λ old bytes new. old ≡ bytes ++ new; interrupts = λ old new. ⊥; fails = λ old new. ⊥ }

module _ {F S : Type 0} (file : F → Option (List ℕ)) (sink : writing.Ghosts S) (old new : S) where
  -- The bytes of opened files are joined in memory, and what is shown is that of these bytes. Or a read failed or there is no memory, and nothing is written.
  abbrev pub ShowsParts : View → Status → Type 0
  ShowsParts view result =
      ((bytes : List ℕ) × IsBytesOf file bytes
      × ShowsBytes (record { source = in_memory; file = file; sink = sink }) (record { source_old = bytes; source_new = []; sink_old = old; sink_new = new }) None view result)
      ⊎ ((why : BytesFault) × IsUnopened why × (result ≡ bytes_status why) × (new ≡ old))

module _ {R F S : Type 0} (devices : Devices R F S) (at : Passed R S) where
  -- what is shown of journals that are a text, bytes or parts; the status is that of an answer, which tells what was shown
  abbrev pub EndsShown : Journals → Option (List ℕ) → View → Status → Type 0
  EndsShown journals.Text path view result = (answer : Answer) × (result ≡ status_of answer) × ShowsOf devices at path view answer
  EndsShown journals.Bytes path view result = ShowsBytes devices at path view result
  EndsShown journals.Parts path view result = ShowsParts devices.file devices.sink at.sink_old at.sink_new view result × (at.source_new ≡ at.source_old)
