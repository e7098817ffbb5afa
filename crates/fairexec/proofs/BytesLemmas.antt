-- What the answer of a reader of bytes tells.
use Rattle.std.proofs.Common.{◌≡◌, ◌≢◌, ◌⊎◌, true, false, inl, ℕ, List, Result, Ok, Err, IfErr, IfOk}
use Rattle.std.specs.Option.{IfSome}
use Rattle.std.specs.Io.KnownBytes.{IsAtEnd}
use Rattle.text_bytes.specs.Tries.{HasFailedSince}
use Rattle.text_bytes.specs.declared.source.Source as reading
use Rattle.text_parts.specs.Faults.{IfBytes, IfRead, IfUnwritten, bytes_status}
use Rattle.text_parts.specs.Houses.{IsFault}
use Rattle.text_parts.specs.Wholes.{MakesText}
use Rattle.text_parts.specs.declared.fault.BytesFault.{BytesFault}
use Rattle.text_parts.specs.declared.fault.BytesFault.TheVariants as bytes
use Rattle.text_words.specs.Statuses.{status_of}
use Rattle.text_words.specs.declared.fault.Fault.TheVariants as fault
use Rattle.text_words.specs.declared.status.Status.TheVariants as status
use Rattle.fairexec.specs.Answers.{RunAnswer}
use Rattle.fair_parts.specs.Folders.{IsUnopened}
use Rattle.fairexec.specs.Bytes.{TellsNone, TellsText}

-- bytes without a text don't end as what an audit found
pub no_bytes_found : (why : BytesFault) → bytes_status why ≢ status.FaultFound
no_bytes_found (bytes.Faulty place cause) is = cc
no_bytes_found bytes.Read is = cc
no_bytes_found bytes.Write is = cc
no_bytes_found bytes.Memory is = cc

-- nor does what is done
pub none_found : (answer : RunAnswer) → IfOk answer (λ done. done ≡ true) → status_of answer ≢ status.FaultFound
none_found (Ok true) done is = cc
none_found (Ok false) done is = cc done
none_found (Err (fault.Text line cause)) done is = cc
none_found (Err fault.Read) done is = cc
none_found (Err fault.Write) done is = cc
none_found (Err fault.Memory) done is = cc

module _ {R T : Type 0} (source : reading.Ghosts R) (old new : R) where
  pub tells_text : (items : T → List ℕ) (answer : Result T BytesFault) → IfOk answer (λ text. IfSome (source.remaining old) (MakesText (items text))) →
      IfOk answer (λ text. IsAtEnd (source.remaining new)) → IfOk answer (λ text. TellsText source old new (items text))
  tells_text items (Ok text) told end = record { told = told; end = end }
  tells_text items (Err why) told end = tt

  pub tells_none : (answer : Result T BytesFault) → IfErr answer (IfBytes (λ place cause. IfSome (source.remaining old) (λ bytes. IsFault bytes place cause))) →
      IfErr answer (IfRead (HasFailedSince source.tries source.interrupts source.fails old new)) → IfErr answer (IfUnwritten ⊥) → IfErr answer (TellsNone source old new)
  tells_none (Ok text) faulty unread unwritten = tt
  tells_none (Err why) faulty unread unwritten = record { faulty = faulty; unread = unread; unwritten = unwritten }

  module _ {I : Type 0} (before after : I) (stays : after ≡ before) where
    -- of a file, where the input stays
    pub file_text : (items : T → List ℕ) (answer : Result T BytesFault) → IfOk answer (λ text. TellsText source old new (items text)) →
        IfOk answer (λ text. ((from : R) × (to : R) × TellsText source from to (items text)) × (after ≡ before))
    file_text items (Ok text) told = ((old, new, told), stays)
    file_text items (Err why) told = tt

    pub file_none : (answer : Result T BytesFault) → IfErr answer (TellsNone source old new) →
        IfErr answer (λ why. (((from : R) × (to : R) × TellsNone source from to why) ⊎ IsUnopened why) × (after ≡ before))
    file_none (Ok text) none = tt
    file_none (Err why) none = (inl (old, new, none), stays)
