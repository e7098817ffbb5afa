-- What the answer of a reader of bytes tells.
use Rattle.std.proofs.Common.{◌≡◌, ◌⊎◌, ◌++◌, inl, inr, refl, subst, ℕ, List, [], Option, None, Some, Result, Ok, Err, IfErr, IfOk}
use Rattle.std.specs.Option.{IfSome}
use Rattle.std.specs.Io.KnownBytes.{IsAtEnd}
use Rattle.fair_parts.specs.Folders.{IsUnopened}
use Rattle.text_bytes.proofs.FaultLemmas.{never_failed}
use Rattle.text_bytes.specs.Tries.{HasFailedSince}
use Rattle.text_bytes.specs.declared.source.Source as reading
use Rattle.text_parts.specs.Faults.{IfBytes, IfRead, IfUnwritten}
use Rattle.text_parts.specs.Houses.{IsFault}
use Rattle.text_parts.specs.Wholes.{MakesText}
use Rattle.text_parts.specs.declared.fault.BytesFault.{BytesFault}
use Rattle.text_parts.specs.declared.fault.BytesFault.TheVariants as fault
use Rattle.text_bytes.specs.declared.sink.ByteSink as writing
use Rattle.fairview_report.specs.declared.view.View.{View}
use Rattle.text_words.specs.declared.status.Status.{Status}
use Rattle.fairview.specs.Bytes.{ShowsBytes, TellsNone, TellsText, in_memory}

module _ {R T : Type 0} (source : reading.Ghosts R) (old new : R) where
  pub tells_text : (items : T → List ℕ) (answer : Result T BytesFault) → IfOk answer (λ text. IfSome (source.remaining old) (MakesText (items text))) →
      IfOk answer (λ text. IsAtEnd (source.remaining new)) → IfOk answer (λ text. TellsText source old new (items text))
  tells_text items (Ok text) told end = record { told = told; end = end }
  tells_text items (Err why) told end = tt

  pub tells_none : (answer : Result T BytesFault) → IfErr answer (IfBytes (λ place cause. IfSome (source.remaining old) (λ bytes. IsFault bytes place cause))) →
      IfErr answer (IfRead (HasFailedSince source.tries source.interrupts source.fails old new)) → IfErr answer (IfUnwritten ⊥) → IfErr answer (TellsNone source old new)
  tells_none (Ok text) faulty unread unwritten = tt
  tells_none (Err why) faulty unread unwritten = record { faulty = faulty; unread = unread; unwritten = unwritten }

  module _ {I : Type 0} (before after : I) (stays : after ≡ before) where
    -- of a file, where the input stays
    pub file_text : (items : T → List ℕ) (answer : Result T BytesFault) → IfOk answer (λ text. TellsText source old new (items text)) →
        IfOk answer (λ text. ((from : R) × (to : R) × TellsText source from to (items text)) × (after ≡ before))
    file_text items (Ok text) told = ((old, new, told), stays)
    file_text items (Err why) told = tt

    pub file_none : (answer : Result T BytesFault) → IfErr answer (TellsNone source old new) →
        IfErr answer (λ why. (((from : R) × (to : R) × TellsNone source from to why) ⊎ IsUnopened why) × (after ≡ before))
    file_none (Ok text) none = tt
    file_none (Err why) none = (inl (old, new, none), stays)

-- no read of bytes in memory fails
never_read : (Fact : Type 0) {S : Type 0} (tries : S → Option ℕ) (old new : S) (why : BytesFault) → IfRead (HasFailedSince tries (λ (a b : S). ⊥) (λ (a b : S). ⊥) old new) why → IfRead Fact why
never_read Fact tries old new (fault.Faulty place cause) failed = tt
never_read Fact tries old new fault.Read failed = absurd (never_failed tries failed.0 new failed.2)
never_read Fact tries old new fault.Write failed = tt
never_read Fact tries old new fault.Memory failed = tt

-- a source that has such bytes
abbrev holds : {T : Type 0} → (T → List ℕ) → reading.Ghosts T
holds left = record { remaining = λ source. Some (left source); tries = λ source. None; reads = λ old bytes new. left old ≡ bytes ++ left new; interrupts = λ old new. ⊥; fails = λ old new. ⊥ }

-- what is shown of it is that of its bytes
module _ {T F S : Type 0} (left : T → List ℕ) (file : F → Option (List ℕ)) (sink : writing.Ghosts S) (from to : T) (old new : S) (bytes : List ℕ) (view : View) (result : Status) where
  pub shows_held : left from ≡ bytes → ShowsBytes (record { source = holds left; file = file; sink = sink }) (record { source_old = from; source_new = to; sink_old = old; sink_new = new }) None view result →
      ShowsBytes (record { source = in_memory; file = file; sink = sink }) (record { source_old = bytes; source_new = []; sink_old = old; sink_new = new }) None view result
  shows_held same (inl shown) = inl (shown.0, record { told = subst (MakesText shown.0) same shown.1.told; end = refl }, shown.2, shown.3, shown.4, shown.5)
  shows_held same (inr refused) =
      inr (
        refused.0,
        record {
          faulty = subst (λ bytes. IfBytes (λ place cause. IsFault bytes place cause) refused.0) same refused.1.faulty;
          unread = never_read _ (λ source. None) from to refused.0 refused.1.unread;
          unwritten = refused.1.unwritten;
        },
        refused.2,
        refused.3,
      )
