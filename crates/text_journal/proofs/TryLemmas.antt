-- A failed write of a part of a call.
use Rattle.std.proofs.Common.{ℕ, Option, Result, Ok, Err, IfErr, OnErr}
use Rattle.text_bytes.proofs.TryLemmas.{failed_since}
use Rattle.text_bytes.specs.Tries.{IsNoFewer, HasFailedSince}
use Rattle.text_words.specs.declared.fault.Fault.{Fault}
use Rattle.text_words.specs.declared.fault.Fault.TheVariants.{Text, Read, Write, Memory}
use Rattle.text_words.specs.Faults.{IfUnwritten}

pub unwritten_since : {S C : Type 0} (tries : S → Option ℕ) (interrupts fails : S → S → Type 0) (old now new : S) (fault : Fault C) →
    IsNoFewer (tries old) (tries now) →
    IfUnwritten (HasFailedSince tries interrupts fails now new) fault → IfUnwritten (HasFailedSince tries interrupts fails old new) fault
unwritten_since tries interrupts fails old now new (Text line cause) few failed = tt
unwritten_since tries interrupts fails old now new Read few failed = tt
unwritten_since tries interrupts fails old now new Write few failed = failed_since tries interrupts fails old now new few failed
unwritten_since tries interrupts fails old now new Memory few failed = tt

pub call_unwritten_since : {S C T : Type 0} (tries : S → Option ℕ) (interrupts fails : S → S → Type 0) (old now new : S) (result : Result T (Fault C)) →
    IsNoFewer (tries old) (tries now) →
    IfErr result (IfUnwritten (HasFailedSince tries interrupts fails now new)) → IfErr result (IfUnwritten (HasFailedSince tries interrupts fails old new))
call_unwritten_since tries interrupts fails old now new (Ok value) few failed = tt
call_unwritten_since tries interrupts fails old now new (Err fault) few failed = unwritten_since tries interrupts fails old now new fault few failed

-- what is known of a failed write in any case
pub known_unwritten : {P C T : Type 0} (result : Result T (Fault C)) → P → IfErr result (IfUnwritten P)
known_unwritten (Ok value) known = tt
known_unwritten (Err (Text line cause)) known = tt
known_unwritten (Err Read) known = tt
known_unwritten (Err Write) known = known
known_unwritten (Err Memory) known = tt

-- a part of a call that tells nothing but a failed write
pub written_since : {S C T : Type 0} (tries : S → Option ℕ) (interrupts fails : S → S → Type 0) (old now new : S) (result : Result T (Fault C)) →
    IsNoFewer (tries old) (tries now) →
    OnErr result (HasFailedSince tries interrupts fails now new) → IfErr result (IfUnwritten (HasFailedSince tries interrupts fails old new))
written_since tries interrupts fails old now new (Ok value) few failed = tt
written_since {T = T} tries interrupts fails old now new (Err fault) few failed = known_unwritten {T = T} (Err fault) (failed_since tries interrupts fails old now new few failed)
