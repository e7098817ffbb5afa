-- What is said of why no further note comes.
use Rattle.std.proofs.Common.{ℕ, Option}
use Rattle.text_bytes.specs.Tries.{HasFailedSince, IsNoFewer}
use Rattle.text_bytes.proofs.TryLemmas.{failed_since}
use Rattle.text_feed.specs.declared.fault.FeedCause.{FeedCause}
use Rattle.text_feed.specs.declared.fault.FeedError.{FeedError}
use Rattle.text_feed.specs.declared.fault.FeedError.TheVariants as errors
use Rattle.text_feed.specs.Faults.{IfFaulty, IfRead}

pub IfFaulty-weaker : (error : FeedError) (One Other : FeedCause → Type 0) → ((cause : FeedCause) → One cause → Other cause) → IfFaulty One error → IfFaulty Other error
IfFaulty-weaker errors.Read One Other from is = tt
IfFaulty-weaker errors.Memory One Other from is = tt
IfFaulty-weaker (errors.Faulty cause) One Other from is = from cause is

pub IfRead-weaker : (error : FeedError) (One Other : Type 0) → (One → Other) → IfRead One error → IfRead Other error
IfRead-weaker errors.Read One Other from is = from is
IfRead-weaker errors.Memory One Other from is = tt
IfRead-weaker (errors.Faulty cause) One Other from is = tt

-- a read that failed in a later part of a call failed in the call
pub failed_read : {S : Type 0} (tries : S → Option ℕ) (interrupts fails : S → S → Type 0) (old now new : S) (error : FeedError) → IsNoFewer (tries old) (tries now)
    → IfRead (HasFailedSince tries interrupts fails now new) error → IfRead (HasFailedSince tries interrupts fails old new) error
failed_read tries interrupts fails old now new error few failed = IfRead-weaker error _ _ (failed_since tries interrupts fails old now new few) failed
