-- Which status a command line has.
use Rattle.std.proofs.Common.{◌≡◌, ◌≢◌, ◌∷◌, [], List, ℕ, Option, Some, None, Ok, Err, inr}
use Rattle.clap.specs.Kinds.{Kinds}
use Rattle.fair_args.specs.Asks.{Asking}
use Rattle.fair_args.specs.Refusals.{IsReason}
use Rattle.fair_args.specs.declared.unasked.Unasked.{Unasked}
use Rattle.fair_args.specs.declared.unasked.Unasked.TheVariants as unasked
use Rattle.fairview_args.specs.Asks.{Wish}
use Rattle.fairview_args.specs.declared.asked.Journals.{Journals}
use Rattle.fairview_report.specs.Faults.{IfRead, status_of}
use Rattle.fairview_report.specs.declared.fault.ViewFault.{ViewFault}
use Rattle.fairview_report.specs.declared.fault.ViewFault.TheVariants as fault
use Rattle.fairview_report.specs.declared.view.View.{View}
use Rattle.text_bytes.proofs.FaultLemmas.{never_failed}
use Rattle.text_bytes.specs.Tries.{HasFailedSince}
use Rattle.text_parts.specs.Faults.{bytes_status}
use Rattle.text_parts.specs.declared.fault.BytesFault.{BytesFault}
use Rattle.text_parts.specs.declared.fault.BytesFault.TheVariants as bytes
use Rattle.text_words.specs.declared.status.Status.{Status}
use Rattle.text_words.specs.declared.status.Status.TheVariants as status
use Rattle.fairview.specs.Answers.{Answer}
use Rattle.fairview.specs.Ends.{EndsBy, status_unasked}

-- no answer ends as what an audit found
pub no_fault_found : (answer : Answer) → status_of answer ≢ status.FaultFound
no_fault_found (Ok done) is = cc
no_fault_found (Err (fault.Text line cause)) is = cc
no_fault_found (Err (fault.Core core)) is = cc
no_fault_found (Err fault.Read) is = cc
no_fault_found (Err fault.Write) is = cc
no_fault_found (Err fault.Memory) is = cc

-- nor do bytes without a text
pub no_bytes_found : (why : BytesFault) → bytes_status why ≢ status.FaultFound
no_bytes_found (bytes.Faulty place cause) is = cc
no_bytes_found bytes.Read is = cc
no_bytes_found bytes.Write is = cc
no_bytes_found bytes.Memory is = cc

-- a read of a text in memory doesn't fail
pub never_read : {S : Type 0} (tries : S → Option ℕ) (old new : S) (why : ViewFault) → IfRead (HasFailedSince tries (λ (a b : S). ⊥) (λ (a b : S). ⊥) old new) why → IfRead ⊥ why
never_read tries old new (fault.Text line cause) failed = tt
never_read tries old new (fault.Core core) failed = tt
never_read tries old new fault.Read failed = never_failed tries failed.0 new failed.2
never_read tries old new fault.Write failed = tt
never_read tries old new fault.Memory failed = tt

-- nor do words that ask for nothing
pub none_found : (why : Unasked) → status_unasked why ≢ status.FaultFound
none_found unasked.Told is = cc
none_found unasked.Mistake is = cc
none_found unasked.Write is = cc
none_found unasked.Memory is = cc

module _ (shows : Journals → Option (List ℕ) → View → Status → Type 0) (same : Type 0) where
  -- words that ask for nothing end by why they do
  pub ends_unasked : (faults : Kinds) (asked : Option (Asking (Wish × Journals))) (why : Unasked) (result : Status) → IsReason faults why → result ≡ status_unasked why → same → EndsBy shows same faults asked result
  ends_unasked [] (Some asking) unasked.Told result reason is stays = absurd reason.1
  ends_unasked [] (Some asking) unasked.Mistake result reason is stays = absurd reason.1
  ends_unasked [] (Some asking) unasked.Write result reason is stays = absurd reason.1
  ends_unasked [] (Some asking) unasked.Memory result reason is stays = inr (is, stays)
  ends_unasked [] None why result reason is stays = record { why = why; reason = reason; ended = is; stays = stays }
  ends_unasked (kind ∷ faults) asked why result reason is stays = record { why = why; reason = reason; ended = is; stays = stays }
