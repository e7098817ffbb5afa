-- How a command line ends.
use Rattle.std.specs.Prelude.{◌≡◌, ◌⊎◌, ℕ, List, [], Option, Some, Result, Ok, Err}
use Rattle.clap.specs.Kinds.{Kinds}
use Rattle.fair_args.specs.Asks.{Asking}
use Rattle.fair_args.specs.Refusals.{IsReason}
use Rattle.fair_args.specs.declared.unasked.Unasked.{Unasked}
use Rattle.fair_args.specs.declared.unasked.Unasked.TheVariants as unasked
use Rattle.fairview_args.specs.Asks.{Wish}
use Rattle.fairview_args.specs.declared.asked.Journals.{Journals}
use Rattle.fairview_report.specs.Faults.{status_of}
use Rattle.fairview_report.specs.declared.view.View.{View}
use Rattle.text_parts.specs.Faults.{bytes_status}
use Rattle.text_words.specs.declared.status.Status.{Status}
use Rattle.text_words.specs.declared.status.Status.TheVariants as status
use Rattle.fairview.specs.Shows.{view_asked}
use Rattle.fairview.specs.declared.ended.Ended.{Ended}
use Rattle.fairview.specs.declared.ended.Ended.TheVariants.{Shown, Bytes, Word}
use Rattle.fairview.specs.declared.refusal.Refusal.{Refusal}

-- a wrong word is refused, and nothing is read or written; else it ends as what is shown does
abbrev pub EndsFor : (View → Status → Type 0) → Type 0 → Result View Refusal → Status → Type 0
EndsFor shows same (Err refusal) result = (result ≡ status.Refused) × same
EndsFor shows same (Ok view) result = shows view result

-- the status of what came to this
abbrev pub status_ended : Ended → Status
status_ended (Shown answer) = status_of answer
status_ended (Bytes why) = bytes_status why
status_ended (Word refusal) = status.Refused

-- the status of words that ask for nothing
abbrev pub status_unasked : Unasked → Status
status_unasked unasked.Told = status.Done
status_unasked unasked.Mistake = status.Refused
status_unasked unasked.Write = status.Device
status_unasked unasked.Memory = status.Memory

-- words with these faults end so, and nothing is read or written but help
pub record EndsUnasked (faults : Kinds) (same : Type 0) (result : Status) : Type 0 where
  pub why : Unasked
  pub reason : IsReason faults why
  pub ended : result ≡ status_unasked why
  pub stays : same

-- Faultless words end as what they ask for, and faulty ones by a fault. Memory may run out before either is known.
abbrev pub EndsBy : (Journals → Option (List ℕ) → View → Status → Type 0) → Type 0 → Kinds → Option (Asking (Wish × Journals)) → Status → Type 0
EndsBy shows same [] (Some asking) result = EndsFor (shows asking.0.1 asking.1) same (view_asked asking.0.0) result ⊎ ((result ≡ status.Memory) × same)
EndsBy shows same faults asked result = EndsUnasked faults same result
