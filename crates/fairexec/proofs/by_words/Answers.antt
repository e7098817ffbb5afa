use Rattle.std.proofs.Common.{◌≡◌, ◌∷◌, [], List, ℕ, Option, Some, None, inr, inl, map, refl, string_bytes}
use Rattle.clap.specs.Kinds.{Kinds}
use Rattle.fair_args.specs.Asks.{Asking, asks_of}
use Rattle.fair_args.specs.Refusals.{IsReason}
use Rattle.fair_args.specs.declared.unasked.Unasked.{Unasked}
use Rattle.fair_args.specs.declared.unasked.Unasked.TheVariants as unasked
use Rattle.fairexec_args.specs.declared.asked.What.{What}
use Rattle.text_words.specs.declared.status.Status.{Status}
use Rattle.fairexec.specs.Ends.{EndsBy, status_unasked}
use Rattle.clap.specs.Words.{fault_of}
use Rattle.fairexec_args.specs.Asks.{what_named}
use Rattle.fairexec_args.specs.CommandLine.{our_app}
use Rattle.fairexec.proofs.by_words.Goals as goal

module _ (ends : Option (List ℕ) → What → Status → Type 0) (same : Type 0) where
  -- words that ask for nothing end by why they do
  ends_unasked : (faults : Kinds) (asked : Option (Asking What)) (why : Unasked) (result : Status) → IsReason faults why → result ≡ status_unasked why → same → EndsBy ends same faults asked result
  ends_unasked [] (Some asking) unasked.Told result reason is stays = absurd reason.1
  ends_unasked [] (Some asking) unasked.Mistake result reason is stays = absurd reason.1
  ends_unasked [] (Some asking) unasked.Write result reason is stays = absurd reason.1
  ends_unasked [] (Some asking) unasked.Memory result reason is stays = inr (is, stays)
  ends_unasked [] None why result reason is stays = record { why = why; reason = reason; ended = is; stays = stays }
  ends_unasked (kind ∷ faults) asked why result reason is stays = record { why = why; reason = reason; ended = is; stays = stays }

pub returns-in-Ok : goal.returns-in-Ok
returns-in-Ok g c = record { ends = rw (c.told.ensures, c.in-Ok.ensures.faultless, c.in-Ok.ensures.asked) (inl c.followed_or_done.ensures) }

pub returns-in-Err : goal.returns-in-Err
returns-in-Err g c =
    let words = map string_bytes c.args.words.now in
    record { ends = ends_unasked _ _ (fault_of our_app words) (asks_of what_named our_app words) c.in-Err.why c.not_done.result c.in-Err.ensures.why c.not_done.ensures (refl, refl) }
