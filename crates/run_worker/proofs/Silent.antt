-- Silent notes ring nobody, and set and lose no timer where none is set.
use Rattle.run_worker.proofs.Names.{HearsNotes, inr, List, Note, Option, refl, rung_for, Timers, ℕ, [], ◌∷◌, ◌≡◌}
use Rattle.std.specs.Prelude.{All}
use Rattle.std.proofs.lemmas.List.Elements.{All-head, All-tail}
use Rattle.base_words.specs.declared.note.Note.TheVariants.{Pick, Resume, Start, Turned, Yield}
use Rattle.core_queues.specs.View.{QueuesView}
use Rattle.core_timers.specs.Timers.{IsVacant}
use Rattle.run_worker.proofs.Due.{vacant_lacks}
use Rattle.run_worker.specs.Timing.{IsSilent}

module _ {T : Type 0} where
  pub silent_rings : (notes : List (Note T)) → All IsSilent notes → (rung : List ℕ) → rung_for notes rung ≡ rung
  silent_rings [] each rung = refl
  silent_rings (Pick queue vr ∷ later) each rung = silent_rings later (All-tail IsSilent _ later each) rung
  silent_rings (Start name ∷ later) each rung = silent_rings later (All-tail IsSilent _ later each) rung
  silent_rings (Resume name ∷ later) each rung = silent_rings later (All-tail IsSilent _ later each) rung
  silent_rings (Yield name time ∷ later) each rung = silent_rings later (All-tail IsSilent _ later each) rung
  silent_rings (Turned queue time ∷ later) each rung = silent_rings later (All-tail IsSilent _ later each) rung
  silent_rings (_ ∷ later) each rung = absurd (All-head IsSilent _ later each)

  module _ {J : Type 0} (sleeps : J → Option ℕ) (queues : QueuesView J) (reading : ℕ) (timers : Timers) (vacant : IsVacant timers) where
    pub silent_hears : (notes : List (Note T)) → All IsSilent notes → HearsNotes sleeps queues reading notes timers timers
    silent_hears [] each = refl
    silent_hears (Pick queue vr ∷ later) each = (timers, refl, silent_hears later (All-tail IsSilent _ later each))
    silent_hears (Start name ∷ later) each = (timers, refl, silent_hears later (All-tail IsSilent _ later each))
    silent_hears (Resume name ∷ later) each = (timers, inr (vacant_lacks timers name vacant, refl), silent_hears later (All-tail IsSilent _ later each))
    silent_hears (Yield name time ∷ later) each = (timers, refl, silent_hears later (All-tail IsSilent _ later each))
    silent_hears (Turned queue time ∷ later) each = (timers, refl, silent_hears later (All-tail IsSilent _ later each))
    silent_hears (_ ∷ later) each = absurd (All-head IsSilent _ later each)
