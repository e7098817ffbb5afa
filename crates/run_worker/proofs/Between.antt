-- A step that notes no poll opens no turn.
use Rattle.run_worker.proofs.Names.{ap, arith, Bool, false, Grows, has_bursts, IsBetweenTurns, IsOpening, JobId, Journal, length, LinkedView, List, name_polled, None, Note, NotesNoPoll, Option, polls_of, queue_begun_last, queue_in_turn}
use Rattle.run_worker.proofs.Names.{RecordedView, refl, Some, StaysLinked, subst, suc, sym, true, with_poll, ℕ, [], ◌++◌, ◌∙◌, ◌∷◌, ◌≡◌, ◌≤◌}
use Rattle.std.specs.Prelude.{if◌then◌else◌}
use Rattle.base_words.specs.declared.note.Note.TheVariants as writes

-- one poll more, or none
no_fewer : (name : Option JobId) (polls : List JobId) → length polls ≤ length (with_poll name polls)
no_fewer None polls = omega arith
no_fewer (Some name) polls = omega arith

-- none if no turn is begun, whatever a turn needs
pub in_form : (form : Bool) (one two : Option ℕ) → (one ≡ None → two ≡ None) → (if form then one else None) ≡ None → (if form then two else None) ≡ None
in_form true one two keeps none = keeps none
in_form false one two keeps none = refl

module _ {T : Type 0} where
  polls_stay : (newer old : Journal T) → length (polls_of old) ≤ length (polls_of (newer ++ old))
  polls_stay [] old = omega arith
  polls_stay (note ∷ newer) old = let rest = polls_stay newer old in let one = no_fewer (name_polled note) (polls_of (newer ++ old)) in omega (arith, rest, one)

  -- where no poll was noted, each note by itself notes none
  none_each : (name : Option JobId) (newer old : Journal T) → with_poll name (polls_of (newer ++ old)) ≡ polls_of old → (name ≡ None) × (polls_of (newer ++ old) ≡ polls_of old)
  none_each None newer old same = (refl, same)
  none_each (Some name) newer old same =
      let rest = polls_stay newer old in
      let longer : suc (length (polls_of (newer ++ old))) ≡ length (polls_of old) = ap length same in
      absurd (omega (arith, rest, longer))

  -- a note that begins no poll begins no turn
  none_begun : (note : Note T) (before : Journal T) → name_polled note ≡ None → queue_begun_last before ≡ None → queue_begun_last (note ∷ before) ≡ None
  none_begun (writes.Start name) before none was = cc
  none_begun (writes.Resume name) before none was = cc
  none_begun (writes.Pick queue runtime) before none was = refl
  none_begun (writes.Turned queue time) before none was = refl
  none_begun _ before none was = was

  still_none : (newer old : Journal T) → NotesNoPoll old (newer ++ old) → queue_begun_last old ≡ None → queue_begun_last (newer ++ old) ≡ None
  still_none [] old same was = was
  still_none (note ∷ newer) old same was = let each = none_each (name_polled note) newer old same in none_begun note (newer ++ old) each.0 (still_none newer old each.1 was)

  -- notes that begin no poll leave no turn open
  pub still_between : (burst : ℕ) (old new : Journal T) → Grows old new → NotesNoPoll old new → queue_in_turn burst old ≡ None → queue_in_turn burst new ≡ None
  still_between burst old new grows none was =
      rw grows.1 (in_form (has_bursts burst) (queue_begun_last old) (queue_begun_last (grows.0 ++ old)) (still_none grows.0 old (subst (NotesNoPoll old) grows.1 none)) was)

  -- creations open no turn
  none_created : (notes : Journal T) → IsOpening notes → queue_begun_last notes ≡ None
  none_created [] opening = refl
  none_created (writes.Created queue weight ∷ before) opening = none_created before opening
  none_created (_ ∷ before) opening = absurd opening

  pub opening_between : (burst : ℕ) (notes : Journal T) → IsOpening notes → queue_in_turn burst notes ≡ None
  opening_between burst notes opening = by_form (has_bursts burst)
    where
      by_form : (form : Bool) → (if form then queue_begun_last notes else None) ≡ None
      by_form true = none_created notes opening
      by_form false = refl

module _ {J T : Type 0} where
  -- the same of a core whose turns may have as many polls as before
  pub between_kept : (old new : RecordedView J T) → new.core.bursts.burst ≡ old.core.bursts.burst → Grows old.journal.notes new.journal.notes → NotesNoPoll old.journal.notes new.journal.notes → IsBetweenTurns old → IsBetweenTurns new
  between_kept old new same grows none was =
      subst (λ burst. queue_in_turn burst new.journal.notes ≡ None) (sym same) (still_between old.core.bursts.burst old.journal.notes new.journal.notes grows none was)

  pub between_behind : (old new : LinkedView J T) → StaysLinked old new → NotesNoPoll old.recorded.journal.notes new.recorded.journal.notes → IsBetweenTurns old.recorded → IsBetweenTurns new.recorded
  between_behind old new stays none = between_kept old.recorded new.recorded stays.seat.burst stays.grows none

  -- the same core has no turn open
  pub between_same : (old new : RecordedView J T) → new ≡ old → IsBetweenTurns old → IsBetweenTurns new
  between_same old new is = subst IsBetweenTurns (sym is)

  -- and none with the same notes
  pub between_notes : (old new : RecordedView J T) → new.core.bursts.burst ≡ old.core.bursts.burst → new.journal.notes ≡ old.journal.notes → IsBetweenTurns old → IsBetweenTurns new
  between_notes old new burst notes between = ap (λ burst. queue_in_turn burst new.journal.notes) burst ∙ (ap (queue_in_turn old.core.bursts.burst) notes ∙ between)
