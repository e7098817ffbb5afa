-- A worker of a core that was just opened: no turn is open, and the core never closed by itself.
use Rattle.run_worker.proofs.Names.{ActsByCommand, ap, arith, CreatesSince, EachNote, EndsView, HasPlaces, IsBetweenTurns, IsOpenedOver, IsOpening, Journal, least_free, least_room, length, LinkedView, MayAct, Meaning, opened_beside}
use Rattle.run_worker.proofs.Names.{RecordedView, Terms, ℕ, [], ◌*◌, ◌+◌, ◌∷◌, ◌≡◌, ◌≤◌}
use Rattle.base_words.specs.declared.note.Note.TheVariants.{Created}
use Rattle.run_worker.proofs.Between.{opening_between}

module _ {T : Type 0} where
  -- a creation closes nothing
  pub opening_acts : (least room : ℕ) (notes : Journal T) → IsOpening notes → EachNote (MayAct least room) notes
  opening_acts least room [] opening = tt
  opening_acts least room (Created queue weight ∷ before) opening = (tt, opening_acts least room before opening)
  opening_acts least room (_ ∷ before) opening = absurd opening

module _ {J T : Type 0} {meaning : Meaning J T} (core cores cap burst room count : ℕ) (recorded : RecordedView J T)
    (created : CreatesSince meaning count (opened_beside core cores cap room burst) recorded) where
  -- no turn is open yet
  pub opened_between : IsBetweenTurns recorded
  opened_between = opening_between recorded.core.bursts.burst recorded.journal.notes created.opening

  pub opened_acts : ActsByCommand recorded.journal.notes
  opened_acts = opening_acts 0 0 recorded.journal.notes created.opening

module _ {J T : Type 0} where
  -- there are places for two rounds
  pub opened_places : (cores cap burst room count : ℕ) (ends : EndsView J T) (worker : LinkedView J T) → IsOpenedOver cores cap burst room ends worker → least_room cores cap burst + count ≤ room → HasPlaces worker.recorded
  opened_places cores cap burst room count ends worker over enough =
      let least : 2 * least_free worker.recorded.core.cores worker.recorded.cap worker.recorded.core.bursts.burst ≡ 2 * least_free cores cap burst = ap (λ (terms : Terms). 2 * least_free terms.cores terms.cap terms.burst) over.of.terms in
      let none : length worker.recorded.journal.passed ≡ 0 = ap length over.of.none_passed in
      omega (arith, enough, least, none, over.of.room_is)
