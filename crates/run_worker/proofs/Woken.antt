-- A wake that a core sends itself: what it writes, that the core may, and what is left of a worker's room.
use Rattle.run_worker.proofs.Names.{ActsAsItMay, ap, arith, Bool, EachNote, IsBetweenTurns, IsLinked, IsParkedAs, IsReady, IsRecorded, IsServed, JobId, length, LinkedView, List, MayAct, Meaning, NotesNoPoll}
use Rattle.run_worker.proofs.Names.{RecordedView, refl, StaysLinked, subst, sym, TellsNotes, true, WakesOwn, WakesOwnPark, ℕ, [], inr, ◌++◌, ◌+◌, ◌∙◌, ◌∷◌, ◌≡◌, ◌≤◌, ◌||◌, polls_of}
use Rattle.std.specs.Prelude.{false}
use Rattle.base_words.specs.declared.order.Order.TheVariants.{Wake}
use Rattle.base_words.proofs.NameLemmas.{same_as_itself}
use Rattle.base_words.specs.Names.{among, same_name}
use Rattle.base_words.specs.Commands.{job_at}
use Rattle.base_words.specs.Parks.{parked}
use Rattle.actor_core.specs.Agreement.{names_parked}
use Rattle.std.proofs.lemmas.List.{map-append}
use Rattle.run_worker.proofs.Acting.{acts_here}
use Rattle.run_worker.proofs.Serving.{spare_after, unmoved}
use Rattle.run_worker.proofs.Spare.{places_some}

module _ {J T : Type 0} where
  -- a wake that was sent is two notes, and one that was refused is none
  pub own_tells : (job : JobId) (taken : Bool) (old new : LinkedView J T) → WakesOwn job old taken new → TellsNotes taken old.recorded.journal.notes new.recorded.journal.notes
  own_tells job true old new wakes = let longer = ap length wakes.tells.notes in omega (arith, longer)
  own_tells job false old new wakes = ap (λ (view : RecordedView J T). view.journal.notes) wakes.tells.rest

  pub own_few : (job : JobId) (taken : Bool) (old new : LinkedView J T) → WakesOwn job old taken new → length new.recorded.journal.notes ≤ length old.recorded.journal.notes + 2
  own_few job true old new wakes = let longer = ap length wakes.tells.notes in omega (arith, longer)
  own_few job false old new wakes = let same = ap (λ (view : RecordedView J T). length view.journal.notes) wakes.tells.rest in omega (arith, same)

  pub own_notes_none : (job : JobId) (taken : Bool) (old new : LinkedView J T) → WakesOwn job old taken new → NotesNoPoll old.recorded.journal.notes new.recorded.journal.notes
  own_notes_none job true old new wakes = ap polls_of wakes.tells.notes
  own_notes_none job false old new wakes = ap (λ (view : RecordedView J T). polls_of view.journal.notes) wakes.tells.rest

-- a name is among those around it
among_middle : (name : JobId) (before behind : List JobId) → among name (before ++ name ∷ behind) ≡ true
among_middle name [] behind = ap (λ here. here || among name behind) (same_as_itself name)
among_middle name (first ∷ before) behind = by_first (same_name name first) (among_middle name before behind)
  where
    by_first : (here : Bool) → among name (before ++ name ∷ behind) ≡ true → (here || among name (before ++ name ∷ behind)) ≡ true
    by_first true rest = refl
    by_first false rest = rest

module _ {J T : Type 0} {meaning : Meaning J T} (old new : LinkedView J T) (job : JobId) where
  -- a job that is parked in a core is parked in its journal
  parked_told : IsRecorded meaning old.recorded → (it : J) → IsParkedAs old.recorded.core.queues job it → (queue : ℕ) × (among job (parked queue old.recorded.journal.notes) ≡ true)
  parked_told sound it is =
      let before = names_parked is.before in
      let behind = names_parked is.behind in
      let told : parked is.queue old.recorded.journal.notes ≡ before ++ job ∷ behind =
      sym (sound.kept.agrees.parks is.queue) ∙ (ap names_parked is.is_there ∙ map-append (λ entry. entry.0) is.before ((job, it) ∷ is.behind)) in
      (is.queue, ap (among job) told ∙ among_middle job before behind)

  -- so the core may send itself a wake of it, and let go of that
  module _ (name : JobId) (here : job.to ≡ old.recorded.core.core) (from : name.from ≡ old.recorded.core.core) (to : name.to ≡ old.recorded.core.core) where
    its_own : IsRecorded meaning old.recorded → (it : J) → IsParkedAs old.recorded.core.queues job it → WakesOwnPark name (Wake job.from job.number) old.recorded.journal.notes
    its_own sound it is =
        let told = parked_told sound it is in (
          from ∙ sym to,
          (told.0, ap (λ core. among (job_at core job.from job.number) (parked told.0 old.recorded.journal.notes)) (to ∙ sym here) ∙ told.1),
        )

  module _ (linked : IsLinked meaning old) (now : IsLinked meaning new) (was : IsBetweenTurns old.recorded) (between : IsBetweenTurns new.recorded) (stays : StaysLinked old new)
      (ready : IsReady false old.recorded) (acts : ActsAsItMay false old.recorded) where
    -- a worker has room for its end behind a wake, and did only what it may
    pub sent_served : job.to ≡ old.recorded.core.core → (it : J) → IsParkedAs old.recorded.core.queues job it → WakesOwn job old true new → IsServed meaning (record { linked = new; ending = false })
    sent_served here it is wakes =
        let sends = wakes.tells in
        let own = its_own sends.name here sends.from sends.to linked.recorded it is in
        record {
          linked = now;
          between = between;
          provided = spare_after old.recorded new.recorded 2 stays.seat ready (own_few job true old new wakes) (omega (arith, places_some old.recorded.core.cores old.recorded.cap));
          acts = acts_here false old.recorded new.recorded stays.seat (λ least room each. subst (EachNote (MayAct least room)) (sym sends.notes) (inr (refl, own), (inr own, each))) acts;
        }

    -- the same where the link refused it
    pub refused_served : WakesOwn job old false new → IsServed meaning (record { linked = new; ending = false })
    refused_served wakes = unmoved false old new now was ready wakes.tells.rest acts
