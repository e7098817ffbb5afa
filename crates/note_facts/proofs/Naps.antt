-- What a table of parks knows after one more note.
use Rattle.std.proofs.Common.{◌≡◌, ℕ, ◌+◌, ◌<◌, ◌≤◌, ◌⊎◌, inl, inr, Bool, true, false, ◌∷◌, length, refl, sym, ◌∙◌, ap, arith, cond, subst}
use Rattle.std.specs.Prelude.{Option, Some, None, unwrap_or, ◌==◌, ◌&&◌}
use Rattle.std.proofs.lemmas.Bool.{cases_eq, eq-eqb, ne_eqb}
use Rattle.base_words.specs.declared.names.JobId.{JobId}
use Rattle.base_words.specs.declared.note.Note.{Note}
use Rattle.base_words.specs.declared.note.Note.TheVariants.{QueueClosed, CoreClosed, Woken, Park}
use Rattle.base_words.specs.declared.order.Mode.TheVariants.{Finish, Return}
use Rattle.base_words.specs.Journal.{Journal, or_else}
use Rattle.base_words.specs.Names.{same_name, is_number}
use Rattle.base_words.specs.Parks.{ends_parks}
use Rattle.base_words.specs.Work.{queue_of, queue_entered, number_if}
use Rattle.note_facts.specs.declared.endings.Endings.{Endings}
use Rattle.note_facts.specs.declared.parks.Nap.{Nap}
use Rattle.note_facts.specs.declared.parks.Parks.{Parks}
use Rattle.note_facts.specs.Endings.{CountsEndings, core_ended, endings_of, queue_ended}
use Rattle.note_facts.specs.Limits.{greatest_count}
use Rattle.note_facts.specs.Names.{Entries, known, value_under, SetsEntry}
use Rattle.note_facts.specs.Parks.{KnowsParks, KnowsQueues, IsPast, awake, nap_in, nap_of, nap_told, park_of, resting, resting_in, stays_parked}
use Rattle.note_facts.specs.Told.{queue_told}
use Rattle.note_facts.proofs.ReadJobs.{queue_entered-told}

-- the queues of jobs after one more note
pub queues_next : {T : Type 0} (old new : Entries ℕ) (note : Note T) (before : Journal T) → SetsEntry old new (queue_told note) → KnowsQueues old before →
    KnowsQueues new (note ∷ before)
queues_next old new note before sets knows name =
    sets name ∙
    (ap (λ entry. or_else entry (known old name)) (queue_entered-told name note) ∙ ap (or_else (queue_entered name note)) (knows name))

-- a note ends the parks of a queue once, or not at all
ends_once : {T : Type 0} (queue : ℕ) (note : Note T) → number_if (is_number queue (queue_ended note)) + number_if (core_ended note) ≡ number_if (ends_parks queue note)
ends_once queue (QueueClosed other Finish) = by_test (queue == other)
  where
    by_test : (test : Bool) → 0 ≡ number_if (test && false)
    by_test true = refl
    by_test false = refl
ends_once queue (QueueClosed other Return) = by_test (queue == other)
  where
    by_test : (test : Bool) → number_if test + 0 ≡ number_if (test && true)
    by_test true = refl
    by_test false = refl
ends_once queue (CoreClosed mode) = omega arith
ends_once queue note = refl

number_if-within : (test : Bool) → number_if test ≤ 1
number_if-within true = omega arith
number_if-within false = omega arith

-- the same queue, if nothing was ended there since
at_count : (queue now count : ℕ) → now ≡ count → cond (now == count) (Some queue) None ≡ Some queue
at_count queue now count same = ap (λ test. cond test (Some queue) None) (eq-eqb now count same)

past_count : (queue now count : ℕ) → count < now → cond (now == count) (Some queue) None ≡ None
past_count queue now count less = ap (λ test. cond test (Some queue) None) (ne_eqb now count (λ same. absurd (omega (arith, less, same))))

module _ {T : Type 0} (old new : Endings) (note : Note T) (before : Journal T) (counts : CountsEndings old new note) (short : length before < greatest_count)
    (few : (queue : ℕ) → endings_of old queue ≤ length before) where
  -- each ending is counted
  counted : (queue : ℕ) → endings_of new queue ≡ endings_of old queue + number_if (ends_parks queue note)
  counted queue = omega (arith, counts queue, few queue, short, ends_once queue note, number_if-within (ends_parks queue note))

  pub still_few : (queue : ℕ) → endings_of new queue ≤ length before + 1
  still_few queue = omega (arith, counted queue, few queue, number_if-within (ends_parks queue note))

  pub still_past : (nap : Nap) → IsPast old nap → IsPast new nap
  still_past nap past queue here = omega (arith, past queue here, counted queue)

  -- whoever rests in a queue rests there until the parks there are ended
  pub rests_on : (nap : Nap) → IsPast old nap → resting new nap ≡ stays_parked note (resting old nap)
  rests_on nap past = by_queue nap.queue (past)
    where
      by_queue : (queue : Option ℕ) → ((other : ℕ) → queue ≡ Some other → nap.endings ≤ endings_of old other) →
          resting_in new queue nap.endings ≡ stays_parked note (resting_in old queue nap.endings)
      by_queue None past = refl
      by_queue (Some queue) past = by_count (cases_eq (endings_of old queue) nap.endings)
        where
          by_ends : (test : Bool) → ends_parks queue note ≡ test → endings_of old queue ≡ nap.endings →
              cond (endings_of new queue == nap.endings) (Some queue) None ≡ cond test None (Some queue)
          by_ends true ends same = past_count queue (endings_of new queue) nap.endings (omega (arith, counted queue, ap number_if ends, same))
          by_ends false ends same = at_count queue (endings_of new queue) nap.endings (omega (arith, counted queue, ap number_if ends, same))

          by_count : (endings_of old queue ≡ nap.endings) ⊎ (endings_of old queue ≡ nap.endings → ⊥) →
              cond (endings_of new queue == nap.endings) (Some queue) None ≡
              stays_parked note (cond (endings_of old queue == nap.endings) (Some queue) None)
          by_count (inl same) = rw (at_count queue (endings_of old queue) nap.endings same) (by_ends (ends_parks queue note) refl same)
          by_count (inr apart) =
              let less : nap.endings < endings_of old queue = less_than (past queue refl) apart in
              rw (past_count queue (endings_of old queue) nap.endings less)
              (past_count queue (endings_of new queue) nap.endings (omega (arith, counted queue, less)))
            where
              less_than : {count now : ℕ} → count ≤ now → (now ≡ count → ⊥) → count < now
              less_than {count} {now} most apart = by_equal (cases_eq now count)
                where
                  by_equal : (now ≡ count) ⊎ (now ≡ count → ⊥) → count < now
                  by_equal (inl same) = absurd (apart same)
                  by_equal (inr other) = omega (arith, most, other)

  -- a job that a note parks rests in its queue
  rests_in : (park : Option ℕ) → ((queue : ℕ) → ends_parks queue note ≡ false) → resting new (nap_in old park) ≡ park
  rests_in None none = refl
  rests_in (Some queue) none = at_count queue (endings_of new queue) (endings_of old queue) (omega (arith, counted queue, ap number_if (none queue)))

  past_in : (park : Option ℕ) → IsPast new (nap_in old park)
  past_in None queue here = cc
  past_in (Some other) queue here =
      let one : other ≡ queue = cc in
      subst (λ (it : ℕ). endings_of old other ≤ endings_of new it) one (omega (arith, counted other))

-- a nap is right for a job: it rests where the job is parked, and is past
record IsNap (endings : Endings) (nap : Nap) (park : Option ℕ) : Type 0 where
  rests : resting endings nap ≡ park
  past : IsPast endings nap

module _ {T : Type 0} (old new : Parks) (before : Journal T) (short : length before < greatest_count) (knows : KnowsParks old before) where
  -- what was known goes on
  goes_on : (name : JobId) (note : Note T) → CountsEndings old.endings new.endings note → IsNap new.endings (nap_of old name) (stays_parked note (park_of name before))
  goes_on name note counts = record {
    rests =
        rests_on old.endings new.endings note before counts short knows.few (nap_of old name) (knows.past name) ∙ ap (stays_parked note) (knows.naps name);
    past = still_past old.endings new.endings note before counts short knows.few (nap_of old name) (knows.past name);
  }

  -- a job that is parked rests in its queue
  parks_in : (other : JobId) (time : ℕ) → CountsEndings {T = T} old.endings new.endings (Park other time) →
      IsNap new.endings (nap_in old.endings (known old.queues other)) (queue_of other before)
  parks_in other time counts = record {
    rests =
        rests_in old.endings new.endings (Park other time) before counts short knows.few (known old.queues other) (λ queue. refl) ∙ knows.queues other;
    past = past_in old.endings new.endings (Park other time) before counts short knows.few (known old.queues other);
  }

  wakes : IsNap new.endings awake None
  wakes = record { rests = refl; past = λ queue here. cc }

  under_name : (name : JobId) (nap : Nap) (park past : Option ℕ) (test : Bool) → IsNap new.endings nap park → IsNap new.endings (nap_of old name) past →
      IsNap new.endings (unwrap_or (or_else (cond test (Some nap) None) (known old.naps name)) awake) (unwrap_or (cond test (Some park) None) past)
  under_name name nap park past true right going = right
  under_name name nap park past false right going = going

  next_nap : (name : JobId) (note : Note T) → CountsEndings old.endings new.endings note →
      IsNap new.endings (unwrap_or (or_else (value_under name (nap_told old note)) (known old.naps name)) awake) (park_of name (note ∷ before))
  next_nap name (Park other time) counts =
      under_name name (nap_in old.endings (known old.queues other)) (queue_of other before) (stays_parked {T = T} (Park other time) (park_of name before))
      (same_name name other) (parks_in other time counts) (goes_on name (Park other time) counts)
  next_nap name (Woken other) counts =
      under_name name awake None (stays_parked {T = T} (Woken other) (park_of name before)) (same_name name other) wakes
      (goes_on name (Woken other) counts)
  next_nap name note counts = goes_on name note counts

  pub knows_next : (note : Note T) → SetsEntry old.queues new.queues (queue_told note) → SetsEntry old.naps new.naps (nap_told old note) →
      CountsEndings old.endings new.endings note → KnowsParks new (note ∷ before)
  knows_next note queues naps counts = record {
    queues = queues_next old.queues new.queues note before queues knows.queues;
    naps = λ name. (right name).rests;
    past = λ name. (right name).past;
    few = λ queue. omega (arith, still_few old.endings new.endings note before counts short knows.few queue);
  }
    where
      right : (name : JobId) → IsNap new.endings (nap_of new name) (park_of name (note ∷ before))
      right name =
          subst (λ (it : Option Nap). IsNap new.endings (unwrap_or it awake) (park_of name (note ∷ before))) (sym (naps name)) (next_nap name note counts)
