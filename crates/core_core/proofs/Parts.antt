-- What holds inside a core, part by part, after each step.
use Rattle.core_core.proofs.Names.{All, All-push, All-same, ap, arith, Bool, cases_eq, ChangesLine, ChangesParks, CoreView, false, IfSome, inl, inr, inserted, is_any, is_number, is_some, is_working, IsListed, IsPollable, IsReady}
use Rattle.core_core.proofs.Names.{IsWithinLimits, JobId, JobOut, KeepsCounts, Key, length, length-append, Line, List, Marks, may_run, Meaning, Moves, no_tally, None, not, number_if, Option, out_count, parked_of, Parks, queue_count}
use Rattle.core_core.proofs.Names.{queue_held, queue_out, refl, slice_index_or, slice_set, Some, subst, sym, Tally, true, waiting_of, ℕ, [], ◌&&◌, ◌++◌, ◌+◌, ◌<◌, ◌||◌, ◌∙◌, ◌∷◌, ◌≡◌, ◌≢◌, ◌⊎◌}
use Rattle.core_core.proofs.Entries.{entry_of, may_run-same, entry_of-same, entry_of-none, entry_of-some, runtime_of-set_other, runtime_of-set_same, IsListed-kept, IsListed-inserted}
use Rattle.core_core.proofs.Held.{work_or_held}

pub both_false : (any out : Bool) → (any || out) ≡ false → (any ≡ false) × (out ≡ false)
both_false true out e = cc
both_false false out e = (refl, e)

-- a queue that has work runs no sooner and no later for more jobs
and_not_same : (any more out : Bool) → (any || out) ≡ true → (any ≡ true → more ≡ true) → (more && not out) ≡ (any && not out)
and_not_same true more out work grows = ap (λ test. test && not out) (grows refl)
and_not_same false true true work grows = refl
and_not_same false false true work grows = refl
and_not_same false more false work grows = cc

module _ {J : Type 0} where
  -- one line changes
  pub IsPollable-changed : {T : Type 0} (meaning : Meaning J T) (old new : CoreView J) (queue : ℕ) (line : Line J) → ChangesLine old.queues new.queues queue line →
      All (λ waiting. IsReady meaning waiting.2) line → IsPollable meaning old → IsPollable meaning new
  IsPollable-changed meaning old new queue line changes each pollable = record {
    at = λ other. by_queue other (cases_eq other queue);
    parked = λ other. All-same (λ parked. IsReady meaning parked.1) (parked_of other new.queues) (parked_of other old.queues) (changes.same_parks other) (pollable.parked other);
  }
    where
      by_queue : (other : ℕ) → (other ≡ queue) ⊎ (other ≡ queue → ⊥) → All (λ waiting. IsReady meaning waiting.2) (waiting_of other new.queues)
      by_queue other (inl same) =
          All-same (λ waiting. IsReady meaning waiting.2) (waiting_of other new.queues) line (ap (λ number. waiting_of number new.queues) same ∙ changes.changed) each
      by_queue other (inr apart) =
          All-same (λ waiting. IsReady meaning waiting.2) (waiting_of other new.queues) (waiting_of other old.queues) (changes.others other apart) (pollable.at other)

  pub IsPollable-pushed : {T : Type 0} (meaning : Meaning J T) (old new : CoreView J) (queue : ℕ) (name : JobId) (marks : Marks) (job : J) →
      ChangesLine old.queues new.queues queue (waiting_of queue old.queues ++ (name, marks, job) ∷ []) →
      IsReady meaning job → IsPollable meaning old → IsPollable meaning new
  IsPollable-pushed meaning old new queue name marks job changes ready pollable =
      IsPollable-changed meaning old new queue (waiting_of queue old.queues ++ (name, marks, job) ∷ []) changes
      (All-push (λ waiting. IsReady meaning waiting.2) (waiting_of queue old.queues) (name, marks, job) (pollable.at queue) ready) pollable

  pub IsPollable-same : {T : Type 0} (meaning : Meaning J T) (old new : CoreView J) → ((queue : ℕ) → waiting_of queue new.queues ≡ waiting_of queue old.queues) →
      ((queue : ℕ) → parked_of queue new.queues ≡ parked_of queue old.queues) → IsPollable meaning old → IsPollable meaning new
  IsPollable-same meaning old new lines parks pollable = record {
    at = λ queue. All-same (λ waiting. IsReady meaning waiting.2) (waiting_of queue new.queues) (waiting_of queue old.queues) (lines queue) (pollable.at queue);
    parked = λ queue. All-same (λ parked. IsReady meaning parked.1) (parked_of queue new.queues) (parked_of queue old.queues) (parks queue) (pollable.parked queue);
  }

  -- a job is parked
  pub IsPollable-parked : {T : Type 0} (meaning : Meaning J T) (old new : CoreView J) (queue : ℕ) (name : JobId) (job : J) →
      ChangesParks old.queues new.queues queue (parked_of queue old.queues ++ (name, job) ∷ []) → IsReady meaning job → IsPollable meaning old → IsPollable meaning new
  IsPollable-parked meaning old new queue name job changes ready pollable = record {
    at = λ other. All-same (λ waiting. IsReady meaning waiting.2) (waiting_of other new.queues) (waiting_of other old.queues) (changes.same_lines other) (pollable.at other);
    parked = λ other. by_queue other (cases_eq other queue);
  }
    where
      by_queue : (other : ℕ) → (other ≡ queue) ⊎ (other ≡ queue → ⊥) → All (λ parked. IsReady meaning parked.1) (parked_of other new.queues)
      by_queue other (inl same) =
          All-same (λ parked. IsReady meaning parked.1) (parked_of other new.queues) (parked_of queue old.queues ++ (name, job) ∷ []) (ap (λ number. parked_of number new.queues) same ∙ changes.changed)
          (All-push (λ parked. IsReady meaning parked.1) (parked_of queue old.queues) (name, job) (pollable.parked queue) ready)
      by_queue other (inr apart) =
          All-same (λ parked. IsReady meaning parked.1) (parked_of other new.queues) (parked_of other old.queues) (changes.others other apart) (pollable.parked other)

  -- parked jobs come to the line of their queue
  pub IsPollable-moved : {T : Type 0} (meaning : Meaning J T) (old new : CoreView J) (queue : ℕ) (line : Line J) (parks : Parks J) → Moves old.queues new.queues queue line parks →
      All (λ waiting. IsReady meaning waiting.2) line → All (λ parked. IsReady meaning parked.1) parks → IsPollable meaning old → IsPollable meaning new
  IsPollable-moved meaning old new queue line parks moves waits rests pollable = record { at = λ other. by_line other (cases_eq other queue); parked = λ other. by_parks other (cases_eq other queue) }
    where
      by_line : (other : ℕ) → (other ≡ queue) ⊎ (other ≡ queue → ⊥) → All (λ waiting. IsReady meaning waiting.2) (waiting_of other new.queues)
      by_line other (inl same) = All-same (λ waiting. IsReady meaning waiting.2) (waiting_of other new.queues) line (ap (λ number. waiting_of number new.queues) same ∙ moves.waits) waits
      by_line other (inr apart) = All-same (λ waiting. IsReady meaning waiting.2) (waiting_of other new.queues) (waiting_of other old.queues) (moves.others other apart) (pollable.at other)

      by_parks : (other : ℕ) → (other ≡ queue) ⊎ (other ≡ queue → ⊥) → All (λ parked. IsReady meaning parked.1) (parked_of other new.queues)
      by_parks other (inl same) = All-same (λ parked. IsReady meaning parked.1) (parked_of other new.queues) parks (ap (λ number. parked_of number new.queues) same ∙ moves.parks_left) rests
      by_parks other (inr apart) = All-same (λ parked. IsReady meaning parked.1) (parked_of other new.queues) (parked_of other old.queues) (moves.other_parks other apart) (pollable.parked other)

  -- jobs come to a queue that has work
  pub IsListed-joins : (old new : CoreView J) (keys : List Key) (queue : ℕ) → ((other : ℕ) → other ≢ queue → waiting_of other new.queues ≡ waiting_of other old.queues) →
      (is_any (waiting_of queue old.queues) ≡ true → is_any (waiting_of queue new.queues) ≡ true) →
      queue_held new ≡ queue_held old → new.tallies ≡ old.tallies → is_working queue old ≡ true → IsListed old keys → IsListed new keys
  IsListed-joins old new keys queue lines grows held tallies work listed =
      IsListed-kept old new keys (λ other. entry_of-same old new other (may other (cases_eq other queue)) (λ i. (slice_index_or (tallies i) other no_tally).runtime)) listed
    where
      may : (other : ℕ) → (other ≡ queue) ⊎ (other ≡ queue → ⊥) → may_run other new ≡ may_run other old
      may other (inr apart) = may_run-same old new other (lines other apart) held
      may other (inl same) =
          let here : (is_any (waiting_of queue new.queues) && not (is_number queue (queue_held old))) ≡ may_run queue old =
          and_not_same (is_any (waiting_of queue old.queues)) (is_any (waiting_of queue new.queues)) (is_number queue (queue_held old)) (work_or_held old queue work) grows in
          ap (λ number. may_run number new) same ∙ ap (λ (number : Option ℕ). is_any (waiting_of queue new.queues) && not (is_number queue number)) held ∙ here ∙ ap (λ number. may_run number old) (sym same)

  -- jobs come to a queue without work
  pub idle_entry : (view : CoreView J) (queue : ℕ) → is_working queue view ≡ false → entry_of view queue ≡ None
  idle_entry view queue idle =
      let parts = both_false (is_any (waiting_of queue view.queues)) (is_number queue (queue_out view.out)) idle in
      entry_of-none view queue (ap (λ test. test && not (is_number queue (queue_held view))) parts.0)

  pub IsListed-activates : (old new : CoreView J) (keys : List Key) (key : Key) (tally : Tally) → ((other : ℕ) → other ≢ key.queue → waiting_of other new.queues ≡ waiting_of other old.queues) →
      is_any (waiting_of key.queue new.queues) ≡ true → queue_held new ≡ queue_held old → new.tallies ≡ slice_set old.tallies key.queue tally → key.queue < length old.tallies → tally.runtime ≡ key.vr →
      is_working key.queue old ≡ false → is_number key.queue (queue_held old) ≡ false → IsListed old keys → IsListed new (inserted key keys)
  IsListed-activates old new keys key tally lines any held tallies within runtime idle apart_from listed =
      IsListed-inserted old new keys key (idle_entry old key.queue idle) here others listed
    where
      may : may_run key.queue new ≡ true
      may = (λ i. any i && not (is_number key.queue (held i))) ∙ ap not apart_from

      here : entry_of new key.queue ≡ Some key.vr
      here = entry_of-some new key.queue may ∙ ap Some (runtime_of-set_same old new key.queue tally tallies within ∙ runtime)

      others : (other : ℕ) → other ≢ key.queue → entry_of new other ≡ entry_of old other
      others other apart =
          entry_of-same old new other (may_run-same old new other (lines other apart) held) (runtime_of-set_other old new key.queue other tally tallies apart)

  -- the counts as a job enters
  pub KeepsCounts-enters : (old new : CoreView J) (inside room places queue : ℕ) (name : JobId) (marks : Marks) (job : J) →
      ChangesLine old.queues new.queues queue (waiting_of queue old.queues ++ (name, marks, job) ∷ []) → IsWithinLimits new.queues → inside < room →
      new.cores ≡ old.cores → new.out ≡ old.out → length new.tallies ≡ length old.tallies → length new.delivered ≡ length old.delivered →
      KeepsCounts old inside room places → KeepsCounts new (inside + 1) room places
  KeepsCounts-enters old new inside room places queue name marks job changes limits space cores out tallies delivered counted = record {
    limits = limits;
    tallies = tallies ∙ counted.tallies ∙ sym changes.same_count;
    senders = delivered ∙ counted.senders ∙ ap (λ n. n + 1) (sym cores);
    all_inside =
        let one : length (waiting_of queue old.queues ++ (name, marks, job) ∷ []) ≡ length (waiting_of queue old.queues) + 1 = length-append (waiting_of queue old.queues) ((name, marks, job) ∷ []) in
        let polls : out_count new ≡ out_count old = λ i. unsettled_of (out i) in
        omega (arith, changes.held, counted.all_inside);
    within_room = omega arith;
    same_room = counted.same_room ∙ sym changes.same_room;
    reserved = counted.reserved;
    out = exists_still;
  }
    where
      unsettled_of : Option (JobOut J) → ℕ
      unsettled_of held = number_if (is_some held)

      exists_still : IfSome new.out (λ job. job.queue < queue_count new.queues)
      exists_still = subst (λ (held : Option (JobOut J)). IfSome held (λ job. job.queue < queue_count new.queues)) (sym out) (subst (λ count. IfSome old.out (λ job. job.queue < count)) (sym changes.same_count) counted.out)
