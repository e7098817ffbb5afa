-- What holds inside a core as the job that is out comes back.
use Rattle.core_core.proofs.Names.{All, All-set, All-weaker, ap, arith, Bool, cases_eq, CoreView, false, FitsTurns, inl, inr, inserted, is_any, is_number, is_some, IsListed, IsWithinTurns, JobOut, Key, length, List, may_run, None, not}
use Rattle.core_core.proofs.Names.{number_if, Option, queue_held, refl, slice_set, Some, subst, sym, Tally, true, unsettled_count, waiting_of, ℕ, ◌&&◌, ◌<◌, ◌∙◌, ◌≡◌, ◌≢◌, ◌⊎◌}
use Rattle.core_core.proofs.Listed.{eqb-self, eqb-apart}
use Rattle.core_core.proofs.Entries.{entry_of, held_entry, entry_of-same, entry_of-none, entry_of-some, runtime_of-set_other, runtime_of-set_same, IsListed-kept, IsListed-inserted}
use Rattle.core_core.proofs.Fits.{settled_fits}
use Rattle.core_core.proofs.Held.{held_out}

module _ {J : Type 0} where
  -- a queue that is held isn't listed
  pub held_entry_at : (view : CoreView J) (queue : ℕ) → queue_held view ≡ Some queue → entry_of view queue ≡ None
  held_entry_at view queue is = held_entry view queue (ap (is_number queue) is ∙ eqb-self queue)

  -- that of the job that is out isn't
  pub out_entry : (view : CoreView J) (out : JobOut J) → view.out ≡ Some out → entry_of view out.queue ≡ None
  out_entry view out is = held_entry_at view out.queue (held_out view out is)

  -- the others are listed alike, whether this queue is held or none is
  pub may_run-other : (one free : CoreView J) (queue other : ℕ) → queue_held one ≡ Some queue → queue_held free ≡ None → other ≢ queue →
      waiting_of other one.queues ≡ waiting_of other free.queues → may_run other one ≡ may_run other free
  may_run-other one free queue other is none apart line =
      ap (λ (held : Option ℕ). is_any (waiting_of other one.queues) && not (is_number other held)) is
      ∙ ap (λ test. is_any (waiting_of other one.queues) && not test) (eqb-apart other queue apart)
      ∙ ap (λ waiting. is_any waiting && true) line
      ∙ sym (ap (λ (held : Option ℕ). is_any (waiting_of other free.queues) && not (is_number other held)) none)

  pub may_run-free : (view : CoreView J) (queue : ℕ) (any : Bool) → queue_held view ≡ None → is_any (waiting_of queue view.queues) ≡ any → may_run queue view ≡ any
  may_run-free view queue any none is =
      ap (λ (held : Option ℕ). is_any (waiting_of queue view.queues) && not (is_number queue held)) none ∙ ap (λ test. test && true) is ∙ and_true any
    where
      and_true : (test : Bool) → (test && true) ≡ test
      and_true true = refl
      and_true false = refl

  module _ (old new : CoreView J) (keys : List Key) (queue : ℕ) (tally : Tally) (was_held : queue_held old ≡ Some queue) (free : queue_held new ≡ None)
      (lines : (other : ℕ) → other ≢ queue → waiting_of other new.queues ≡ waiting_of other old.queues)
      (tallies : new.tallies ≡ slice_set old.tallies queue tally) (listed : IsListed old keys) where
    others : (other : ℕ) → other ≢ queue → entry_of new other ≡ entry_of old other
    others other apart =
        entry_of-same old new other (sym (may_run-other old new queue other was_held free apart (sym (lines other apart)))) (runtime_of-set_other old new queue other tally tallies apart)

    -- a job waits in its queue: the queue is listed again, at its new virtual runtime
    pub IsListed-again : queue < length old.tallies → is_any (waiting_of queue new.queues) ≡ true →
        IsListed new (inserted (record { vr = tally.runtime; queue = queue }) keys)
    IsListed-again within any =
        let here : entry_of new queue ≡ Some tally.runtime =
        entry_of-some new queue (may_run-free new queue true free any) ∙ ap Some (runtime_of-set_same old new queue tally tallies within) in
        IsListed-inserted old new keys (record { vr = tally.runtime; queue = queue }) (held_entry_at old queue was_held) here others listed

    -- no job waits in its queue
    pub IsListed-no_more : is_any (waiting_of queue new.queues) ≡ false → IsListed new keys
    IsListed-no_more none =
        IsListed-kept old new keys (λ other. by_queue other (cases_eq other queue)) listed
      where
        by_queue : (other : ℕ) → (other ≡ queue) ⊎ (other ≡ queue → ⊥) → entry_of new other ≡ entry_of old other
        by_queue other (inl same) =
            ap (λ number. entry_of new number) same ∙ entry_of-none new queue (may_run-free new queue false free none) ∙ sym (held_entry_at old queue was_held) ∙ ap (λ number. entry_of old number) (sym same)
        by_queue other (inr apart) = others other apart

  -- the turn that wasn't charged yet is
  pub IsWithinTurns-settles : (old new : CoreView J) (held queue : ℕ) (tally : Tally) → queue_held old ≡ Some held → queue_held new ≡ None → new.turns ≡ old.turns → new.floor ≡ old.floor →
      new.tallies ≡ slice_set old.tallies queue tally → FitsTurns old.turns 0 tally → IsWithinTurns old → IsWithinTurns new
  IsWithinTurns-settles old new held queue tally was_held free turns floor tallies fits within =
      let polls : unsettled_count old ≡ 1 = ap (λ (one : Option ℕ). number_if (is_some one)) was_held in
      let none : unsettled_count new ≡ 0 = ap (λ (one : Option ℕ). number_if (is_some one)) free in
      let before : All (FitsTurns old.turns 1) old.tallies = subst (λ count. All (FitsTurns old.turns count) old.tallies) polls within.tallies in
      let after : All (FitsTurns old.turns 0) (slice_set old.tallies queue tally) =
      All-set (FitsTurns old.turns 0) old.tallies queue tally fits (All-weaker (FitsTurns old.turns 1) (FitsTurns old.turns 0) (settled_fits old.turns) old.tallies before) in
      record {
        tallies = rw (turns, none, tallies) after;
        floor = rw (turns, none, floor) (omega (arith, within.floor, polls));
      }

  -- it still isn't
  pub IsWithinTurns-held : (old new : CoreView J) (held queue : ℕ) (tally : Tally) → queue_held old ≡ Some held → queue_held new ≡ Some held → new.turns ≡ old.turns → new.floor ≡ old.floor →
      new.tallies ≡ slice_set old.tallies queue tally → FitsTurns old.turns 1 tally → IsWithinTurns old → IsWithinTurns new
  IsWithinTurns-held old new held queue tally was_held is_held turns floor tallies fits within =
      let polls : unsettled_count old ≡ 1 = ap (λ (one : Option ℕ). number_if (is_some one)) was_held in
      let still : unsettled_count new ≡ 1 = ap (λ (one : Option ℕ). number_if (is_some one)) is_held in
      let before : All (FitsTurns old.turns 1) old.tallies = subst (λ count. All (FitsTurns old.turns count) old.tallies) polls within.tallies in
      record {
        tallies = rw (turns, still, tallies) (All-set (FitsTurns old.turns 1) old.tallies queue tally fits before);
        floor = rw (turns, still, floor) (omega (arith, within.floor, polls));
      }

  -- and nothing that is counted changes
  pub IsWithinTurns-kept : (old new : CoreView J) (held : ℕ) → queue_held old ≡ Some held → queue_held new ≡ Some held → new.turns ≡ old.turns → new.floor ≡ old.floor → new.tallies ≡ old.tallies → IsWithinTurns old → IsWithinTurns new
  IsWithinTurns-kept old new held was_held is_held turns floor tallies within =
      let polls : unsettled_count old ≡ 1 = ap (λ (one : Option ℕ). number_if (is_some one)) was_held in
      let still : unsettled_count new ≡ 1 = ap (λ (one : Option ℕ). number_if (is_some one)) is_held in
      record {
        tallies = rw (turns, still, tallies) (subst (λ count. All (FitsTurns old.turns count) old.tallies) polls within.tallies);
        floor = rw (turns, still, floor) (omega (arith, within.floor, polls));
      }
