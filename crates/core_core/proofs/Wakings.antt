-- A wake of a job that isn't out: what it came to, and what holds inside then.
use Rattle.core_core.proofs.Names.{ap, arith, awake, Bool, CoreView, false, FitsTurns, HoldsNone, inl, inr, is_number, is_out, is_working, IsCore, IsWithinLimits, JobId, KeepsWake, Key, keys_after, length, List, Meaning, nat_lt, not}
use Rattle.core_core.proofs.Names.{placed, queue_open, queue_out, QueuesView, refl, slice_index_or, slice_set, slips_after, subst, sym, Tally, true, unsettled_count, waiting_of, Wakes, WakesParked, ℕ, [], ◌++◌, ◌<◌, ◌||◌, ◌∙◌, ◌∷◌, ◌≡◌}
use Rattle.core_core.proofs.Entries.{is_any-push}
use Rattle.core_core.proofs.Fits.{placed_fits}
use Rattle.core_core.proofs.Moved.{IsCore-joined, IsCore-activated, IsCore-kept}
use Rattle.core_core.proofs.Woken.{had_work, woken_exists, ready_woken, EndsPark-busy, EndsPark-idle}

module _ {J T : Type 0} (meaning : Meaning J T) (old : CoreView J) (queues : QueuesView J) (slips : List Bool) (keys : List Key) (inside room places : ℕ) (core : IsCore meaning old slips keys inside room places)
    (name : JobId) (not_out : is_out name old ≡ false) where
  -- no queue holds the job
  pub wakes_nobody : HoldsNone old.queues name → queues ≡ old.queues → Wakes old name false (record old { queues = queues }) × IsCore meaning (record old { queues = queues }) slips keys inside room places
  wakes_nobody none same = (
    ((not_out, none), λ i. record old { queues = same i }),
    subst (λ (one : QueuesView J). IsCore meaning (record old { queues = one }) slips keys inside room places) (sym same) core,
  )

  -- the job waits
  pub wakes_waiting : KeepsWake old.queues queues name → IsWithinLimits queues → Wakes old name true (record old { queues = queues }) × IsCore meaning (record old { queues = queues }) slips keys inside room places
  wakes_waiting keeps limits = (
    inr (not_out, inl (record { keeps = keeps; rest = refl })),
    IsCore-kept meaning old queues slips keys inside room places core keeps.queue name keeps.marks keeps.job keeps.before keeps.behind keeps.was keeps.line limits,
  )

  module _ (queue : ℕ) (wakes : WakesParked old.queues queues name queue) (limits : IsWithinLimits queues) where
    -- whether another job waits in its queue then, or one of it is out, says whether the queue had work
    pub work_told : (others : Bool) → others ≡ (nat_lt 1 (length (waiting_of queue queues)) || is_number queue (queue_out old.out)) → is_working queue old ≡ others
    work_told others told = sym (told ∙ had_work old queues queue (awake (name, wakes.job)) wakes.moves.waits)

    -- the job is parked in a queue that has work
    pub wakes_busy : (others : Bool) → others ≡ (nat_lt 1 (length (waiting_of queue queues)) || is_number queue (queue_out old.out)) → others ≡ true →
        Wakes old name true (record old { queues = queues }) × IsCore meaning (record old { queues = queues }) slips keys inside room places
    wakes_busy others told some =
        let work = work_told others told ∙ some in
        let ready = ready_woken meaning old queues queue name wakes core.pollable in (
          inr (not_out, inr (EndsPark-busy old queues queue name wakes work)),
          IsCore-joined meaning old queues slips keys inside room places core queue (waiting_of queue old.queues ++ awake (name, wakes.job) ∷ []) (wakes.before ++ wakes.behind) wakes.moves limits ready.0 ready.1
              (λ some. is_any-push (waiting_of queue old.queues) (awake (name, wakes.job))) work,
        )

    -- it is parked in one without work, which is placed, and listed unless its turn is open
    pub wakes_idle : (others : Bool) → others ≡ (nat_lt 1 (length (waiting_of queue queues)) || is_number queue (queue_out old.out)) → others ≡ false → (place : ℕ) (was : Tally) (vr : ℕ) → place ≡ queue →
        was ≡ slice_index_or old.tallies place was → vr ≡ placed was.runtime old.floor →
        Wakes old name true (record old { queues = queues; tallies = slice_set old.tallies place (record was { runtime = vr }) })
        × IsCore meaning (record old { queues = queues; tallies = slice_set old.tallies queue (record was { runtime = vr }) })
        (slips_after (not (is_number queue (queue_open old.bursts.open))) queue slips) (keys_after (not (is_number queue (queue_open old.bursts.open))) vr queue keys) inside room places
    wakes_idle others told none place was vr at read is =
        let idle = work_told others told ∙ none in
        let exists = woken_exists old queues queue name wakes in
        let within : place < length old.tallies = omega (arith, at, core.counted.tallies, exists) in
        let ready = ready_woken meaning old queues queue name wakes core.pollable in
        let tally : Tally = record was { runtime = vr } in
        let before : FitsTurns old.turns (unsettled_count old) was = subst (FitsTurns old.turns (unsettled_count old)) (sym read) (core.turns.tallies place was within) in
        let fits : FitsTurns old.turns (unsettled_count old) tally =
        subst (λ (runtime : ℕ). FitsTurns old.turns (unsettled_count old) (record was { runtime = runtime })) (sym is) (placed_fits old.turns (unsettled_count old) old.floor was false before core.turns.floor) in (
          inr (not_out, inr (EndsPark-idle old queues queue place name was tally wakes idle at within read (ap (λ (runtime : ℕ). record was { runtime = runtime }) is))),
          IsCore-activated meaning old queues slips keys inside room places core (record { vr = vr; queue = queue }) tally (waiting_of queue old.queues ++ awake (name, wakes.job) ∷ []) (wakes.before ++ wakes.behind) wakes.moves limits
              ready.0 ready.1 (is_any-push (waiting_of queue old.queues) (awake (name, wakes.job))) idle exists refl fits (is_number queue (queue_open old.bursts.open)) refl,
        )
