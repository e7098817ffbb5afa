-- What a wake came to, from what the queues did.
use Rattle.core_core.proofs.Names.{All, All-push, ap, arith, awake, Bool, CoreView, EndsPark, false, is_any, is_name, is_number, is_out, is_working, IsCore, IsPollable, IsReady, JobId, JobOut, Key, length, length-append, Line, List, lt-ltb}
use Rattle.core_core.proofs.Names.{Marks, Meaning, name_out, nat_lt, one_name, Option, Parks, placed, queue_count, queue_exists_where_parked, queue_out, QueuesView, refl, slice_index_or, slice_set, Some, subst, sym, Tally, true, true≢false}
use Rattle.core_core.proofs.Names.{waiting_of, WakesParked, ℕ, [], ◌++◌, ◌<◌, ◌||◌, ◌∙◌, ◌∷◌, ◌≡◌}
use Rattle.core_core.proofs.Entered.{stays_placed, is_placed}
use Rattle.core_core.proofs.Moved.{is_any-middle, All-middle}

-- whether there is more than the one that came last
more_than_last : {A : Type 0} (items : List A) (last : A) → nat_lt 1 (length (items ++ last ∷ [])) ≡ is_any items
more_than_last [] last = refl
more_than_last (first ∷ items) last = lt-ltb 1 (length (first ∷ items ++ last ∷ [])) (omega (arith, length-append items (last ∷ [])))

module _ {J : Type 0} where
  -- the job that is out has this name
  pub name_if_out : (name : JobId) (view : CoreView J) (out : JobOut J) → view.out ≡ Some out → is_out name view ≡ true → name ≡ out.name
  name_if_out name view out was_out there = one_name name out.name (sym (ap (λ (held : Option (JobOut J)). is_name name (name_out held)) was_out) ∙ there)

  -- the wake of the job that is out changes nothing of what holds inside
  pub IsCore-out_woken : {T : Type 0} (meaning : Meaning J T) (old : CoreView J) (slips : List Bool) (keys : List Key) (inside room places : ℕ) (out : JobOut J) → old.out ≡ Some out →
      IsCore meaning old slips keys inside room places → IsCore meaning (record old { out = Some (record out { woken = true }) }) slips keys inside room places
  IsCore-out_woken {T} meaning old slips keys inside room places out is was = record {
    counted = record {
      limits = core.counted.limits;
      tallies = core.counted.tallies;
      senders = core.counted.senders;
      all_inside = core.counted.all_inside;
      within_room = core.counted.within_room;
      same_room = core.counted.same_room;
      reserved = core.counted.reserved;
      out = core.counted.out;
    };
    listed = record { at = core.listed.at };
    slipped = core.slipped;
    pollable = record { at = core.pollable.at; parked = core.pollable.parked };
    turns = record { tallies = core.turns.tallies; floor = core.turns.floor };
    turning = record { single = core.turning.single; polled = core.turning.polled; exists = core.turning.exists };
  }
    where
      core : IsCore meaning (record old { out = Some out }) slips keys inside room places
      core = subst (λ (found : Option (JobOut J)). IsCore meaning (record old { out = found }) slips keys inside room places) is was

  -- whether a queue had work before a job came to its line
  pub had_work : (old : CoreView J) (queues : QueuesView J) (queue : ℕ) (last : JobId × Marks × J) → waiting_of queue queues ≡ waiting_of queue old.queues ++ last ∷ [] →
      (nat_lt 1 (length (waiting_of queue queues)) || is_number queue (queue_out old.out)) ≡ is_working queue old
  had_work old queues queue last is =
      ap (λ (line : Line J). nat_lt 1 (length line) || is_number queue (queue_out old.out)) is ∙ ap (λ any. any || is_number queue (queue_out old.out)) (more_than_last (waiting_of queue old.queues) last)

  -- the queue of a parked job exists
  pub woken_exists : (old : CoreView J) (queues : QueuesView J) (queue : ℕ) (name : JobId) → WakesParked old.queues queues name queue → queue < queue_count old.queues
  woken_exists old queues queue name wakes =
      queue_exists_where_parked queue old.queues (λ none. true≢false (sym (is_any-middle wakes.before (name, wakes.job) wakes.behind) ∙ ap is_any (sym wakes.was ∙ none)))

  -- what may be polled then
  pub ready_woken : {T : Type 0} (meaning : Meaning J T) (old : CoreView J) (queues : QueuesView J) (queue : ℕ) (name : JobId) (wakes : WakesParked old.queues queues name queue) → IsPollable meaning old →
      All (λ waiting. IsReady meaning waiting.2) (waiting_of queue old.queues ++ awake (name, wakes.job) ∷ []) × All (λ parked. IsReady meaning parked.1) (wakes.before ++ wakes.behind)
  ready_woken meaning old queues queue name wakes pollable =
      let all : All (λ parked. IsReady meaning parked.1) (wakes.before ++ (name, wakes.job) ∷ wakes.behind) = subst (λ (parks : Parks J). All (λ parked. IsReady meaning parked.1) parks) wakes.was (pollable.parked queue) in
      let both = All-middle (λ parked. IsReady meaning parked.1) wakes.before (name, wakes.job) wakes.behind all in
      (All-push (λ waiting. IsReady meaning waiting.2) (waiting_of queue old.queues) (awake (name, wakes.job)) (pollable.at queue) both.0, both.1)

  -- a parked job of a queue that has work is woken
  pub EndsPark-busy : (old : CoreView J) (queues : QueuesView J) (queue : ℕ) (name : JobId) → WakesParked old.queues queues name queue → is_working queue old ≡ true → EndsPark old name (record old { queues = queues })
  EndsPark-busy old queues queue name wakes work = record {
    queue = queue;
    exists = woken_exists old queues queue name wakes;
    wakes = wakes;
    rest = λ i. record old { queues = queues; tallies = sym (stays_placed old queue work) i };
  }

  -- one of a queue without work is, and the queue is placed
  pub EndsPark-idle : (old : CoreView J) (queues : QueuesView J) (queue place : ℕ) (name : JobId) (was tally : Tally) → WakesParked old.queues queues name queue → is_working queue old ≡ false → place ≡ queue →
      place < length old.tallies → was ≡ slice_index_or old.tallies place was → tally ≡ record was { runtime = placed was.runtime old.floor } →
      EndsPark old name (record old { queues = queues; tallies = slice_set old.tallies place tally })
  EndsPark-idle old queues queue place name was tally wakes idle at within read is = record {
    queue = queue;
    exists = woken_exists old queues queue name wakes;
    wakes = wakes;
    rest = λ i. record old { queues = queues; tallies = is_placed old queue place was tally idle at within read is i };
  }
