-- What holds inside a core as its next job goes out and comes back, from one view to the next.
use Rattle.core_core.proofs.Names.{All, All-head, All-tail, ap, arith, begun, Bool, ChangesLine, ChangesParks, CoreView, false, FitsTurns, IfUndone, inserted, is_any, is_done_step, is_some, IsCore, IsFrontReady, IsPollable, IsReady}
use Rattle.core_core.proofs.Names.{IsWithinLimits, JobId, JobOut, JoinsAgain, KeepsCounts, KeepsSlips, Key, keys_after, LacksQueue, length, length-set, Line, List, Marks, max, Meaning, None, number_if, Option, parked_of, ParksOrStays}
use Rattle.core_core.proofs.Names.{queue_count, queue_held, QueuesView, refl, runtime_of, settled_view, SettlesStep, shares_of, slice_set, slips_after, Some, Step, subst, sym, TakesOut, Tally, tally_of, true, true≢false, unsettled_count}
use Rattle.core_core.proofs.Names.{waiting_of, ℕ, [], ◌*◌, ◌++◌, ◌+◌, ◌<◌, ◌^◌, ◌∙◌, ◌∷◌, ◌≡◌, ◌≤◌}
use Rattle.std.specs.Prelude.{◌-◌}
use Rattle.base_jobs.specs.declared.job.Step.TheVariants as steps
use Rattle.core_core.proofs.Counting.{KeepsCounts-picks, KeepsCounts-yields, KeepsCounts-parks, KeepsCounts-finishes, some_inside}
use Rattle.core_core.proofs.Entries.{is_any-push}
use Rattle.core_core.proofs.Fits.{picked_fits, tally_fits}
use Rattle.core_core.proofs.Held.{held_none, held_out}
use Rattle.core_core.proofs.Listed.{LacksQueue-from_none}
use Rattle.core_core.proofs.Parts.{IsPollable-changed, IsPollable-pushed, IsPollable-parked, IsPollable-same}
use Rattle.core_core.proofs.Picking.{exists_if_waiting, first_waits, IsListed-picks, IsWithinTurns-picks}
use Rattle.core_core.proofs.Turning.{KeepsTurn-taken, KeepsTurn-free}
use Rattle.core_core.proofs.Settling.{out_entry, held_entry_at, IsListed-again, IsListed-no_more, IsWithinTurns-settles}
use Rattle.core_core.proofs.SlipsKept.{KeepsSlips-same, KeepsSlips-taken, KeepsSlips-inserted}

module _ {J T : Type 0} (meaning : Meaning J T) where
  -- the next job goes out
  pub IsCore-taken : (old mid : CoreView J) (slips : List Bool) (keys later : List Key) (key : Key) (inside room places : ℕ) (name : JobId) (started : Bool) (job : J) →
      IsCore meaning old slips keys inside room places → keys ≡ key ∷ later → LacksQueue key.queue later → TakesOut old name key.queue started job mid → IsWithinLimits mid.queues →
      IsCore meaning mid (slice_set slips key.queue true) later inside room places
  IsCore-taken old mid slips keys later key inside room places name started job core are absent takes limits =
      let out : JobOut J = record { name = name; queue = key.queue; woken = takes.was_woken; job = job } in
      let marks : Marks = record { started = started; woken = takes.was_woken } in
      let tally : Tally = record (tally_of key.queue old) { selected = (tally_of key.queue old).selected + 1 } in
      let tallies : mid.tallies ≡ slice_set old.tallies key.queue tally = ap (λ (view : CoreView J). view.tallies) takes.rest in
      let is_out : mid.out ≡ Some out = ap (λ (view : CoreView J). view.out) takes.rest in
      let floor : mid.floor ≡ max old.floor (runtime_of key.queue old) = ap (λ (view : CoreView J). view.floor) takes.rest in
      let turns : mid.turns ≡ old.turns + 1 = ap (λ (view : CoreView J). view.turns) takes.rest in
      let bursts : mid.bursts ≡ begun key.queue old.bursts = ap (λ (view : CoreView J). view.bursts) takes.rest in
      let none_held = held_none old takes.next.free takes.next.no_turn in
      let is_held : queue_held mid ≡ Some key.queue = held_out mid out is_out in
      let exists = exists_if_waiting old.queues key.queue (first_waits old keys key later are core.listed none_held) in
      let none : unsettled_count old ≡ 0 = ap (λ (held : Option ℕ). number_if (is_some held)) none_held in
      let before : FitsTurns old.turns 0 (tally_of key.queue old) = subst (λ unsettled. FitsTurns old.turns unsettled (tally_of key.queue old)) none (tally_fits old key.queue core.turns) in
      let low : runtime_of key.queue old ≤ old.turns * 2 ^ 50 = let fits = before.runtime in omega arith in
      let all : All (λ waiting. IsReady meaning waiting.2) ((name, marks, job) ∷ takes.others) =
      subst (λ (line : Line J). All (λ waiting. IsReady meaning waiting.2) line) takes.first (core.pollable.at key.queue) in
      record {
        counted = KeepsCounts-picks old mid inside room places out (name, marks, job) takes.others takes.first takes.line limits exists (ap (λ (view : CoreView J). view.cores) takes.rest) takes.next.free is_out
            (ap length tallies ∙ length-set old.tallies key.queue tally) (ap (λ (view : CoreView J). view.delivered) takes.rest) core.counted;
        listed = IsListed-picks old mid keys key later tally are absent none_held is_held takes.line.others tallies core.listed;
        slipped = KeepsSlips-taken (queue_count mid.queues) slips key later (omega (arith, exists, takes.line.same_count)) absent
            (KeepsSlips-same (queue_count old.queues) (queue_count mid.queues) slips slips (key ∷ later) takes.line.same_count refl (subst (KeepsSlips (queue_count old.queues) slips) are core.slipped));
        pollable = IsPollable-changed meaning old mid key.queue takes.others takes.line (All-tail (λ waiting. IsReady meaning waiting.2) (name, marks, job) takes.others all) core.pollable;
        turns = IsWithinTurns-picks old mid key.queue key.queue (runtime_of key.queue old) tally none_held is_held turns floor low tallies (picked_fits old.turns (tally_of key.queue old) before) core.turns;
        turning = KeepsTurn-taken old mid out takes.next.no_turn is_out bursts (omega (arith, exists, takes.line.same_count));
      }

  -- the job that is out goes to the tail of its queue, with what is counted of the queue from then on
  pub IsCore-rejoined : (mid new : CoreView J) (slips : List Bool) (keys : List Key) (inside room places : ℕ) (out : JobOut J) (marks : Marks) (job : J) (tally : Tally) →
      IsCore meaning mid slips keys inside room places → mid.out ≡ Some out → new.out ≡ None → new.bursts.open ≡ None → ChangesLine mid.queues new.queues out.queue (waiting_of out.queue mid.queues ++ (out.name, marks, job) ∷ []) →
      IsWithinLimits new.queues → new.tallies ≡ slice_set mid.tallies out.queue tally → FitsTurns mid.turns 0 tally → new.cores ≡ mid.cores → new.delivered ≡ mid.delivered → new.turns ≡ mid.turns → new.floor ≡ mid.floor →
      IsReady meaning job → IsCore meaning new (slice_set slips out.queue false) (inserted (record { vr = tally.runtime; queue = out.queue }) keys) inside room places
  IsCore-rejoined mid new slips keys inside room places out marks job tally core was_out free no_turn joins limits tallies fits cores delivered turns floor ready =
      let exists = some_inside mid inside room places out was_out core.counted in
      let within : out.queue < length mid.tallies = omega (arith, core.counted.tallies, exists.1) in
      let lacks = LacksQueue-from_none out.queue keys (core.listed.at out.queue ∙ out_entry mid out was_out) in
      let any : is_any (waiting_of out.queue new.queues) ≡ true = ap is_any joins.changed ∙ is_any-push (waiting_of out.queue mid.queues) (out.name, marks, job) in
      record {
        counted = KeepsCounts-yields mid new inside room places out out.name marks job joins limits cores was_out free (ap length tallies ∙ length-set mid.tallies out.queue tally) delivered core.counted;
        listed = IsListed-again mid new keys out.queue tally (held_out mid out was_out) (held_none new free no_turn) joins.others tallies core.listed within any;
        slipped = KeepsSlips-inserted (queue_count new.queues) slips keys (record { vr = tally.runtime; queue = out.queue }) (omega (arith, exists.1, joins.same_count)) lacks
            (KeepsSlips-same (queue_count mid.queues) (queue_count new.queues) slips slips keys joins.same_count refl core.slipped);
        pollable = IsPollable-pushed meaning mid new out.queue out.name marks job joins ready core.pollable;
        turns = IsWithinTurns-settles mid new out.queue out.queue tally (held_out mid out was_out) (held_none new free no_turn) turns floor tallies fits core.turns;
        turning = KeepsTurn-free new free no_turn;
      }

  -- a queue that was held is charged, and the lines stay: it is listed again if a job waits in it
  pub IsCore-left : (mid new : CoreView J) (slips : List Bool) (keys : List Key) (inside left room places queue : ℕ) (tally : Tally) (any : Bool) →
      IsCore meaning mid slips keys inside room places → queue_held mid ≡ Some queue → queue < queue_count mid.queues → new.out ≡ None → new.bursts.open ≡ None →
      ((other : ℕ) → waiting_of other new.queues ≡ waiting_of other mid.queues) → queue_count new.queues ≡ queue_count mid.queues →
      KeepsCounts new left room places → IsPollable meaning new → new.tallies ≡ slice_set mid.tallies queue tally → FitsTurns mid.turns 0 tally → new.turns ≡ mid.turns → new.floor ≡ mid.floor →
      is_any (waiting_of queue new.queues) ≡ any → IsCore meaning new (slips_after any queue slips) (keys_after any tally.runtime queue keys) left room places
  IsCore-left mid new slips keys inside left room places queue tally any core was_held exists free no_turn lines count counted pollable tallies fits turns floor some = by_any any some
    where
      kept : KeepsSlips (queue_count new.queues) slips keys
      kept = KeepsSlips-same (queue_count mid.queues) (queue_count new.queues) slips slips keys count refl core.slipped

      by_any : (any : Bool) → is_any (waiting_of queue new.queues) ≡ any → IsCore meaning new (slips_after any queue slips) (keys_after any tally.runtime queue keys) left room places
      by_any true some =
          let within : queue < length mid.tallies = omega (arith, core.counted.tallies, exists) in
          let lacks = LacksQueue-from_none queue keys (core.listed.at queue ∙ held_entry_at mid queue was_held) in
          record {
            counted = counted;
            listed = IsListed-again mid new keys queue tally was_held (held_none new free no_turn) (λ other apart. lines other) tallies core.listed within some;
            slipped = KeepsSlips-inserted (queue_count new.queues) slips keys (record { vr = tally.runtime; queue = queue }) (omega (arith, exists, count)) lacks kept;
            pollable = pollable;
            turns = IsWithinTurns-settles mid new queue queue tally was_held (held_none new free no_turn) turns floor tallies fits core.turns;
            turning = KeepsTurn-free new free no_turn;
          }
      by_any false none = record {
        counted = counted;
        listed = IsListed-no_more mid new keys queue tally was_held (held_none new free no_turn) (λ other apart. lines other) tallies core.listed none;
        slipped = kept;
        pollable = pollable;
        turns = IsWithinTurns-settles mid new queue queue tally was_held (held_none new free no_turn) turns floor tallies fits core.turns;
        turning = KeepsTurn-free new free no_turn;
      }

  -- it is done
  pub IsCore-ended : (mid new : CoreView J) (slips : List Bool) (keys : List Key) (inside room places : ℕ) (out : JobOut J) (tally : Tally) (any : Bool) →
      IsCore meaning mid slips keys inside room places → mid.out ≡ Some out → new.out ≡ None → new.bursts.open ≡ None → new.queues ≡ mid.queues →
      new.tallies ≡ slice_set mid.tallies out.queue tally → FitsTurns mid.turns 0 tally → new.cores ≡ mid.cores → new.delivered ≡ mid.delivered → new.turns ≡ mid.turns → new.floor ≡ mid.floor →
      is_any (waiting_of out.queue new.queues) ≡ any → IsCore meaning new (slips_after any out.queue slips) (keys_after any tally.runtime out.queue keys) (inside - 1) room places
  IsCore-ended mid new slips keys inside room places out tally any core was_out free no_turn queues tallies fits cores delivered turns floor some =
      IsCore-left mid new slips keys inside (inside - 1) room places out.queue tally any core (held_out mid out was_out) (some_inside mid inside room places out was_out core.counted).1 free no_turn (λ other. ap (waiting_of other) queues) (ap queue_count queues)
      (KeepsCounts-finishes mid new inside room places out queues cores was_out free (ap length tallies ∙ length-set mid.tallies out.queue tally) delivered core.counted)
      (IsPollable-same meaning mid new (λ other. ap (waiting_of other) queues) (λ other. ap (parked_of other) queues) core.pollable) tallies fits turns floor some

  -- it is parked
  pub IsCore-parked : (mid new : CoreView J) (slips : List Bool) (keys : List Key) (inside room places : ℕ) (out : JobOut J) (job : J) (tally : Tally) (any : Bool) →
      IsCore meaning mid slips keys inside room places → mid.out ≡ Some out → new.out ≡ None → new.bursts.open ≡ None → ChangesParks mid.queues new.queues out.queue (parked_of out.queue mid.queues ++ (out.name, job) ∷ []) →
      IsWithinLimits new.queues → new.tallies ≡ slice_set mid.tallies out.queue tally → FitsTurns mid.turns 0 tally → new.cores ≡ mid.cores → new.delivered ≡ mid.delivered → new.turns ≡ mid.turns → new.floor ≡ mid.floor →
      IsReady meaning job → is_any (waiting_of out.queue new.queues) ≡ any → IsCore meaning new (slips_after any out.queue slips) (keys_after any tally.runtime out.queue keys) inside room places
  IsCore-parked mid new slips keys inside room places out job tally any core was_out free no_turn parks limits tallies fits cores delivered turns floor ready some =
      IsCore-left mid new slips keys inside inside room places out.queue tally any core (held_out mid out was_out) (some_inside mid inside room places out was_out core.counted).1 free no_turn parks.same_lines parks.same_count
      (KeepsCounts-parks mid new inside room places out out.name job parks limits cores was_out free (ap length tallies ∙ length-set mid.tallies out.queue tally) delivered core.counted)
      (IsPollable-parked meaning mid new out.queue out.name job parks ready core.pollable) tallies fits turns floor some

  -- the same of a job that came back to its line, in which a job waits then
  IsCore-rejoined_any : (mid new : CoreView J) (slips : List Bool) (keys : List Key) (inside room places : ℕ) (out : JobOut J) (marks : Marks) (job : J) (tally : Tally) (any : Bool) →
      IsCore meaning mid slips keys inside room places → mid.out ≡ Some out → new.out ≡ None → new.bursts.open ≡ None → ChangesLine mid.queues new.queues out.queue (waiting_of out.queue mid.queues ++ (out.name, marks, job) ∷ []) →
      IsWithinLimits new.queues → new.tallies ≡ slice_set mid.tallies out.queue tally → FitsTurns mid.turns 0 tally → new.cores ≡ mid.cores → new.delivered ≡ mid.delivered → new.turns ≡ mid.turns → new.floor ≡ mid.floor →
      IsReady meaning job → is_any (waiting_of out.queue new.queues) ≡ any → IsCore meaning new (slips_after any out.queue slips) (keys_after any tally.runtime out.queue keys) inside room places
  IsCore-rejoined_any mid new slips keys inside room places out marks job tally true core was_out free no_turn joins limits tallies fits cores delivered turns floor ready some =
      IsCore-rejoined mid new slips keys inside room places out marks job tally core was_out free no_turn joins limits tallies fits cores delivered turns floor ready
  IsCore-rejoined_any mid new slips keys inside room places out marks job tally false core was_out free no_turn joins limits tallies fits cores delivered turns floor ready none =
      absurd (true≢false (sym (ap is_any joins.changed ∙ is_any-push (waiting_of out.queue mid.queues) (out.name, marks, job)) ∙ none))

  -- a job that asked to be parked stays, or is parked
  IsCore-rested : (mid new : CoreView J) (slips : List Bool) (keys : List Key) (inside room places : ℕ) (out : JobOut J) (woken : Bool) (job : J) (tally : Tally) (any : Bool) →
      IsCore meaning mid slips keys inside room places → mid.out ≡ Some out → new.out ≡ None → new.bursts.open ≡ None → ParksOrStays woken mid.queues out.queue out.name job new.queues →
      IsWithinLimits new.queues → new.tallies ≡ slice_set mid.tallies out.queue tally → FitsTurns mid.turns 0 tally → new.cores ≡ mid.cores → new.delivered ≡ mid.delivered → new.turns ≡ mid.turns → new.floor ≡ mid.floor →
      IsReady meaning job → is_any (waiting_of out.queue new.queues) ≡ any → IsCore meaning new (slips_after any out.queue slips) (keys_after any tally.runtime out.queue keys) inside room places
  IsCore-rested mid new slips keys inside room places out true job tally any core was_out free no_turn rests limits tallies fits cores delivered turns floor ready some =
      IsCore-rejoined_any mid new slips keys inside room places out (record { started = true; woken = false }) job tally any core was_out free no_turn rests limits tallies fits cores delivered turns floor ready some
  IsCore-rested mid new slips keys inside room places out false job tally any core was_out free no_turn rests limits tallies fits cores delivered turns floor ready some =
      IsCore-parked mid new slips keys inside room places out job tally any core was_out free no_turn rests limits tallies fits cores delivered turns floor ready some

  -- the job that was out was polled where it stands, and its poll is settled
  pub IsCore-settled : {T : Type 0} (mid new : CoreView J) (slips : List Bool) (keys : List Key) (inside room places : ℕ) (out : JobOut J) (marks : Marks) (job : J) (tally : Tally) (any : Bool) (step : Step T) →
      IsCore meaning mid slips keys inside room places → mid.out ≡ Some out → new.out ≡ None → new.bursts.open ≡ None → JoinsAgain step mid.queues out.queue out.name marks job new.queues → IsWithinLimits new.queues →
      new.tallies ≡ slice_set mid.tallies out.queue tally → FitsTurns mid.turns 0 tally → new.cores ≡ mid.cores → new.delivered ≡ mid.delivered → new.turns ≡ mid.turns → new.floor ≡ mid.floor →
      meaning.done job ≡ is_done_step step → IfUndone step (meaning.can_poll job) → is_any (waiting_of out.queue new.queues) ≡ any →
      IsCore meaning new (slips_after any out.queue slips) (keys_after any tally.runtime out.queue keys) (inside - number_if (is_done_step step)) room places
  IsCore-settled mid new slips keys inside room places out marks job tally any steps.Yield core was_out free no_turn joins limits tallies fits cores delivered turns floor still ready some =
      let all : inside ≡ inside - 0 = omega arith in
      subst (λ count. IsCore meaning new (slips_after any out.queue slips) (keys_after any tally.runtime out.queue keys) count room places) all
      (IsCore-rejoined_any mid new slips keys inside room places out (record marks { started = true }) job tally any core was_out free no_turn joins limits tallies fits cores delivered turns floor (still, ready) some)
  IsCore-settled mid new slips keys inside room places out marks job tally any steps.Park core was_out free no_turn joins limits tallies fits cores delivered turns floor still ready some =
      let all : inside ≡ inside - 0 = omega arith in
      subst (λ count. IsCore meaning new (slips_after any out.queue slips) (keys_after any tally.runtime out.queue keys) count room places) all
      (IsCore-rested mid new slips keys inside room places out marks.woken job tally any core was_out free no_turn joins limits tallies fits cores delivered turns floor (still, ready) some)
  IsCore-settled mid new slips keys inside room places out marks job tally any (steps.Done answer) core was_out free no_turn joins limits tallies fits cores delivered turns floor ended ready some =
      IsCore-ended mid new slips keys inside room places out tally any core was_out free no_turn joins tallies fits cores delivered turns floor some

  -- the head of a line that isn't empty may be polled
  pub front_ready : (line : Line J) → is_any line ≡ true → All (λ waiting. IsReady meaning waiting.2) line → IsFrontReady meaning line
  front_ready [] some all = absurd (true≢false (sym some))
  front_ready (waiting ∷ others) some all = All-head (λ one. IsReady meaning one.2) waiting others all

module _ {J : Type 0} where
  rested_count : (woken : Bool) (between new : QueuesView J) (queue : ℕ) (name : JobId) (job : J) → ParksOrStays woken between queue name job new → queue_count new ≡ queue_count between
  rested_count true between new queue name job rests = rests.same_count
  rested_count false between new queue name job rests = rests.same_count

  rested_shares : (woken : Bool) (between new : QueuesView J) (queue : ℕ) (name : JobId) (job : J) → ParksOrStays woken between queue name job new → shares_of queue new ≡ shares_of queue between
  rested_shares true between new queue name job rests = rests.same_shares queue
  rested_shares false between new queue name job rests = rests.same_shares queue

module _ {J : Type 0} (T : Type 0) where
  -- a poll in place that asked for a park is settled
  rests_step : (mid new : CoreView J) (out : JobOut J) (woken : Bool) (job : J) (time : ℕ) → mid.out ≡ Some out → ParksOrStays woken mid.queues out.queue out.name job new.queues →
      new ≡ settled_view mid out time 0 new.queues → SettlesStep {T = T} steps.Park woken mid out.name job time new
  rests_step mid new out true job time was_out rests rest = record { out = out; was_out = was_out; named = refl; line = rests; rest = rest }
  rests_step mid new out false job time was_out rests rest = record { out = out; was_out = was_out; named = refl; parks = rests; rest = rest }

module _ {J T : Type 0} where
  -- what a turn of a line leaves as it was
  pub turned_count : (step : Step T) (between new : QueuesView J) (queue : ℕ) (name : JobId) (marks : Marks) (job : J) → JoinsAgain step between queue name marks job new → queue_count new ≡ queue_count between
  turned_count steps.Yield between new queue name marks job joins = joins.same_count
  turned_count steps.Park between new queue name marks job joins = rested_count marks.woken between new queue name job joins
  turned_count (steps.Done out) between new queue name marks job joins = ap queue_count joins

  pub turned_shares : (step : Step T) (between new : QueuesView J) (queue : ℕ) (name : JobId) (marks : Marks) (job : J) → JoinsAgain step between queue name marks job new → shares_of queue new ≡ shares_of queue between
  turned_shares steps.Yield between new queue name marks job joins = joins.same_shares queue
  turned_shares steps.Park between new queue name marks job joins = rested_shares marks.woken between new queue name job joins
  turned_shares (steps.Done out) between new queue name marks job joins = ap (shares_of queue) joins

  -- a poll in place is settled by its step
  pub settles_step : (mid new : CoreView J) (out : JobOut J) (marks : Marks) (job : J) (time : ℕ) (step : Step T) → mid.out ≡ Some out → JoinsAgain step mid.queues out.queue out.name marks job new.queues →
      new ≡ settled_view mid out time (number_if (is_done_step step)) new.queues → SettlesStep step marks.woken mid out.name job time new
  settles_step mid new out marks job time steps.Yield was_out joins rest = record { out = out; was_out = was_out; named = refl; line = joins; rest = rest }
  settles_step mid new out marks job time steps.Park was_out joins rest = rests_step T mid new out marks.woken job time was_out joins rest
  settles_step mid new out marks job time (steps.Done answer) was_out joins rest = record { out = out; was_out = was_out; named = refl; rest = rest ∙ ap (settled_view mid out time 1) joins }

pub one_at_most : (test : Bool) → number_if test ≤ 1
one_at_most true = omega arith
one_at_most false = omega arith
