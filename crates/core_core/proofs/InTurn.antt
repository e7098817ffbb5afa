-- What holds inside a core as the next job of its open turn goes out, comes back, and as the turn ends.
use Rattle.core_core.proofs.Names.{All, All-tail, ap, arith, Bool, ChangesLine, ChangesParks, CoreView, false, FitsTurns, FollowsOut, IfSome, IfUndone, is_done_step, is_number, IsCore, IsPollable, IsReady, IsWithinLimits, JobId, JobOut}
use Rattle.core_core.proofs.Names.{JoinsAgain, KeepsCounts, Key, length, length-set, Line, List, Marks, Meaning, min, no_tally, None, number_if, OpenTurn, Option, parked_of, ParksOrStays, polled_again, queue_count, queue_held, refl}
use Rattle.core_core.proofs.Names.{set-get_or, settled_tally, slice_set, Some, Step, subst, sym, Tally, tally_of, true, waiting_of, ℕ, [], ◌++◌, ◌+◌, ◌-◌, ◌<◌, ◌^◌, ◌∙◌, ◌∷◌, ◌≡◌, ◌≢◌}
use Rattle.base_jobs.specs.declared.job.Step.TheVariants as steps
use Rattle.core_core.proofs.Counting.{KeepsCounts-picks, KeepsCounts-yields, KeepsCounts-parks, KeepsCounts-finishes}
use Rattle.core_core.proofs.Entries.{runtime_of-set_other, IsListed-held}
use Rattle.core_core.proofs.Held.{held_out, held_turn}
use Rattle.core_core.proofs.Listed.{eqb-self}
use Rattle.core_core.proofs.Parts.{IsPollable-changed, IsPollable-pushed, IsPollable-parked, IsPollable-same}
use Rattle.core_core.proofs.Settling.{IsWithinTurns-held, IsWithinTurns-kept}
use Rattle.core_core.proofs.SlipsKept.{KeepsSlips-same}
use Rattle.core_core.proofs.Turning.{same_turn, KeepsTurn-open}

-- a poll in an open turn adds nothing but a job that is done
pub fits_in_turn : (turns unsettled : ℕ) (turn : OpenTurn) (time shares done : ℕ) (tally : Tally) → FitsTurns turns unsettled tally → FitsTurns turns unsettled (settled_tally (Some turn) time shares done tally)
fits_in_turn turns unsettled turn time shares done tally fits = record {
  runtime = omega (arith, fits.runtime);
  selected = fits.selected;
  time = omega (arith, fits.time);
  finished = omega arith;
  returned = fits.returned;
}

-- it adds nothing else
pub counted_in_turn : (turn : OpenTurn) (time shares done : ℕ) (tally : Tally) → record tally { finished = min (tally.finished + done) (2 ^ 64 - 1) } ≡ settled_tally (Some turn) time shares done tally
counted_in_turn turn time shares done tally =
    let runtime : tally.runtime ≡ tally.runtime + 0 = omega arith in
    let lasts : tally.time ≡ tally.time + 0 = omega arith in
    λ i. record tally { runtime = runtime i; time = lasts i; finished = min (tally.finished + done) (2 ^ 64 - 1) }

-- where none is done nothing is added
pub same_in_turn : (turns unsettled : ℕ) (turn : OpenTurn) (time shares : ℕ) (tally : Tally) → FitsTurns turns unsettled tally → settled_tally (Some turn) time shares 0 tally ≡ tally
same_in_turn turns unsettled turn time shares tally fits =
    let runtime : tally.runtime + 0 ≡ tally.runtime = omega arith in
    let lasted : tally.time + 0 ≡ tally.time = omega arith in
    let finished : min (tally.finished + 0) (2 ^ 64 - 1) ≡ tally.finished = omega (arith, fits.finished) in
    λ i. record tally { runtime = runtime i; time = lasted i; finished = finished i }

module _ {J : Type 0} where
  -- so the tallies stay
  pub tallies_in_turn : (view : CoreView J) (queue turns unsettled : ℕ) (turn : OpenTurn) (time shares : ℕ) → FitsTurns turns unsettled (tally_of queue view) →
      slice_set view.tallies queue (settled_tally (Some turn) time shares 0 (tally_of queue view)) ≡ view.tallies
  tallies_in_turn view queue turns unsettled turn time shares fits =
      ap (slice_set view.tallies queue) (same_in_turn turns unsettled turn time shares (tally_of queue view) fits) ∙ set-get_or view.tallies queue no_tally

module _ {J T : Type 0} (meaning : Meaning J T) where
  -- the next job of the open turn goes out
  pub IsCore-followed : (old mid : CoreView J) (slips : List Bool) (keys : List Key) (inside room places : ℕ) (name : JobId) (queue : ℕ) (started : Bool) (job : J) →
      IsCore meaning old slips keys inside room places → FollowsOut old name queue started job mid → IsWithinLimits mid.queues → IsCore meaning mid slips keys inside room places
  IsCore-followed old mid slips keys inside room places name queue started job core follows limits =
      let out : JobOut J = record { name = name; queue = queue; woken = follows.was_woken; job = job } in
      let marks : Marks = record { started = started; woken = follows.was_woken } in
      let turn = follows.turn in
      let is_out : mid.out ≡ Some out = ap (λ (view : CoreView J). view.out) follows.rest in
      let is_open : mid.bursts.open ≡ Some (polled_again turn) = ap (λ (view : CoreView J). view.bursts.open) follows.rest in
      let burst : mid.bursts.burst ≡ old.bursts.burst = ap (λ (view : CoreView J). view.bursts.burst) follows.rest in
      let tallies : mid.tallies ≡ old.tallies = ap (λ (view : CoreView J). view.tallies) follows.rest in
      let turns : mid.turns ≡ old.turns = ap (λ (view : CoreView J). view.turns) follows.rest in
      let floor : mid.floor ≡ old.floor = ap (λ (view : CoreView J). view.floor) follows.rest in
      let was_held : queue_held old ≡ Some queue = held_turn old turn follows.goes.free follows.goes.going ∙ ap Some (sym follows.its_queue) in
      let is_held : queue_held mid ≡ Some queue = held_out mid out is_out in
      let there : turn.queue < queue_count old.queues = subst (λ (found : Option OpenTurn). IfSome found (λ one. one.queue < queue_count old.queues)) follows.goes.going core.turning.exists in
      let all : All (λ waiting. IsReady meaning waiting.2) ((name, marks, job) ∷ follows.others) =
      subst (λ (line : Line J). All (λ waiting. IsReady meaning waiting.2) line) follows.first (core.pollable.at queue) in
      record {
        counted = KeepsCounts-picks old mid inside room places out (name, marks, job) follows.others follows.first follows.line limits (omega (arith, there, follows.its_queue)) (ap (λ (view : CoreView J). view.cores) follows.rest) follows.goes.free is_out
            (ap length tallies) (ap (λ (view : CoreView J). view.delivered) follows.rest) core.counted;
        listed = IsListed-held old mid keys queue (ap (is_number queue) was_held ∙ eqb-self queue) (is_held ∙ sym was_held) follows.line.others
            (λ other apart. ap (λ (view : CoreView J). (tally_of other view).runtime) follows.rest) core.listed;
        slipped = KeepsSlips-same (queue_count old.queues) (queue_count mid.queues) slips slips keys follows.line.same_count refl core.slipped;
        pollable = IsPollable-changed meaning old mid queue follows.others follows.line (All-tail (λ waiting. IsReady meaning waiting.2) (name, marks, job) follows.others all) core.pollable;
        turns = IsWithinTurns-kept old mid queue was_held is_held turns floor tallies core.turns;
        turning = KeepsTurn-open old mid turn (polled_again turn) core.turning follows.goes.going burst is_open (omega (arith, there, follows.line.same_count))
            (subst (λ (held : Option (JobOut J)). IfSome held (λ one. turn.queue ≡ one.queue)) (sym is_out) (sym follows.its_queue));
      }

  -- the job that is out leaves its place, and its turn stays open
  pub IsCore-lasted : (mid new : CoreView J) (slips : List Bool) (keys : List Key) (inside left room places : ℕ) (out : JobOut J) (was turn : OpenTurn) (tally : Tally) →
      IsCore meaning mid slips keys inside room places → mid.out ≡ Some out → mid.bursts.open ≡ Some was → new.out ≡ None → new.bursts.open ≡ Some turn → turn.queue ≡ was.queue → new.bursts.burst ≡ mid.bursts.burst →
      ((other : ℕ) → other ≢ out.queue → waiting_of other new.queues ≡ waiting_of other mid.queues) → queue_count new.queues ≡ queue_count mid.queues → KeepsCounts new left room places → IsPollable meaning new →
      new.tallies ≡ slice_set mid.tallies out.queue tally → FitsTurns mid.turns 1 tally → new.turns ≡ mid.turns → new.floor ≡ mid.floor → IsCore meaning new slips keys left room places
  IsCore-lasted mid new slips keys inside left room places out was turn tally core was_out was_open free is_open same burst lines count counted pollable tallies fits turns floor =
      let at : turn.queue ≡ out.queue = same ∙ same_turn mid out was core.turning was_out was_open in
      let was_held : queue_held mid ≡ Some out.queue = held_out mid out was_out in
      let is_held : queue_held new ≡ Some out.queue = held_turn new turn free is_open ∙ ap Some at in
      let there : was.queue < queue_count mid.queues = subst (λ (found : Option OpenTurn). IfSome found (λ one. one.queue < queue_count mid.queues)) was_open core.turning.exists in
      record {
        counted = counted;
        listed = IsListed-held mid new keys out.queue (ap (is_number out.queue) was_held ∙ eqb-self out.queue) (is_held ∙ sym was_held) lines (λ other apart. runtime_of-set_other mid new out.queue other tally tallies apart) core.listed;
        slipped = KeepsSlips-same (queue_count mid.queues) (queue_count new.queues) slips slips keys count refl core.slipped;
        pollable = pollable;
        turns = IsWithinTurns-held mid new out.queue out.queue tally was_held is_held turns floor tallies fits core.turns;
        turning = KeepsTurn-open mid new was turn core.turning was_open burst is_open (omega (arith, same, there, count)) (subst (λ (held : Option (JobOut J)). IfSome held (λ one. turn.queue ≡ one.queue)) (sym free) tt);
      }

  module _ (mid new : CoreView J) (slips : List Bool) (keys : List Key) (inside room places : ℕ) (out : JobOut J) (was turn : OpenTurn) (tally : Tally)
      (core : IsCore meaning mid slips keys inside room places) (was_out : mid.out ≡ Some out) (was_open : mid.bursts.open ≡ Some was) (free : new.out ≡ None) (is_open : new.bursts.open ≡ Some turn) (same : turn.queue ≡ was.queue)
      (burst : new.bursts.burst ≡ mid.bursts.burst) (tallies : new.tallies ≡ slice_set mid.tallies out.queue tally) (fits : FitsTurns mid.turns 1 tally) (cores : new.cores ≡ mid.cores) (delivered : new.delivered ≡ mid.delivered)
      (turns : new.turns ≡ mid.turns) (floor : new.floor ≡ mid.floor) where
    as_many : length new.tallies ≡ length mid.tallies
    as_many = ap length tallies ∙ length-set mid.tallies out.queue tally

    -- it goes to the tail of its queue
    pub IsCore-rejoined_in_turn : (marks : Marks) (job : J) → ChangesLine mid.queues new.queues out.queue (waiting_of out.queue mid.queues ++ (out.name, marks, job) ∷ []) → IsWithinLimits new.queues → IsReady meaning job →
        IsCore meaning new slips keys inside room places
    IsCore-rejoined_in_turn marks job joins limits ready =
        IsCore-lasted mid new slips keys inside inside room places out was turn tally core was_out was_open free is_open same burst joins.others joins.same_count
        (KeepsCounts-yields mid new inside room places out out.name marks job joins limits cores was_out free as_many delivered core.counted)
        (IsPollable-pushed meaning mid new out.queue out.name marks job joins ready core.pollable) tallies fits turns floor

    -- it is parked
    pub IsCore-parked_in_turn : (job : J) → ChangesParks mid.queues new.queues out.queue (parked_of out.queue mid.queues ++ (out.name, job) ∷ []) → IsWithinLimits new.queues → IsReady meaning job →
        IsCore meaning new slips keys inside room places
    IsCore-parked_in_turn job parks limits ready =
        IsCore-lasted mid new slips keys inside inside room places out was turn tally core was_out was_open free is_open same burst (λ other apart. parks.same_lines other) parks.same_count
        (KeepsCounts-parks mid new inside room places out out.name job parks limits cores was_out free as_many delivered core.counted)
        (IsPollable-parked meaning mid new out.queue out.name job parks ready core.pollable) tallies fits turns floor

    -- it is done
    pub IsCore-ended_in_turn : new.queues ≡ mid.queues → IsCore meaning new slips keys (inside - 1) room places
    IsCore-ended_in_turn queues =
        IsCore-lasted mid new slips keys inside (inside - 1) room places out was turn tally core was_out was_open free is_open same burst (λ other apart. ap (waiting_of other) queues) (ap queue_count queues)
        (KeepsCounts-finishes mid new inside room places out queues cores was_out free as_many delivered core.counted)
        (IsPollable-same meaning mid new (λ other. ap (waiting_of other) queues) (λ other. ap (parked_of other) queues) core.pollable) tallies fits turns floor

    -- it asked to be parked, and stays or is parked
    IsCore-rested_in_turn : (woken : Bool) (job : J) → ParksOrStays woken mid.queues out.queue out.name job new.queues → IsWithinLimits new.queues → IsReady meaning job → IsCore meaning new slips keys inside room places
    IsCore-rested_in_turn true job rests limits ready = IsCore-rejoined_in_turn (record { started = true; woken = false }) job rests limits ready
    IsCore-rested_in_turn false job rests limits ready = IsCore-parked_in_turn job rests limits ready

    -- it was polled where it stands, and its poll is settled
    pub IsCore-settled_in_turn : (step : Step T) (marks : Marks) (job : J) → JoinsAgain step mid.queues out.queue out.name marks job new.queues → IsWithinLimits new.queues → meaning.done job ≡ is_done_step step → IfUndone step (meaning.can_poll job) →
        IsCore meaning new slips keys (inside - number_if (is_done_step step)) room places
    IsCore-settled_in_turn steps.Yield marks job joins limits still ready =
        let all : inside ≡ inside - 0 = omega arith in
        subst (λ count. IsCore meaning new slips keys count room places) all (IsCore-rejoined_in_turn (record marks { started = true }) job joins limits (still, ready))
    IsCore-settled_in_turn steps.Park marks job joins limits still ready =
        let all : inside ≡ inside - 0 = omega arith in
        subst (λ count. IsCore meaning new slips keys count room places) all (IsCore-rested_in_turn marks.woken job joins limits (still, ready))
    IsCore-settled_in_turn (steps.Done answer) marks job joins limits ended ready = IsCore-ended_in_turn joins
