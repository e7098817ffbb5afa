-- What refuses a job, what hands it back, and when a core is drained.
use Rattle.core_core.proofs.Names.{ap, AreThrough, arith, Bool, ChangesLine, cond, CoreView, false, get_or-set_same, HandsBack, held_count, held_count_all_empty, is_any, is_number, is_some, is_working, IsCore, IsDrained, JobId, JobOut}
use Rattle.core_core.proofs.Names.{KeepsCounts, Key, length, List, ltb-true, max, Meaning, Mode, mode_of, nat_lt, no_tally, None, number_if, Option, or_else, out_count, parked_of_none_held, queue_count, queue_out, Reason, reason_if_closed}
use Rattle.core_core.proofs.Names.{reason_if_returning, refl, refusal, return_reason, ReturnsOut, runtime_of, slice_index_or, slice_set, Some, stays, subst, suc, sym, TakesOut, Tally, tally_of, true, true≢false, waiting_of}
use Rattle.core_core.proofs.Names.{waiting_of_none_held, zero, ℕ, [], ◌+◌, ◌<◌, ◌||◌, ◌∙◌, ◌∷◌, ◌≡◌}
use Rattle.base_words.specs.declared.order.Reason.TheVariants as why
use Rattle.core_core.proofs.Entries.{none_from_is_any}
use Rattle.core_core.proofs.Listed.{eqb-self}
use Rattle.core_core.proofs.Parts.{both_false}
use Rattle.core_core.proofs.Turning.{KeepsTurn-same}

set-again : {X : Type 0} (items : List X) (place : ℕ) (first last : X) → slice_set (slice_set items place first) place last ≡ slice_set items place last
set-again [] place first last = refl
set-again (item ∷ items) zero first last = refl
set-again (item ∷ items) (suc place) first last = ap (λ rest. item ∷ rest) (set-again items place first last)

pub some_is : {X : Type 0} {one other : X} → Some one ≡ Some other → one ≡ other
some_is same = cc

pub or_false : (test : Bool) → (test || false) ≡ test
or_false true = refl
or_false false = refl

module _ {J : Type 0} where
  -- a job that isn't refused has an open queue
  pub exists_if_not_refused : (view : CoreView J) (queue : ℕ) → refusal queue view ≡ None → queue < queue_count view.queues
  exists_if_not_refused view queue none = by_test (nat_lt queue (queue_count view.queues)) refl none
    where
      by_test : (test : Bool) → nat_lt queue (queue_count view.queues) ≡ test →
          cond test (or_else (reason_if_closed (mode_of queue view.queues) why.QueueClosed) (reason_if_returning view.mode why.CoreClosing)) (Some why.NoQueue) ≡ None → queue < queue_count view.queues
      by_test true there none = ltb-true queue (queue_count view.queues) there
      by_test false past none = cc

  pub open_if_not_refused : (view : CoreView J) (queue : ℕ) → refusal queue view ≡ None → mode_of queue view.queues ≡ None
  open_if_not_refused view queue none = by_test (nat_lt queue (queue_count view.queues)) none
    where
      by_mode : (mode : Option Mode) → or_else (reason_if_closed mode why.QueueClosed) (reason_if_returning view.mode why.CoreClosing) ≡ None → mode ≡ None
      by_mode None none = refl
      by_mode (Some mode) none = cc

      by_test : (test : Bool) →
          cond test (or_else (reason_if_closed (mode_of queue view.queues) why.QueueClosed) (reason_if_returning view.mode why.CoreClosing)) (Some why.NoQueue) ≡ None → mode_of queue view.queues ≡ None
      by_test true none = by_mode (mode_of queue view.queues) none
      by_test false none = cc

  -- a job that goes out changes no mode
  pub return_reason-taken : (old new : CoreView J) (name : JobId) (queue : ℕ) (started : Bool) (job : J) → TakesOut old name queue started job new → return_reason queue new ≡ return_reason queue old
  return_reason-taken old new name queue started job takes =
      λ i. or_else (reason_if_returning (takes.line.same_modes queue i) why.QueueReturned) (reason_if_returning ((takes.rest i).mode) why.CoreReturned)

  -- the job that is out from then on
  pub out_taken : (old mid : CoreView J) (name : JobId) (queue : ℕ) (started : Bool) (job : J) (takes : TakesOut old name queue started job mid) (one : JobOut J) → mid.out ≡ Some one →
      one ≡ record { name = name; queue = queue; woken = takes.was_woken; job = job }
  out_taken old mid name queue started job takes one is = some_is (sym is ∙ ap (λ (view : CoreView J). view.out) takes.rest)

  -- where nothing is handed back, it stays exactly if a wake of it was kept
  pub stays_taken : (old mid : CoreView J) (name : JobId) (queue : ℕ) (started : Bool) (job : J) (takes : TakesOut old name queue started job mid) (one : JobOut J) → mid.out ≡ Some one →
      return_reason queue old ≡ None → stays one mid ≡ takes.was_woken
  stays_taken old mid name queue started job takes one is kept =
      ap (λ (out : JobOut J). stays out mid) (out_taken old mid name queue started job takes one is)
      ∙ ap (λ (reason : Option Reason). takes.was_woken || is_some reason) (return_reason-taken old mid name queue started job takes ∙ kept) ∙ or_false takes.was_woken

  abbrev sent_back : CoreView J → ℕ → CoreView J
  sent_back view queue = record view { tallies = slice_set view.tallies queue (record (tally_of queue view) { returned = (tally_of queue view).returned + 1 }); out = None; bursts = record (view.bursts) { «open» = None } }

  -- a job that goes out and is handed back
  pub hands_back : (old mid new : CoreView J) (name : JobId) (queue : ℕ) (started : Bool) (job : J) → queue < length old.tallies → TakesOut old name queue started job mid → ReturnsOut mid new →
      HandsBack old name queue job new
  hands_back old mid new name queue started job within takes returns = record {
    next = takes.next;
    marks = record { started = started; woken = takes.was_woken };
    others = takes.others;
    first = takes.first;
    line = subst (λ queues. ChangesLine old.queues queues queue takes.others) queues takes.line;
    rest = returns.rest ∙ ap (sent_back mid) here ∙ ap (λ view. sent_back view queue) takes.rest
        ∙ (λ i. record old { queues = queues i; tallies = tallies i; floor = max old.floor (runtime_of queue old); turns = old.turns + 1; out = sym takes.next.free i; bursts = record (old.bursts) { «open» = sym takes.next.no_turn i } });
  }
    where
      here : returns.out.queue ≡ queue
      here = ap (λ (out : JobOut J). out.queue) (some_is (sym returns.was_out ∙ ap (λ (view : CoreView J). view.out) takes.rest))

      queues : mid.queues ≡ new.queues
      queues = sym (ap (λ (view : CoreView J). view.queues) returns.rest)

      picked : Tally
      picked = record (tally_of queue old) { selected = (tally_of queue old).selected + 1 }

      tallies : slice_set (slice_set old.tallies queue picked) queue (record (slice_index_or (slice_set old.tallies queue picked) queue no_tally) {
        returned = (slice_index_or (slice_set old.tallies queue picked) queue no_tally).returned + 1;
      }) ≡ slice_set old.tallies queue (record (tally_of queue old) { selected = (tally_of queue old).selected + 1; returned = (tally_of queue old).returned + 1 })
      tallies =
          set-again old.tallies queue picked _
          ∙ ap (λ (tally : Tally). slice_set old.tallies queue (record tally { returned = tally.returned + 1 })) (get_or-set_same old.tallies queue picked no_tally within)

  -- a core that holds no job and lets none out has no work
  idle_at : (view : CoreView J) (queue : ℕ) → view.out ≡ None → waiting_of queue view.queues ≡ [] → is_working queue view ≡ false
  idle_at view queue free none = λ i. is_any (none i) || is_number queue (queue_out (free i))

  none_out : (out : Option (JobOut J)) → number_if (is_some out) ≡ 0 → out ≡ None
  none_out None none = refl
  none_out (Some job) none = absurd (omega (arith, none))

  pub drained_if : (view : CoreView J) (inside room places : ℕ) → KeepsCounts view inside room places → AreThrough view.delivered view.gates → inside ≡ 0 → IsDrained view
  drained_if view inside room places counted through none =
      let held : held_count view.queues ≡ 0 = omega (arith, counted.all_inside, none) in
      let polls : out_count view ≡ 0 = omega (arith, counted.all_inside, none) in
      record {
        delivered_all = λ sender known. through sender (omega (arith, counted.senders, known));
        idle = λ queue. idle_at view queue (none_out view.out polls) (waiting_of_none_held view.queues held queue);
        nobody_parked = λ queue. parked_of_none_held view.queues held queue;
      }

  pub through_if_drained : (view : CoreView J) → length view.delivered ≡ view.cores + 1 → IsDrained view → AreThrough view.delivered view.gates
  through_if_drained view senders drained sender within = drained.delivered_all sender (omega (arith, senders, within))

  free_if_drained : (view : CoreView J) → IsDrained view → view.out ≡ None
  free_if_drained view drained = by_out view.out (λ queue. (both_false (is_any (waiting_of queue view.queues)) (is_number queue (queue_out view.out)) (drained.idle queue)).1)
    where
      by_out : (out : Option (JobOut J)) → ((queue : ℕ) → is_number queue (queue_out out) ≡ false) → out ≡ None
      by_out None idle = refl
      by_out (Some job) idle = absurd (true≢false (sym (eqb-self job.queue) ∙ idle job.queue))

  -- a drained core holds nothing
  pub none_if_drained : (view : CoreView J) (inside room places : ℕ) → KeepsCounts view inside room places → IsDrained view → inside ≡ 0
  none_if_drained view inside room places counted drained =
      let lines : (queue : ℕ) → waiting_of queue view.queues ≡ [] =
      λ queue. none_from_is_any (waiting_of queue view.queues) (both_false (is_any (waiting_of queue view.queues)) (is_number queue (queue_out view.out)) (drained.idle queue)).0 in
      let polls : out_count view ≡ 0 = ap (λ (held : Option (JobOut J)). number_if (is_some held)) (free_if_drained view drained) in
      omega (arith, counted.all_inside, held_count_all_empty view.queues lines drained.nobody_parked, polls)

  -- a mode, or a gate, is nothing that the core keeps its counts by
  pub IsCore-closed : {T : Type 0} (meaning : Meaning J T) (view : CoreView J) (gates : List (Option ℕ)) (mode : Option Mode) (slips : List Bool) (keys : List Key) (inside room places : ℕ) →
      IsCore meaning view slips keys inside room places → IsCore meaning (record view { gates = gates; mode = mode }) slips keys inside room places
  IsCore-closed meaning view gates mode slips keys inside room places core = record {
    counted = record {
      limits = core.counted.limits;
      tallies = core.counted.tallies;
      senders = core.counted.senders;
      all_inside = core.counted.all_inside;
      within_room = core.counted.within_room;
      same_room = core.counted.same_room;
      reserved = core.counted.reserved;
      out = core.counted.out;
    };
    listed = record { at = core.listed.at };
    slipped = core.slipped;
    pollable = record { at = core.pollable.at; parked = core.pollable.parked };
    turns = record { tallies = core.turns.tallies; floor = core.turns.floor };
    turning = KeepsTurn-same view (record view { gates = gates; mode = mode }) refl refl (omega arith) core.turning;
  }
