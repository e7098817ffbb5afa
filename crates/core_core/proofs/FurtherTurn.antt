-- A further poll of the open turn, from what is known inside: the head of its queue goes out, is polled, and its poll is settled. And what that comes to, in the words of the contract.
use Rattle.core_core.proofs.Names.{ap, Bool, Call, CoreView, false, FitsTurns, follow_notes, Follows, FollowsOut, FollowsWhole, goes_out, GoesOn, IfSome, is_any, is_done_step, is_some, IsAheadInTurn, IsBounded, IsCore, IsOver, IsReady}
use Rattle.core_core.proofs.Names.{IsReadyTurn, IsWithinLimits, JobId, JobOut, Key, List, longer, Marks, may_go_on, Meaning, nat_lt, None, not, number_if, Ok, OpenTurn, Option, or_else, polled_again, queue_count, queue_held, QueuesView}
use Rattle.core_core.proofs.Names.{Reason, reason_if_returning, refl, return_reason, settle_notes, settled_of, settled_tally, SettlesStep, shares_of, slice_set, Some, stays, Step, subst, sym, Tally, tally_of, true, true≢false, TurnsFront}
use Rattle.core_core.proofs.Names.{TurnsFurther, unsettled_count, unwrap_or, waiting_of, ℕ, ◌&&◌, ◌<◌, ◌||◌, ◌∙◌, ◌∷◌, ◌≡◌, ◌≤◌}
use Rattle.std.specs.Prelude.{◌-◌}
use Rattle.base_words.specs.declared.order.Reason.TheVariants as why
use Rattle.core_core.proofs.Closings.{some_is, or_false}
use Rattle.core_core.proofs.Counting.{some_inside}
use Rattle.core_core.proofs.Fits.{tally_fits, IsBounded-from_turns}
use Rattle.core_core.proofs.Held.{held_turn}
use Rattle.core_core.proofs.InTurn.{fits_in_turn, IsCore-followed, IsCore-settled_in_turn}
use Rattle.core_core.proofs.Turned.{head_same, settles_taken}
use Rattle.core_core.proofs.Whole.{turned_shares, settles_step}

-- the parts of a test of three
three_true : (one two three : Bool) → (one && two && three) ≡ true → (one ≡ true) × (two ≡ true) × (three ≡ true)
three_true true true true is = (refl, refl, refl)
three_true true true false is = absurd (true≢false (sym is))
three_true true false three is = absurd (true≢false (sym is))
three_true false two three is = absurd (true≢false (sym is))

nothing_if_not : {X : Type 0} (found : Option X) → not (is_some found) ≡ true → found ≡ None
nothing_if_not None none = refl
nothing_if_not (Some one) none = absurd (true≢false (sym none))

module _ {J : Type 0} where
  -- what a turn that may go on has
  pub goes_on_has : (view : CoreView J) (turn : OpenTurn) → GoesOn view turn → (nat_lt turn.polls view.bursts.burst ≡ true) × (is_any (waiting_of turn.queue view.queues) ≡ true) × (return_reason turn.queue view ≡ None)
  goes_on_has view turn goes =
      let parts = three_true (nat_lt turn.polls view.bursts.burst) (is_any (waiting_of turn.queue view.queues)) (not (is_some (return_reason turn.queue view))) goes.may in
      (parts.0, parts.1, nothing_if_not (return_reason turn.queue view) parts.2)

  -- a turn that is open, and doesn't go on while no job is out, may not
  pub over_if_none : (view : CoreView J) (turn : OpenTurn) → IsOver view → view.out ≡ None → view.bursts.open ≡ Some turn → may_go_on view turn ≡ false
  over_if_none view turn over free is_open = by_test (may_go_on view turn) refl
    where
      by_test : (test : Bool) → may_go_on view turn ≡ test → may_go_on view turn ≡ false
      by_test true may = absurd (over turn (record { going = is_open; free = free; may = may }))
      by_test false not = not

  -- the queue of an open turn exists
  pub turn_exists : {T : Type 0} (meaning : Meaning J T) (view : CoreView J) (slips : List Bool) (keys : List Key) (inside room places : ℕ) (turn : OpenTurn) → IsCore meaning view slips keys inside room places → view.bursts.open ≡ Some turn →
      turn.queue < queue_count view.queues
  turn_exists meaning view slips keys inside room places turn core is_open = subst (λ (found : Option OpenTurn). IfSome found (λ one. one.queue < queue_count view.queues)) is_open core.turning.exists

  -- its tally fits, as the turn isn't charged yet
  pub turn_fits : {T : Type 0} (meaning : Meaning J T) (view : CoreView J) (slips : List Bool) (keys : List Key) (inside room places queue held : ℕ) → IsCore meaning view slips keys inside room places → queue_held view ≡ Some held →
      FitsTurns view.turns 1 (tally_of queue view)
  turn_fits meaning view slips keys inside room places queue held core is_held =
      let one : unsettled_count view ≡ 1 = ap (λ (found : Option ℕ). number_if (is_some found)) is_held in
      subst (λ unsettled. FitsTurns view.turns unsettled (tally_of queue view)) one (tally_fits view queue core.turns)

  -- the core after a further poll of its open turn
  abbrev pub after_further : CoreView J → OpenTurn → Tally → QueuesView J → ℕ → CoreView J
  after_further view turn tally queues time = record view {
    queues = queues;
    tallies = slice_set view.tallies turn.queue tally;
    bursts = record (view.bursts) { «open» = Some (longer time (polled_again turn)) };
  }

module _ {J T : Type 0} (meaning : Meaning J T) where
  -- what is known inside once the line of the open turn's queue had its poll
  pub record HasFollowed (old : CoreView J) (slips : List Bool) (keys : List Key) (inside room places : ℕ) (turn : OpenTurn) (calls : List (Call J T)) (step : Step T) (told : Option ℕ) (time : ℕ) (tally : Tally) (queues : QueuesView J) : Type 0 where
    pub core : IsCore meaning old slips keys inside room places
    pub goes : GoesOn old turn
    pub turned : TurnsFront meaning old.queues turn.queue calls step told queues
    pub limits : IsWithinLimits queues
    pub counted : tally ≡ settled_tally (Some (polled_again turn)) time (shares_of turn.queue queues) (number_if (is_done_step step)) (tally_of turn.queue old)

  module _ (old : CoreView J) (slips : List Bool) (keys : List Key) (inside room places : ℕ) (turn : OpenTurn) (calls : List (Call J T)) (step : Step T) (told : Option ℕ) (time : ℕ) (tally : Tally) (queues : QueuesView J)
      (poll : HasFollowed old slips keys inside room places turn calls step told time tally queues) where
    -- the job between its going out and its settling
    abbrev job_between : JobOut J
    job_between = record { name = poll.turned.name; queue = turn.queue; woken = poll.turned.marks.woken; job = poll.turned.was }

    -- the core between them, and behind them
    abbrev between : CoreView J
    between = record old { queues = poll.turned.between; out = Some job_between; bursts = record (old.bursts) { «open» = Some (polled_again turn) } }

    abbrev behind : CoreView J
    behind = after_further old turn tally queues time

    follows : FollowsOut old poll.turned.name turn.queue poll.turned.marks.started poll.turned.was between
    follows = record {
      turn = turn;
      goes = poll.goes;
      its_queue = refl;
      was_woken = poll.turned.marks.woken;
      others = waiting_of turn.queue poll.turned.between;
      first = poll.turned.first;
      line = poll.turned.leaves;
      rest = refl;
    }

    -- what holds inside between them
    IsCore-between : IsCore meaning between slips keys inside room places
    IsCore-between = IsCore-followed meaning old between slips keys inside room places poll.turned.name turn.queue poll.turned.marks.started poll.turned.was poll.core follows poll.turned.limits

    -- the job that has its poll is inside
    pub one_inside : 1 ≤ inside
    one_inside = (some_inside between inside room places job_between refl IsCore-between.counted).0

    fits : FitsTurns old.turns 1 tally
    fits =
        let before = turn_fits meaning old slips keys inside room places turn.queue turn.queue poll.core (held_turn old turn poll.goes.free poll.goes.going) in
        subst (FitsTurns old.turns 1) (sym poll.counted) (fits_in_turn old.turns 1 (polled_again turn) time (shares_of turn.queue queues) (number_if (is_done_step step)) (tally_of turn.queue old) before)

    -- what holds inside behind them
    pub IsCore-further : IsCore meaning behind slips keys (inside - number_if (is_done_step step)) room places
    IsCore-further =
        IsCore-settled_in_turn meaning between behind slips keys inside room places job_between (polled_again turn) (longer time (polled_again turn)) tally
        IsCore-between refl refl poll.goes.free refl refl refl refl fits refl refl refl refl step poll.turned.marks poll.turned.job poll.turned.joins poll.limits poll.turned.polled.ended poll.turned.polled.ready

    pub IsCore-further_as : (new : CoreView J) (new_slips : List Bool) (new_inside : ℕ) → new ≡ behind → new_slips ≡ slips → new_inside ≡ inside - number_if (is_done_step step) → IsCore meaning new new_slips keys new_inside room places
    IsCore-further_as new new_slips new_inside view slips_are count = rw (view, slips_are, count) IsCore-further

    pub IsBounded-further : IsBounded behind
    IsBounded-further = IsBounded-from_turns behind IsCore-further.turns

    -- the poll of the contract
    pub TurnsFurther-polled : (spent : ℕ) → time ≡ unwrap_or told spent → TurnsFurther meaning old spent calls step time behind
    unfolding follows
    TurnsFurther-polled spent counts =
        let turned = poll.turned in
        let ended = number_if (is_done_step step) in
        let weight = turned_shares step turned.between queues turn.queue turned.name turned.marks turned.job turned.joins in
        let counted = poll.counted ∙ ap (λ shares. settled_tally (Some (polled_again turn)) time shares ended (tally_of turn.queue old)) weight in
        let written = ap (slice_set old.tallies turn.queue) counted in
        record {
          name = turned.name;
          queue = turn.queue;
          started = turned.marks.started;
          mid = between;
          ran = record { job = turned.job; step = step; told = told; before = turned.was };
          follows = follows;
          polled = turned.polled;
          stepped = refl;
          counts = counts;
          settles = settles_step between behind job_between turned.marks turned.job time step refl turned.joins
              (λ i. record old { queues = queues; tallies = written i; out = poll.goes.free i; bursts = record (old.bursts) { «open» = Some (longer time (polled_again turn)) } });
        }

module _ {J : Type 0} where
  -- a job that follows changes no mode
  return_reason-followed : (old new : CoreView J) (name : JobId) (queue : ℕ) (started : Bool) (job : J) → FollowsOut old name queue started job new → return_reason queue new ≡ return_reason queue old
  return_reason-followed old new name queue started job follows =
      λ i. or_else (reason_if_returning (follows.line.same_modes queue i) why.QueueReturned) (reason_if_returning ((follows.rest i).mode) why.CoreReturned)

  -- so it stays exactly if a wake of it was kept
  known_out : (old mid : CoreView J) (name : JobId) (queue : ℕ) (started : Bool) (job : J) (follows : FollowsOut old name queue started job mid) (one : JobOut J) → mid.out ≡ Some one →
      (one.woken ≡ follows.was_woken) × (stays one mid ≡ follows.was_woken)
  known_out old mid name queue started job follows one is =
      let same : one ≡ record { name = name; queue = queue; woken = follows.was_woken; job = job } = some_is (sym is ∙ ap (λ (view : CoreView J). view.out) follows.rest) in
      let kept : return_reason queue mid ≡ None = return_reason-followed old mid name queue started job follows ∙ ap (λ at. return_reason at old) follows.its_queue ∙ (goes_on_has old follows.turn follows.goes).2 in (
        ap (λ (out : JobOut J). out.woken) same,
        ap (λ (out : JobOut J). stays out mid) same ∙ ap (λ (reason : Option Reason). follows.was_woken || is_some reason) kept ∙ or_false follows.was_woken,
      )

module _ {J : Type 0} (T : Type 0) where
  -- the job that follows goes out with this note
  pub follows_ahead : (old mid : CoreView J) (queue : ℕ) (name : JobId) (started : Bool) (job : J) → FollowsOut old name queue started job mid → Follows {T = T} old (Some (goes_out name queue started job)) mid (follow_notes name started)
  follows_ahead old mid queue name false job follows = (follows, refl)
  follows_ahead old mid queue name true job follows = (follows, refl)

module _ {J T : Type 0} (meaning : Meaning J T) where
  -- a further poll is that of the job that was told
  pub FollowsWhole-further : (old new : CoreView J) (spent : ℕ) (calls : List (Call J T)) (step : Step T) (time queue vr : ℕ) (name : JobId) (started woken : Bool) → IsAheadInTurn old queue vr name started woken →
      TurnsFurther meaning old spent calls step time new →
      FollowsWhole meaning old spent calls name queue started (follow_notes name started) (settled_of step woken) (settle_notes name time step woken) new
  FollowsWhole-further old new spent calls step time queue vr name started woken is_ahead polls =
      let front = is_ahead.front in
      let was : Marks = record { started = polls.started; woken = polls.follows.was_woken } in
      let told : Marks = record { started = started; woken = woken } in
      let one_turn : polls.follows.turn ≡ is_ahead.turn = some_is (sym polls.follows.goes.going ∙ is_ahead.goes.going) in
      let at : polls.queue ≡ queue = polls.follows.its_queue ∙ ap (λ (turn : OpenTurn). turn.queue) one_turn ∙ sym is_ahead.its_queue in
      let both : (polls.name, was, polls.ran.before) ∷ polls.follows.others ≡ (name, told, front.0) ∷ front.1 = sym polls.follows.first ∙ ap (λ (q : ℕ). waiting_of q old.queues) at ∙ front.2 in
      let head = head_same both in
      let named : polls.name ≡ name = ap (λ (one : JobId × Marks × J). one.0) head in
      let marked : polls.started ≡ started = ap (λ (one : JobId × Marks × J). one.1.started) head in
      let kept : polls.follows.was_woken ≡ woken = ap (λ (one : JobId × Marks × J). one.1.woken) head in
      let follows : FollowsOut old name queue started polls.ran.before polls.mid =
      subst (λ (one : JobId). FollowsOut old one queue started polls.ran.before polls.mid) named
      (subst (λ (one : ℕ). FollowsOut old polls.name one started polls.ran.before polls.mid) at
      (subst (λ (one : Bool). FollowsOut old polls.name polls.queue one polls.ran.before polls.mid) marked polls.follows)) in
      let known : (one : JobOut J) → polls.mid.out ≡ Some one → (one.woken ≡ woken) × (stays one polls.mid ≡ woken) = λ one is.
      let both = known_out old polls.mid polls.name polls.queue polls.started polls.ran.before polls.follows one is in
      (both.0 ∙ kept, both.1 ∙ kept) in
      let settles : SettlesStep step woken polls.mid name polls.ran.job time new =
      subst (λ (one : Bool). SettlesStep step one polls.mid name polls.ran.job time new) kept (subst (λ (one : JobId). SettlesStep step polls.follows.was_woken polls.mid one polls.ran.job time new) named polls.settles) in
      record {
        mid = polls.mid;
        ran = polls.ran;
        follows = follows_ahead T old polls.mid queue name started polls.ran.before follows;
        polled = polls.polled;
        settles = settles_taken polls.mid new polls.ran spent name time polls.counts step woken known polls.stepped settles;
      }

-- a job that goes out is ready to be polled
pub ready_going : {J T : Type 0} (meaning : Meaning J T) (name : JobId) (queue : ℕ) (started : Bool) (job : J) → IsReady meaning job → IsReadyTurn meaning (Ok (goes_out name queue started job))
ready_going meaning name queue false job ready = ready
ready_going meaning name queue true job ready = ready
