-- A turn of several polls, to a core: further jobs of its queue go out as long as it may go on, and its end charges the queue once.
use Rattle.std.specs.Prelude.{◌≡◌, ℕ, ◌+◌, ◌-◌, ◌^◌, ◌<◌, max, min, nat_lt, not, ◌&&◌, Bool, true, false, Option, Some, None, is_some, IfSome, List, ◌∷◌, if◌then◌else◌}
use Rattle.base_words.specs.Charge.{charge, clamped}
use Rattle.base_words.specs.declared.names.JobId.{JobId}
use Rattle.base_words.specs.Bursts.{has_bursts}
use Rattle.base_words.specs.Journal.{or_else}
use Rattle.core_queues.specs.Queues.{Marks, waiting_of, queue_count, ChangesLine}
use Rattle.core_core.specs.declared.bursts.Bursts.{Bursts}
use Rattle.core_core.specs.declared.bursts.OpenTurn.{OpenTurn}
use Rattle.core_core.specs.declared.tally.Tally.{Tally}
use Rattle.core_core.specs.State.{CoreView, JobOut, is_any, queue_out}
use Rattle.core_core.specs.Closing.{return_reason}

-- the turn of a queue that was just picked for a poll is open, where a note of its own ends it
abbrev pub begun : ℕ → Bursts → Bursts
begun queue bursts =
    record bursts { «open» = if has_bursts bursts.burst then Some (record { queue = queue; polls = 1; time = 0 }) else bursts.open }

-- the turn has had one more poll
abbrev pub polled_again : OpenTurn → OpenTurn
polled_again turn = record turn { polls = turn.polls + 1 }

-- a poll of it took this time, which counts as at least 1; no more counts than the longest time that is charged
abbrev pub longer : ℕ → OpenTurn → OpenTurn
longer time turn = record turn { time = min (turn.time + max time 1) (2 ^ 40 - 1) }

-- a poll of the open turn, if one is, took this time
abbrev pub lasted : ℕ → Option OpenTurn → Option OpenTurn
lasted time None = None
lasted time (Some turn) = Some (longer time turn)

-- what a settled poll adds: nothing in an open turn, whose end adds it for all its polls
abbrev pub added_now : Option OpenTurn → ℕ → ℕ
added_now None cost = cost
added_now (Some turn) cost = 0

-- what is counted of a queue after a settled poll of this time under these shares, with so many more jobs done
abbrev pub settled_tally : Option OpenTurn → ℕ → ℕ → ℕ → Tally → Tally
settled_tally turn time shares done tally = record tally {
  runtime = tally.runtime + added_now turn (charge time shares);
  time = tally.time + added_now turn (clamped time);
  finished = min (tally.finished + done) (2 ^ 64 - 1);
}

abbrev pub queue_open : Option OpenTurn → Option ℕ
queue_open None = None
queue_open (Some turn) = Some turn.queue

module _ {J : Type 0} where
  -- the queue that is held from picks: that of the job that is out, else that of the open turn
  abbrev pub held_by : Option (JobOut J) → Option OpenTurn → Option ℕ
  held_by out turn = or_else (queue_out out) (queue_open turn)

  abbrev pub queue_held : CoreView J → Option ℕ
  queue_held view = held_by view.out view.bursts.open

  -- whether this open turn may go on: it has a poll left, a job waits in its queue, and nothing hands that back
  abbrev pub may_go_on : CoreView J → OpenTurn → Bool
  may_go_on view turn = nat_lt turn.polls view.bursts.burst && is_any (waiting_of turn.queue view.queues) && not (is_some (return_reason turn.queue view))

  -- this turn is open, no job is out, and the turn may go on
  pub record GoesOn (view : CoreView J) (turn : OpenTurn) : Type 0 where
    pub going : view.bursts.open ≡ Some turn
    pub free : view.out ≡ None
    pub may : may_go_on view turn ≡ true

  -- nothing follows: no turn is open, or a job is out, or the turn may not go on
  abbrev pub IsOver : CoreView J → Type 0
  IsOver view = (turn : OpenTurn) → GoesOn view turn → ⊥

  -- the head of the queue whose turn is open goes out, with the wake that is kept; that is no pick
  pub record FollowsOut (old : CoreView J) (name : JobId) (queue : ℕ) (was_started : Bool) (job : J) (new : CoreView J) : Type 0 where
    pub turn : OpenTurn
    pub goes : GoesOn old turn
    pub its_queue : queue ≡ turn.queue
    pub was_woken : Bool
    pub others : List (JobId × Marks × J)
    pub first : waiting_of queue old.queues ≡ (name, record { started = was_started; woken = was_woken }, job) ∷ others
    pub line : ChangesLine old.queues new.queues queue others
    pub rest : new ≡ record old {
      queues = new.queues;
      out = Some (record { name = name; queue = queue; woken = was_woken; job = job });
      bursts = record (old.bursts) { «open» = Some (polled_again turn) };
    }

  -- without bursts no turn is open; with them a job that is out is of the open turn; and the queue of an open turn exists
  pub record KeepsTurn (view : CoreView J) : Type 0 where
    pub single : has_bursts view.bursts.burst ≡ false → view.bursts.open ≡ None
    pub polled : has_bursts view.bursts.burst ≡ true → IfSome view.out (λ job. queue_open view.bursts.open ≡ Some job.queue)
    pub exists : IfSome view.bursts.open (λ turn. turn.queue < queue_count view.queues)
