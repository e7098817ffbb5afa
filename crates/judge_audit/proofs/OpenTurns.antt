-- The open turn after one more note, and what is asked of a note in it.
use Rattle.std.proofs.Common.{◌≡◌, ℕ, ◌+◌, ◌-◌, ◌^◌, ◌<◌, ◌≤◌, min, max, Bool, true, false, [], ◌∷◌, refl, sym, ◌∙◌, ap, cond, arith}
use Rattle.std.specs.Prelude.{Option, Some, None, is_some, not}
use Rattle.std.proofs.lemmas.Bool.{true≢false}
use Rattle.std.proofs.lemmas.Option.{same_Some}
use Rattle.base_words.specs.declared.names.JobId.{JobId}
use Rattle.base_words.specs.declared.note.Note.{Note}
use Rattle.base_words.specs.declared.note.Note.TheVariants.{Pick, Start, Resume, Yield, Park, Stayed, Done, Turned}
use Rattle.base_words.specs.Bursts.{has_bursts, queue_begun_last, queue_in_turn, queue_just_picked, polls_in_turn, time_in_turn, time_summed}
use Rattle.base_words.specs.Clauses.{PicksRight, IsFurtherPoll, IsOfTheTurn}
use Rattle.base_words.specs.Journal.{Journal, or_else}
use Rattle.base_words.specs.Lines.{jobs_out}
use Rattle.base_words.specs.Work.{queue_of}
use Rattle.base_words.proofs.OpenTurns.{none_either}
use Rattle.judge_audit.specs.declared.turns.OpenTurn.{OpenTurn}
use Rattle.judge_audit.specs.OpenTurns.{AnswersPick, FitsEnd, FitsPoll, KnowsTurn, time_after, turn_after, turn_polled, turn_settled}
use Rattle.judge_audit.specs.Picks.{out_list}
use Rattle.judge_audit.proofs.RightPicks.{none_out}

-- a poll adds its time, which is cut, to what is cut
time_next : (summed so_far time : ℕ) → min summed (2 ^ 40 - 1) ≡ so_far → min (summed + max time 1) (2 ^ 40 - 1) ≡ time_after so_far time
time_next summed so_far time is = omega (arith, is)

one_more : (polls so_far burst : ℕ) → polls ≡ so_far → polls < burst → burst ≤ 255 → polls + 1 ≡ min (so_far + 1) 255
one_more polls so_far burst is left few = omega arith

-- behind a pick the turn has had no poll and no time
none_at_pick : {T : Type 0} (before : Journal T) → is_some (queue_just_picked before) ≡ true → (polls_in_turn before ≡ 0) × (time_summed before ≡ 0)
none_at_pick [] picked = absurd (true≢false (sym picked))
none_at_pick (Pick queue runtime ∷ before) picked = (refl, refl)
none_at_pick (_ ∷ before) picked = absurd (true≢false (sym picked))

module _ {T : Type 0} (burst : ℕ) (before : Journal T) where
  -- what a poll does to the turn
  record IsPolled (note : Note T) : Type 0 where
    in_turn : queue_in_turn burst (note ∷ before) ≡ cond (has_bursts burst) (or_else (queue_just_picked before) (queue_begun_last before)) None
    polls : polls_in_turn (note ∷ before) ≡ polls_in_turn before + 1
    time : time_in_turn (note ∷ before) ≡ time_in_turn before

  -- behind a pick a poll opens the turn of its queue, and elsewhere it goes on in the turn that is open
  polled : (note : Note T) → IsPolled note → burst ≤ 255 → (picked : Option ℕ) (turn : Option OpenTurn) → queue_just_picked before ≡ picked →
      KnowsTurn burst turn before → (is_some (queue_in_turn burst before) ≡ true → polls_in_turn before < burst) →
      KnowsTurn burst (turn_polled burst picked turn) (note ∷ before)
  polled note is few None None just known left = is.in_turn ∙ rw just known
  polled note is few None (Some turn) just known left = record {
    queue = is.in_turn ∙ rw just known.queue;
    polls = is.polls ∙ one_more (polls_in_turn before) turn.polls burst known.polls (left (ap is_some known.queue)) few;
    time = is.time ∙ known.time;
  }
  polled note is few (Some queue) turn just known left = by_form (has_bursts burst) refl
    where
      none : (polls_in_turn before ≡ 0) × (time_summed before ≡ 0)
      none = none_at_pick before (ap is_some just)

      by_form : (form : Bool) → has_bursts burst ≡ form →
          KnowsTurn burst (cond form (Some (record { queue = queue; polls = 1; time = 0 })) None) (note ∷ before)
      by_form true form = record {
        queue = is.in_turn ∙ rw (form, just) refl;
        polls = omega (arith, is.polls, none.0);
        time = omega (arith, is.time, none.1);
      }
      by_form false form = is.in_turn ∙ rw form refl

  -- what a settled poll does to the turn
  record IsSettled (note : Note T) (spent : ℕ) : Type 0 where
    in_turn : queue_in_turn burst (note ∷ before) ≡ queue_in_turn burst before
    polls : polls_in_turn (note ∷ before) ≡ polls_in_turn before
    time : time_in_turn (note ∷ before) ≡ min (time_summed before + max spent 1) (2 ^ 40 - 1)

  settled : (note : Note T) (time : ℕ) → IsSettled note time → (turn : Option OpenTurn) → KnowsTurn burst turn before →
      KnowsTurn burst (turn_settled time turn) (note ∷ before)
  settled note time is None known = is.in_turn ∙ known
  settled note time is (Some turn) known = record {
    queue = is.in_turn ∙ known.queue;
    polls = is.polls ∙ known.polls;
    time = is.time ∙ time_next (time_summed before) turn.time time known.time;
  }

  -- the open turn is known after each note that is right
  pub turn_next : (picked : Option ℕ) (turn : Option OpenTurn) → burst ≤ 255 → queue_just_picked before ≡ picked → KnowsTurn burst turn before →
      (note : Note T) → PicksRight burst note before → KnowsTurn burst (turn_after burst picked turn note) (note ∷ before)
  turn_next picked turn few just known (Pick queue runtime) right = none_either (has_bursts burst)
  turn_next picked turn few just known (Turned queue time) right = none_either (has_bursts burst)
  turn_next picked turn few just known (Start name) right =
      polled (Start name) (record { in_turn = refl; polls = refl; time = omega arith }) few picked turn just known (λ some. (right.in_turn some).poll_left)
  turn_next picked turn few just known (Resume name) right =
      polled (Resume name) (record { in_turn = refl; polls = refl; time = omega arith }) few picked turn just known (λ some. (right.in_turn some).poll_left)
  turn_next picked turn few just known (Yield name time) right =
      settled (Yield name time) time (record { in_turn = refl; polls = omega arith; time = refl }) turn known
  turn_next picked turn few just known (Park name time) right =
      settled (Park name time) time (record { in_turn = refl; polls = omega arith; time = refl }) turn known
  turn_next picked turn few just known (Stayed name time) right =
      settled (Stayed name time) time (record { in_turn = refl; polls = omega arith; time = refl }) turn known
  turn_next picked turn few just known (Done name time value) right =
      settled (Done name time value) time (record { in_turn = refl; polls = omega arith; time = refl }) turn known
  turn_next picked None few just known _ right = known
  turn_next picked (Some turn) few just known _ right = record { queue = known.queue; polls = omega (arith, known.polls); time = omega (arith, known.time) }

module _ (burst : ℕ) (before : Journal ℕ) where
  module _ (name : JobId) (queue : Option ℕ) (its : queue_of name before ≡ queue) where
    module _ (out : Option JobId) (outs : jobs_out before ≡ out_list out) where
      -- a poll in an open turn is a further one of it
      pub further : (turn : Option OpenTurn) → KnowsTurn burst turn before → FitsPoll burst turn out queue → is_some (queue_in_turn burst before) ≡ true →
          IsFurtherPoll burst name before
      further None known fits some = absurd (true≢false (sym some ∙ ap is_some known))
      further (Some turn) known fits some = record {
        its_queue = its ∙ (fits.its_queue ∙ sym known.queue);
        nobody_out = outs ∙ ap out_list fits.nobody_out;
        poll_left = omega (arith, known.polls, fits.poll_left);
      }

      -- and a further one fits
      pub fits_further : (turn : Option OpenTurn) → KnowsTurn burst turn before → (is_some (queue_in_turn burst before) ≡ true → IsFurtherPoll burst name before) →
          FitsPoll burst turn out queue
      fits_further None known further = tt
      fits_further (Some turn) known further =
          let it = further (ap is_some known.queue) in
          record {
            its_queue = sym its ∙ (it.its_queue ∙ known.queue);
            nobody_out = none_out out before outs it.nobody_out;
            poll_left = omega (arith, known.polls, it.poll_left);
          }

    module _ (picked : Option ℕ) (just : queue_just_picked before ≡ picked) where
      -- a poll answers to the pick of its queue, or goes on in an open turn
      pub answers : (turn : Option OpenTurn) → KnowsTurn burst turn before → AnswersPick turn picked queue →
          (is_some (queue_just_picked before) ≡ not (is_some (queue_in_turn burst before))) ×
          (queue_just_picked before ≡ cond (is_some (queue_in_turn burst before)) None (queue_of name before))
      answers None known fits = rw known (ap is_some just ∙ fits.0, just ∙ (fits.1 ∙ sym its))
      answers (Some turn) known fits = rw known.queue (ap is_some (just ∙ fits), just ∙ fits)

      pub fits_answer : (turn : Option OpenTurn) → KnowsTurn burst turn before → is_some (queue_just_picked before) ≡ not (is_some (queue_in_turn burst before)) →
          queue_just_picked before ≡ cond (is_some (queue_in_turn burst before)) None (queue_of name before) → AnswersPick turn picked queue
      fits_answer None known turn followed = (
        ap is_some (sym just) ∙ (turn ∙ ap (λ (there : Option ℕ). not (is_some there)) known),
        sym just ∙ (followed ∙ (ap (λ (there : Option ℕ). cond (is_some there) None (queue_of name before)) known ∙ its)),
      )
      fits_answer (Some open_turn) known turn followed =
          sym just ∙ (followed ∙ ap (λ (there : Option ℕ). cond (is_some there) None (queue_of name before)) known.queue)

  module _ (out : Option JobId) (outs : jobs_out before ≡ out_list out) (queue time : ℕ) where
    -- what ends a turn is of the open one
    pub ends : (turn : Option OpenTurn) → KnowsTurn burst turn before → FitsEnd turn out queue time → IsOfTheTurn burst queue time before
    ends None known fits = absurd fits
    ends (Some turn) known fits = record {
      its_queue = known.queue ∙ ap (λ (it : ℕ). Some it) fits.its_queue;
      nobody_out = outs ∙ ap out_list fits.nobody_out;
      its_time = fits.its_time ∙ sym known.time;
    }

    pub fits_ending : (turn : Option OpenTurn) → KnowsTurn burst turn before → IsOfTheTurn burst queue time before → FitsEnd turn out queue time
    fits_ending None known its = let none : None ≡ Some queue = sym known ∙ its.its_queue in cc
    fits_ending (Some turn) known its = record {
      its_queue = same_Some turn.queue queue (sym known.queue ∙ its.its_queue);
      nobody_out = none_out out before outs its.nobody_out;
      its_time = its.its_time ∙ known.time;
    }

-- no turn is open where none is known
pub none_open : (burst : ℕ) (turn : Option OpenTurn) (before : Journal ℕ) → KnowsTurn burst turn before → queue_in_turn burst before ≡ None → turn ≡ None
none_open burst None before known none = refl
none_open burst (Some turn) before known none = let one : None ≡ Some turn.queue = sym none ∙ known.queue in cc

pub none_known : (burst : ℕ) (turn : Option OpenTurn) (before : Journal ℕ) → KnowsTurn burst turn before → turn ≡ None → queue_in_turn burst before ≡ None
none_known burst None before known none = known
none_known burst (Some turn) before known none = cc
