-- The room that a turn needs, and what is left of it behind each poll.
use Rattle.actor_core.proofs.TurnWords.{◌≡◌, ◌≢◌, inr, ℕ, ◌+◌, ◌-◌, ◌<◌, ◌≤◌, Bool, true, false, List, ◌∷◌, refl, sym, ◌∙◌, ap, subst, arith, All-head, ltb-true, false≢true}
use Rattle.actor_core.proofs.TurnWords.{All, IsSome, None, Option, Some, is_some, JobId, Meaning, RecordedView, IsRecorded, HasTask, LeavesTurn, Reach, PollsOne}
use Rattle.std.specs.Prelude.{◌&&◌, if◌then◌else◌}
use Rattle.base_words.specs.declared.order.Mode.TheVariants.{Return}
use Rattle.base_words.specs.declared.order.Reason.TheVariants as why
use Rattle.base_words.specs.Bursts.{has_bursts, polls_in_turn, queue_begun_last, queue_in_turn}
use Rattle.base_words.specs.Closing.{core_mode}
use Rattle.base_words.specs.Commands.{reason_if_returning}
use Rattle.base_words.specs.Journal.{Journal, or_else}
use Rattle.base_words.specs.Work.{number_if}
use Rattle.base_words.proofs.Returning.{has_reason}
use Rattle.core_queues.specs.Fronts.{HasFront}
use Rattle.core_queues.specs.View.{Marks}
use Rattle.core_core.specs.declared.bursts.OpenTurn.{OpenTurn}
use Rattle.core_core.specs.Further.{IsAheadInTurn}
use Rattle.core_core.specs.Whole.{IsAhead}
use Rattle.actor_core.specs.Agreement.{IsOpenTurn}
use Rattle.actor_core.specs.Turns.{IsFurther, IsPick}
use Rattle.actor_core.specs.Rooms.{HasPollRoom, HasRestRoom, HasTurnRoom, open_queue}

-- a turn is open behind a poll just where a note of its own ends turns
open_by_form : {T : Type 0} (burst queue polls : ℕ) (notes : Journal T) → LeavesTurn burst queue polls notes → is_some (queue_in_turn burst notes) ≡ has_bursts burst
open_by_form burst queue polls notes leaves = ap is_some leaves.queue_is ∙ by_form (has_bursts burst)
  where
    by_form : (form : Bool) → is_some (if form then Some queue else None) ≡ form
    by_form true = refl
    by_form false = refl

-- so turns have notes of their own where one is open
form_if_open : {T : Type 0} (burst : ℕ) (notes : Journal T) → IsSome (queue_in_turn burst notes) → has_bursts burst ≡ true
form_if_open burst notes some = by_form (has_bursts burst) some
  where
    by_form : (form : Bool) → IsSome (if form then queue_begun_last notes else None) → form ≡ true
    by_form true some = refl
    by_form false some = cc

-- a turn that isn't open is none
pub none_open : (queue : Option ℕ) → is_some queue ≡ false → queue ≡ None
none_open None closed = refl
none_open (Some queue) closed = cc

first_of_three : (first second third : Bool) → (first && second && third) ≡ true → first ≡ true
first_of_three true second third is = refl
first_of_three false second third is = cc

module _ {J T : Type 0} {meaning : Meaning J T} {view : RecordedView J T} (recorded : IsRecorded meaning view) where
  -- the sender of the first job of a queue is there
  pub front_known : (queue : ℕ) (name : JobId) (marks : Marks) → HasFront view.core.queues queue name marks → name.from ≤ view.core.cores
  front_known queue name marks front =
      let all : All (λ (entry : JobId × Marks × J). HasTask meaning view.took view.journal.notes queue entry.0 entry.2) ((name, marks, front.0) ∷ front.1) =
      subst (λ (line : List (JobId × Marks × J)). All (λ entry. HasTask meaning view.took view.journal.notes queue entry.0 entry.2) line) front.2 (recorded.tasks.waiting queue) in
      let task = All-head (λ (entry : JobId × Marks × J). HasTask meaning view.took view.journal.notes queue entry.0 entry.2) (name, marks, front.0) front.1 all in
      (recorded.taken name _ task.task).sender

  module _ {queue vr : ℕ} {name : JobId} {started woken : Bool} where
    -- a core that polls doesn't hand back
    goes_on : IsAhead view.core queue vr name started woken → core_mode view.journal.notes ≢ Some Return
    goes_on is returning =
        let closing = recorded.kept.agrees.closing in
        has_reason queue view.journal.notes (inr returning)
        (sym (λ i. or_else (reason_if_returning (closing.modes queue i) why.QueueReturned) (reason_if_returning (closing.mode i) why.CoreReturned)) ∙ is.kept)

    pub ahead_room : IsAhead view.core queue vr name started woken → HasTurnRoom view → HasPollRoom view
    ahead_room is turn = turn.poll (goes_on is)

    -- the turn of a job that follows has a poll left
    pub poll_left : IsAheadInTurn view.core queue vr name started woken → polls_in_turn view.journal.notes < view.core.bursts.burst
    poll_left is =
        let told : IsOpenTurn view.core.bursts.burst (Some is.turn) view.journal.notes
        = subst (λ turn. IsOpenTurn view.core.bursts.burst turn view.journal.notes) is.goes.going recorded.kept.agrees.turn in
        let few : is.turn.polls < view.core.bursts.burst = ltb-true is.turn.polls view.core.bursts.burst (first_of_three _ _ _ is.goes.may) in
        omega (arith, few, told.1)

  -- where the journal has no open turn, its core has none
  pub not_open : open_queue view ≡ None → view.core.bursts.open ≡ None
  not_open none = by_open view.core.bursts.open refl
    where
      by_open : (turn : Option OpenTurn) → view.core.bursts.open ≡ turn → view.core.bursts.open ≡ None
      by_open None is = is
      by_open (Some turn) is =
          let told = (subst (λ turn. IsOpenTurn view.core.bursts.burst turn view.journal.notes) is recorded.kept.agrees.turn).0 in
          absurd (false≢true (sym (ap is_some none) ∙ ap is_some told))

module _ {J T A O I : Type 0} {meaning : Meaning J T} {reach : Reach J T A O I} {own : ℕ} {tells : ℕ → Type 0} {name : JobId} {old new : RecordedView J T} {before after : A} where
  module _ (did : PollsOne meaning reach own IsPick tells 3 1 name old new before after) where
    -- behind the first poll there is room for the rest of its turn
    pub room_behind_first : has_bursts old.core.bursts.burst ≡ true → HasPollRoom old → HasRestRoom new
    room_behind_first form room =
        let noted = did.posts.noted in
        let ends : number_if (has_bursts old.core.bursts.burst) ≡ 1 = ap number_if form in
        omega (arith, room, ends, noted.spends, noted.left, noted.in_turn.polls_are, noted.seat.burst, noted.seat.room)

    -- whether a turn is open behind it tells whether notes of their own end turns
    pub form_told : (told : Bool) → told ≡ is_some (open_queue new) → has_bursts old.core.bursts.burst ≡ told
    form_told told is =
        let noted = did.posts.noted in
        sym (ap has_bursts noted.seat.burst) ∙ (sym (open_by_form new.core.bursts.burst did.queue 1 new.journal.notes noted.in_turn) ∙ sym is)

  module _ (did : PollsOne meaning reach own IsFurther tells 2 (polls_in_turn old.journal.notes + 1) name old new before after) where
    -- and so there is behind a further one
    pub room_behind_further : HasRestRoom old → HasRestRoom new
    room_behind_further room =
        let noted = did.posts.noted in
        omega (arith, room, noted.spends, noted.in_turn.polls_are, noted.turns.picks.goes_on.poll_left, noted.seat.burst, noted.seat.room)

    -- behind a further poll fewer are left
    pub fewer_behind_further : new.core.bursts.burst - polls_in_turn new.journal.notes < old.core.bursts.burst - polls_in_turn old.journal.notes
    fewer_behind_further =
        let noted = did.posts.noted in
        omega (arith, noted.in_turn.polls_are, noted.turns.picks.goes_on.poll_left, noted.seat.burst)

    -- and the turn is open
    pub open_behind_further : IsSome (open_queue new)
    open_behind_further =
        let noted = did.posts.noted in
        let form : has_bursts old.core.bursts.burst ≡ true = form_if_open old.core.bursts.burst old.journal.notes (subst (λ queue. IsSome queue) (sym noted.turns.picks.goes_on.in_turn) refl) in
        open_by_form new.core.bursts.burst did.queue _ new.journal.notes noted.in_turn ∙ (ap has_bursts noted.seat.burst ∙ form)
