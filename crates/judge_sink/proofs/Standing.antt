-- A note that may stand behind what is replayed may stand behind all notes.
use Rattle.std.proofs.Common.{◌≡◌, ℕ, ◌+◌, ◌-◌, ◌^◌, ◌<◌, ◌≤◌, ◌⊎◌, inl, inr, true, false, not, ◌&&◌, ◌||◌, if◌then◌else◌, min, nat_lt, Option, None, Some, [], ◌∷◌, length, refl, sym, ap, ◌∙◌, subst}
use Rattle.std.proofs.lemmas.Bool.{true≢false}
use Rattle.std.specs.Prelude.{is_some, nat_le, IsTrue}
use Rattle.base_words.specs.Bursts.{has_bursts, queue_in_turn, queue_just_picked}
use Rattle.base_words.specs.Closing.{IsCounted, closes, final_count}
use Rattle.base_words.specs.Commands.{IsAnswer, IsCreationAnswer, IsEffectDue, IsOpening, closing_answer, effect_awaited, is_inside, job_at, reason_if_closed, reason_if_returning, refusal, return_reason, return_reason_of, stays_in_line}
use Rattle.base_words.specs.declared.names.JobId.{JobId}
use Rattle.base_words.specs.declared.note.Note.{Note}
use Rattle.base_words.specs.declared.note.Note.TheVariants.{Sent, Took, Back, Answered, Created, SharesSet, QueueClosed, CoreClosed, Woken, Pick, Start, Resume, Yield, Park, Stayed, Done, Returned, Turned, Shut, Collected, Redeemed, Detached}
use Rattle.base_words.specs.declared.order.Answer.{Answer}
use Rattle.base_words.specs.declared.order.Answer.TheVariants as answers
use Rattle.base_words.specs.declared.order.Order.{Order}
use Rattle.base_words.specs.declared.order.Order.TheVariants.{Job, Create, SetShares, Close, CloseCore, Wake}
use Rattle.base_words.specs.declared.order.Reason.TheVariants as why
use Rattle.base_words.specs.Journal.{Journal, or_else}
use Rattle.base_words.specs.Keys.{KeyAtMost}
use Rattle.base_words.specs.Lawful.{GoesOn, IsNextDelivered, IsTurnOf, MayFollow, MayStand, may_go_on, takes_turn}
use Rattle.base_words.specs.Limits.{most_turns}
use Rattle.base_words.specs.Picks.{IsEligible, IsRightPick}
use Rattle.base_words.specs.Terms.{Terms}
use Rattle.base_words.specs.Work.{has_work}
use Rattle.judge_sink.proofs.Seen.{Seen, seen}
use Rattle.judge_sink.specs.Judged.{IsAllowed}
use Rattle.judge_sink.specs.Replayed.{is_replayed}
use Rattle.judge_sink.specs.Tables.{FollowsSent}

-- a queue is created at the opening if no other note stands before
abbrev pub OpensOver : Note ℕ → Journal ℕ → Journal ℕ → Type 0
OpensOver (Created queue weight) a b = effect_awaited b ≡ None → IsOpening a → IsOpening b
OpensOver _ a b = Unit {0}

module _ (a b : Journal ℕ) (alike : seen a ≡ seen b) (picked : queue_just_picked a ≡ queue_just_picked b) where
  in_turn : (burst : ℕ) → queue_in_turn burst a ≡ queue_in_turn burst b
  in_turn burst = λ i. if has_bursts burst then (alike i).begun else None

  work : (queue : ℕ) → has_work queue a ≡ has_work queue b
  work queue = λ i. nat_lt ((alike i).left queue + length ((alike i).parked queue)) ((alike i).entered queue)

  reason : (queue : ℕ) → return_reason queue a ≡ return_reason queue b
  reason queue = λ i. or_else (reason_if_returning ((alike i).modes queue) why.QueueReturned) (reason_if_returning (alike i).mode why.CoreReturned)

  refused : (queue : ℕ) → refusal queue a ≡ refusal queue b
  refused queue = λ i.
      if nat_le queue (alike i).created then or_else (reason_if_closed ((alike i).modes queue) why.QueueClosed) (reason_if_returning (alike i).mode why.CoreClosing) else Some why.NoQueue

  inside : (name : JobId) → is_inside name a ≡ is_inside name b
  inside name = λ i. is_some ((alike i).queue name) && not ((alike i).ended name)

  reason_of : (queue : Option ℕ) → return_reason_of queue a ≡ return_reason_of queue b
  reason_of None = refl
  reason_of (Some queue) = reason queue

  staying : (name : JobId) → stays_in_line name a ≡ stays_in_line name b
  staying name = (λ i. (alike i).wake name || is_some (return_reason_of ((alike i).queue name) a)) ∙ (λ i. (seen b).wake name || is_some (reason_of ((seen b).queue name) i))

  going_on : (burst queue : ℕ) → may_go_on burst queue a ≡ may_go_on burst queue b
  going_on burst queue = λ i. nat_lt (alike i).polls burst && work queue i && not (is_some (reason queue i))

  due : (burst queue : ℕ) → (queue_just_picked a ≡ Some queue) ⊎ GoesOn burst queue a → (queue_just_picked b ≡ Some queue) ⊎ GoesOn burst queue b
  due burst queue (inl was) = inl (sym picked ∙ was)
  due burst queue (inr goes) = inr (record {
    in_turn = sym (in_turn burst) ∙ goes.in_turn;
    nobody_out = subst (λ (seen : Seen). seen.out ≡ []) alike goes.nobody_out;
    poll_left = subst (λ (seen : Seen). seen.polls < burst) alike goes.poll_left;
  })

  turn_of : (burst : ℕ) (name : JobId) (queue : ℕ) → IsTurnOf burst name queue a → IsTurnOf burst name queue b
  turn_of burst name queue turn = record {
    due = due burst queue turn.due;
    others = turn.others;
    first = subst (λ (seen : Seen). seen.line queue ≡ name ∷ turn.others) alike turn.first;
  }

  eligible : (burst queue : ℕ) → IsEligible burst queue a → IsEligible burst queue b
  eligible burst queue may = record {
    work = subst IsTrue (work queue) may.work;
    nobody_out = subst (λ (seen : Seen). seen.out ≡ []) alike may.nobody_out;
    no_turn = sym (in_turn burst) ∙ may.no_turn;
  }

  eligible_back : (burst queue : ℕ) → IsEligible burst queue b → IsEligible burst queue a
  eligible_back burst queue may = record {
    work = subst IsTrue (sym (work queue)) may.work;
    nobody_out = subst (λ (seen : Seen). seen.out ≡ []) (sym alike) may.nobody_out;
    no_turn = in_turn burst ∙ may.no_turn;
  }

  right_pick : (burst queue runtime : ℕ) → IsRightPick burst queue runtime a → IsRightPick burst queue runtime b
  right_pick burst queue runtime right = record {
    at = subst (λ (seen : Seen). runtime ≡ seen.runtime burst queue) alike right.at;
    eligible = eligible burst queue right.eligible;
    least = λ other may. subst (λ (seen : Seen). KeyAtMost runtime queue (seen.runtime burst other) other) alike (right.least other (eligible_back burst other may));
  }

  answers_it : (core : ℕ) (order : Order (Unit {0})) (answer : Answer) → IsAnswer core order answer a → IsAnswer core order answer b
  answers_it core (Job queue task) answer is = is
  answers_it core (Create weight) answer is = subst (λ (seen : Seen). IsCreationAnswer seen.mode (nat_le 255 seen.created) (seen.created + 1) answer) alike is
  answers_it core (SetShares queue weight) answer is = subst (λ (seen : Seen). answer ≡ (if nat_le queue seen.created then answers.SharesSet else answers.NoQueue)) alike is
  answers_it core (Close queue mode) answer is =
      subst (λ (seen : Seen). answer ≡ (if nat_le queue seen.created then closing_answer (seen.modes queue) mode else answers.NoQueue)) alike is
  answers_it core (CloseCore mode) answer is = subst (λ (seen : Seen). answer ≡ closing_answer seen.mode mode) alike is
  answers_it core (Wake actor number) answer is = is ∙ ap (λ inside. if inside then answers.Woken else answers.NoJob) (inside (job_at core actor number))

  taking : (burst : ℕ) (note : Note ℕ) → takes_turn burst note a ≡ takes_turn burst note b
  taking burst (Start name) = ap (λ turn. not (is_some turn)) (in_turn burst)
  taking burst (Resume name) = ap (λ turn. not (is_some turn)) (in_turn burst)
  taking burst note = refl

  effect_due : (awaited : Option Answer) (note : Note ℕ) → effect_awaited b ≡ awaited → OpensOver note a b → IsEffectDue awaited note a → IsEffectDue awaited note b
  effect_due None (Created queue weight) is opens it = opens is it
  effect_due None note is opens it = it
  effect_due (Some answer) (Created queue weight) is opens it = it
  effect_due (Some answer) (SharesSet queue weight) is opens it = it
  effect_due (Some answer) (QueueClosed queue mode) is opens it = it
  effect_due (Some answer) (CoreClosed mode) is opens it = it
  effect_due (Some answer) (Woken name) is opens it = it
  effect_due (Some answer) note is opens it = it

  module _ (terms : Terms) where
    delivered : (name : JobId) → IsCounted (final_count name.from b) name.number → IsNextDelivered terms name a → IsNextDelivered terms name b
    delivered name gate next = record {
      sender = next.sender;
      receiver = next.receiver;
      next = subst (λ (seen : Seen). name.number ≡ length (seen.delivered name.from) + 1) alike next.next;
      in_range = next.in_range;
      gate = gate;
    }

    follows : (note : Note ℕ) → is_replayed terms.actor note ≡ true → IsAllowed terms.actor terms.cores note b → FollowsSent terms note b → MayFollow terms note a → MayFollow terms note b
    follows (Sent name order) mine gates sent may = sent
    follows (Took name queue) mine gates sent may = (delivered name gates may.0, sym (refused queue) ∙ may.1)
    follows (Back name reason_told) mine gates sent may = (delivered name gates may.0, (may.1.0, sym (refused may.1.0) ∙ may.1.1))
    follows (Answered name answer) mine gates sent may = (delivered name gates may.0, (may.1.0, answers_it name.to may.1.0 answer may.1.1))
    follows (Created queue weight) mine gates sent may = record { next = subst (λ (seen : Seen). queue ≡ seen.created + 1) alike may.next; in_range = may.in_range; shares = may.shares }
    follows (SharesSet queue weight) mine gates sent may = (subst (λ (seen : Seen). queue ≤ seen.created) alike may.0, may.1)
    follows (QueueClosed queue mode) mine gates sent may =
        (subst (λ (seen : Seen). queue ≤ seen.created) alike may.0, subst (λ (seen : Seen). IsTrue (closes (seen.modes queue) mode)) alike may.1)
    follows (CoreClosed mode) mine gates sent may = subst (λ (seen : Seen). IsTrue (closes seen.mode mode)) alike may
    follows (Woken name) mine gates sent may = sym (inside name) ∙ may
    follows (Pick queue runtime) mine gates sent may = record { right = right_pick terms.burst queue runtime may.right; turn_left = subst (λ (seen : Seen). seen.turns < most_turns) alike may.turn_left }
    follows (Start name) mine gates sent may =
        (may.0, turn_of terms.burst name may.0 may.1, sym (reason may.0) ∙ may.2, subst (λ (seen : Seen). seen.started name ≡ false) alike may.3)
    follows (Resume name) mine gates sent may =
        (may.0, turn_of terms.burst name may.0 may.1, sym (reason may.0) ∙ may.2, subst (λ (seen : Seen). seen.started name ≡ true) alike may.3)
    follows (Returned name reason_told) mine gates sent may = (may.0, turn_of terms.burst name may.0 may.1, sym (reason may.0) ∙ may.2)
    follows (Yield name time) mine gates sent may = subst (λ (seen : Seen). seen.out ≡ name ∷ []) alike may
    follows (Park name time) mine gates sent may = (subst (λ (seen : Seen). seen.out ≡ name ∷ []) alike may.0, sym (staying name) ∙ may.1)
    follows (Stayed name time) mine gates sent may = (subst (λ (seen : Seen). seen.out ≡ name ∷ []) alike may.0, sym (staying name) ∙ may.1)
    follows (Done name time value) mine gates sent may = subst (λ (seen : Seen). seen.out ≡ name ∷ []) alike may
    follows (Turned queue time) mine gates sent may = record {
      in_turn = sym (in_turn terms.burst) ∙ may.in_turn;
      nobody_out = subst (λ (seen : Seen). seen.out ≡ []) alike may.nobody_out;
      its_time = subst (λ (seen : Seen). time ≡ min seen.time (2 ^ 40 - 1)) alike may.its_time;
      over = sym (going_on terms.burst queue) ∙ may.over;
    }
    follows (Collected name outcome) mine gates sent may = sent
    follows (Redeemed name outcome) mine gates sent may = sent
    follows (Detached name) mine gates sent may = sent
    follows (Shut sender count) mine gates sent may = absurd (true≢false (sym mine))

    pub stands : (note : Note ℕ) → effect_awaited a ≡ effect_awaited b → is_replayed terms.actor note ≡ true → IsAllowed terms.actor terms.cores note b → FollowsSent terms note b → OpensOver note a b →
        MayStand terms note a → MayStand terms note b
    stands note awaited mine gates sent opens may = record {
      may_follow = follows note mine gates sent may.may_follow;
      turn = sym (ap is_some picked) ∙ may.turn ∙ taking terms.burst note;
      effect = effect_due (effect_awaited b) note refl opens (subst (λ awaited. IsEffectDue awaited note a) awaited may.effect);
      writer = may.writer;
    }
