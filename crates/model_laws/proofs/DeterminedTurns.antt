-- A turn has one result, if each poll owes one step and one time.
use Rattle.model_laws.proofs.Words.{◌≡◌, ℕ, ◌+◌, ◌-◌, ◌^◌, ◌⊎◌, inl, inr, false, List, [], ◌∷◌, refl, sym, ◌∙◌, ap, subst, arith, unwrap_or}
use Rattle.model_laws.proofs.Words.{true≢false, none-some, same_Some, Option, Some, JobId, Order, Journal, IsRightPick, Meaning, Reply, WorldView, journal_at, noted}
use Rattle.model_laws.proofs.Words.{Job, return_reason, KeyAtMost, line, turns, virtual_runtime, has_work, order_under, poll_notes, settled_note, Bool, true, None, Note, cond}
use Rattle.model_laws.proofs.Words.{Ends, Further, IsFirstPoll, IsFurtherPoll, IsHandBack, IsPoll, MakesPolls, Turns, OwesOne}
use Rattle.base_words.specs.Bursts.{has_bursts, queue_begun_last}
use Rattle.base_words.specs.Lawful.{may_go_on}
use Rattle.base_words.specs.declared.note.Note.TheVariants as writes
use Rattle.actor_core.proofs.Ahead.{one_key}
use Rattle.model_world.specs.declared.event.Reply.TheVariants as reply
use Rattle.model_world.specs.Turns.{polls_made}
use Rattle.model_laws.proofs.DeterminedCalls.{calls_once}
use Rattle.model_laws.proofs.KeptLists.{back_notes}

-- a journal has one right pick
one_pick : {T : Type 0} (burst : ℕ) (journal : Journal T) (queue runtime other other_runtime : ℕ) → IsRightPick burst queue runtime journal → IsRightPick burst other other_runtime journal → queue ≡ other
one_pick burst journal queue runtime other other_runtime first second =
    one_key runtime queue other_runtime other
    (subst (λ at. KeyAtMost runtime queue at other) (sym second.at) (first.least other second.eligible))
    (subst (λ at. KeyAtMost other_runtime other at queue) (sym first.at) (second.least queue first.eligible))

same_head : {A : Type 0} (names : List A) (name other : A) (rest others : List A) → names ≡ name ∷ rest → names ≡ other ∷ others → name ≡ other
same_head names name other rest others first second = cc

same_job : {J : Type 0} (found : Option (Order J)) (queue other_queue : ℕ) (job other : J) → found ≡ Some (Job queue job) → found ≡ Some (Job other_queue other) → job ≡ other
same_job found queue other_queue job other first second = cc

-- a turn of this queue, this runtime and this job: the right pick takes the first job of its line
record IsMade {T : Type 0} (burst : ℕ) (journal : Journal T) (queue runtime : ℕ) (name : JobId) : Type 0 where
  right : IsRightPick burst queue runtime journal
  others : List JobId
  first : line queue journal ≡ name ∷ others

-- a journal has one such turn
made_once : {T : Type 0} {burst : ℕ} {journal : Journal T} {queue runtime other after : ℕ} {name also : JobId} → IsMade burst journal queue runtime name → IsMade burst journal other after also →
    (queue ≡ other) × (runtime ≡ after) × (name ≡ also)
made_once {burst = burst} {journal = journal} {queue = queue} {runtime = runtime} {other = other} {after = after} {name = name} {also = also} first second =
    let one = one_pick burst journal queue runtime other after first.right second.right in (
      one,
      first.right.at ∙ (ap (λ queue. virtual_runtime burst queue journal) one ∙ sym second.right.at),
      same_head (line queue journal) name also first.others second.others first.first (ap (λ queue. line queue journal) one ∙ second.first),
    )

module _ {J : Type 0} (meaning : Meaning J ℕ) (owes : OwesOne meaning) (core spent : ℕ) where
  -- one poll of a job has one result
  module _ (old new other : WorldView J ℕ) {queue : ℕ} {name : JobId} {begun : List (Note ℕ)} (first : IsPoll meaning core spent queue name begun old new)
      (second : IsPoll meaning core spent queue name begun old other) where
    abbrev before : Journal ℕ
    before = journal_at core old

    its_job : first.job ≡ second.job
    its_job = same_job (order_under name old) queue queue first.job second.job first.task second.task

    owed : meaning.polls first.job (meaning.made first.job + polls_made name before) second.calls second.step second.told
    owed = subst (λ job. meaning.polls job (meaning.made job + polls_made name before) second.calls second.step second.told) (sym its_job) second.owed

    its_step : first.step ≡ second.step
    its_step = owes.step _ _ _ _ _ _ _ _ first.owed owed

    its_told : first.told ≡ second.told
    its_told = owes.told _ _ _ _ _ _ _ _ first.owed owed

    its_posted : first.posted ≡ second.posted
    its_posted =
        calls_once meaning core first.calls second.calls (owes.asks _ _ _ _ _ _ _ _ first.owed owed) (noted core (poll_notes name begun before) old) first.posted second.posted first.posts second.posts

    poll_once : new ≡ other
    poll_once = first.notes ∙ ((λ i. noted core (settled_note name (unwrap_or (its_told i) spent) (its_step i) (journal_at core (its_posted i)) ∷ []) (its_posted i)) ∙ sym second.notes)

  module _ (old : WorldView J ℕ) where
    abbrev journal : Journal ℕ
    journal = journal_at core old

    abbrev HandsBack : WorldView J ℕ → Type 0
    HandsBack new = IsHandBack core old new

    by_poll : {new : WorldView J ℕ} (poll : IsFirstPoll meaning core spent old new) → IsMade old.burst journal poll.queue poll.runtime poll.name
    by_poll poll = record { right = poll.right; others = poll.poll.others; first = poll.poll.first }

    by_back : {new : WorldView J ℕ} (back : HandsBack new) → IsMade old.burst journal back.queue back.runtime back.name
    by_back back = record { right = back.right; others = back.others; first = back.first }

    module _ (new other : WorldView J ℕ) where
      -- so has the first poll of a turn
      first_once : IsFirstPoll meaning core spent old new → IsFirstPoll meaning core spent old other → new ≡ other
      first_once first second =
          let its = made_once (by_poll first) (by_poll second) in
          poll_once old new other first.poll
          (subst (λ name. IsPoll meaning core spent first.queue name (writes.Pick first.queue first.runtime ∷ []) old other) (sym its.2)
          (subst (λ runtime. IsPoll meaning core spent first.queue second.name (writes.Pick first.queue runtime ∷ []) old other) (sym its.1)
          (subst (λ queue. IsPoll meaning core spent queue second.name (writes.Pick queue second.runtime ∷ []) old other) (sym its.0) second.poll)))

      -- and a further one
      further_once : {name also : JobId} → IsFurtherPoll meaning core spent name old new → IsFurtherPoll meaning core spent also old other → (name ≡ also) × (new ≡ other)
      further_once {name} {also} first second =
          let queue = same_Some first.queue second.queue (sym first.goes_on.in_turn ∙ second.goes_on.in_turn) in
          let its = same_head (line first.queue journal) name also first.poll.others second.poll.others first.poll.first (ap (λ queue. line queue journal) queue ∙ second.poll.first) in (
            its,
            poll_once old new other first.poll
                (subst (λ name. IsPoll meaning core spent first.queue name [] old other) (sym its) (subst (λ queue. IsPoll meaning core spent queue also [] old other) (sym queue) second.poll)),
          )

      back_once : HandsBack new → HandsBack other → new ≡ other
      back_once first second =
          let its = made_once (by_back first) (by_back second) in
          let reason = same_Some first.reason second.reason (sym first.returns ∙ (ap (λ queue. return_reason queue journal) its.0 ∙ second.returns)) in
          first.notes ∙ ((λ i. noted core (back_notes (its.2 i) (reason i) (its.0 i) (its.1 i)) old) ∙ sym second.notes)

      -- a queue hands its jobs back, or it doesn't
      one_kind : IsFirstPoll meaning core spent old new → HandsBack other → ⊥
      one_kind poll back =
          none-some back.reason (sym poll.poll.kept ∙ (ap (λ queue. return_reason queue journal) (made_once (by_poll poll) (by_back back)).0 ∙ back.returns))

      -- the end of a turn has one result
      ends_once : (form : Bool) → Ends form core old new → Ends form core old other → new ≡ other
      ends_once true first second =
          let queue = same_Some first.queue second.queue (sym first.end.in_turn ∙ second.end.in_turn) in
          let time = first.end.its_time ∙ sym second.end.its_time in
          first.notes ∙ ((λ i. noted core (writes.Turned (queue i) (time i) ∷ []) old) ∙ sym second.notes)
      ends_once false first second = first ∙ sym second

      -- a turn that ends doesn't go on
      over : (form : Bool) → has_bursts old.burst ≡ form → Ends form core old new → {name : JobId} → IsFurtherPoll meaning core spent name old other → ⊥
      over true is ends poll =
          let queue = same_Some ends.queue poll.queue (sym ends.end.in_turn ∙ poll.goes_on.in_turn) in
          true≢false (sym poll.may ∙ (ap (λ queue. may_go_on old.burst queue journal) (sym queue) ∙ ends.end.over))
      over false is ends poll = none-some poll.queue (sym (ap (λ form. cond form (queue_begun_last journal) None) is) ∙ poll.goes_on.in_turn)

  -- further polls and the end of their turn have one result, poll by poll
  rest_once : (later others : List JobId) (old new other : WorldView J ℕ) → Further meaning core spent later old new → Further meaning core spent others old other → new ≡ other
  rest_once [] [] old new other first second = ends_once old new other (has_bursts old.burst) first second
  rest_once [] (name ∷ others) old new other first second = absurd (over old new second.0 (has_bursts old.burst) refl first second.1)
  rest_once (name ∷ later) [] old new other first second = absurd (over old other first.0 (has_bursts old.burst) refl second first.1)
  rest_once (name ∷ later) (also ∷ others) old new other first second =
      let same = (further_once old first.0 second.0 first.1 second.1).1 in
      rest_once later others first.0 new other first.2 (subst (λ next. Further meaning core spent others next other) (sym same) second.2)

  module _ (old : WorldView J ℕ) where
    abbrev Polls : WorldView J ℕ → Type 0
    Polls new = MakesPolls meaning core spent old new

    polls_once : (new other : WorldView J ℕ) → Polls new → Polls other → new ≡ other
    polls_once new other first second =
        rest_once first.later second.later first.mid new other first.further
        (subst (λ mid. Further meaning core spent second.later mid other) (sym (first_once old first.mid second.mid first.first second.first)) second.further)

    one_turn : (new other : WorldView J ℕ) → Polls new ⊎ HandsBack old new → Polls other ⊎ HandsBack old other → new ≡ other
    one_turn new other (inl first) (inl second) = polls_once new other first second
    one_turn new other (inl first) (inr second) = absurd (one_kind old first.mid other first.first second)
    one_turn new other (inr first) (inl second) = absurd (one_kind old second.mid new second.first first)
    one_turn new other (inr first) (inr second) = back_once old new other first second

    -- where a turn is made, a turn was left, and some queue has work
    no_spent : {new : WorldView J ℕ} → Polls new ⊎ HandsBack old new → turns (journal old) ≡ 2 ^ 64 - 1 → ⊥
    no_spent (inl polls) used = omega (arith, polls.first.turn_left, used)
    no_spent (inr back) used = omega (arith, back.turn_left, used)

    no_idle : {new : WorldView J ℕ} → Polls new ⊎ HandsBack old new → ((queue : ℕ) → has_work queue (journal old) ≡ false) → ⊥
    no_idle (inl polls) idle = true≢false (sym polls.first.right.eligible.work ∙ idle polls.first.queue)
    no_idle (inr back) idle = true≢false (sym back.right.eligible.work ∙ idle back.queue)

    pub turns_once : (new other : WorldView J ℕ) (answer other_answer : Reply J) → Turns meaning core spent old new answer → Turns meaning core spent old other other_answer →
        (new ≡ other) × (answer ≡ other_answer)
    turns_once new other reply.Noted reply.Noted first second = (one_turn new other first second, refl)
    turns_once new other reply.Noted reply.Idle first second = absurd (no_idle first second.0)
    turns_once new other reply.Noted reply.Spent first second = absurd (no_spent first second.0)
    turns_once new other reply.Idle reply.Noted first second = absurd (no_idle second first.0)
    turns_once new other reply.Idle reply.Idle first second = (first.1 ∙ sym second.1, refl)
    turns_once new other reply.Idle reply.Spent first second = absurd (true≢false (sym second.1.1 ∙ first.0 second.1.0))
    turns_once new other reply.Spent reply.Noted first second = absurd (no_spent second first.0)
    turns_once new other reply.Spent reply.Idle first second = absurd (true≢false (sym first.1.1 ∙ second.0 first.1.0))
    turns_once new other reply.Spent reply.Spent first second = (first.2 ∙ sym second.2, refl)
    turns_once new other reply.Noted _ first second = absurd second
    turns_once new other reply.Idle _ first second = absurd second
    turns_once new other reply.Spent _ first second = absurd second
    turns_once new other _ _ first second = absurd first
