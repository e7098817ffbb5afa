-- Each of the small journals has a poll that isn't owed.
use Rattle.actor_core.proofs.Names.{◌⊎◌, ◌+◌, inl, ◌≡◌, ℕ, Bool, true, false, List, [], ◌∷◌, ◌++◌, length, Option, Some, Result, Ok, Err, refl, sym, ◌∙◌, ap, subst, arith}
use Rattle.actor_core.proofs.Names.{JobId, Note, Journal, ArePosts, poll_note, polls_made, Step, SendError, Job, IfDone, IfSome, Terms}
use Rattle.base_words.specs.Bursts.{queue_just_picked}
use Rattle.base_words.specs.Lawful.{GoesOn}
use Rattle.base_words.specs.declared.note.Note.TheVariants as writes
use Rattle.base_words.specs.declared.order.Mode.TheVariants.{Return}
use Rattle.base_words.specs.declared.order.Order.TheVariants.{CloseCore}
use Rattle.base_words.specs.declared.order.SendError.TheVariants as refused
use Rattle.base_jobs.specs.Calls.{Call}
use Rattle.base_jobs.specs.Calls.Call.{Submit, Detach}
use Rattle.base_jobs.specs.ScriptMeaning.{script_meaning}
use Rattle.base_jobs.specs.Scripts.{Script, SendsSmall, detach_calls, small_job}
use Rattle.base_jobs.specs.declared.job.Step.TheVariants as steps
use Rattle.base_jobs.specs.declared.poll.Poll.{Poll}
use Rattle.base_jobs.specs.declared.poll.Poll.TheVariants as poll
use Rattle.actor_core.specs.RightAnswers.{Seen, AnswersOrder, posted_notes, AreRightAnswers}
use Rattle.actor_core.specs.OwedPolls.{IsOwedPoll}
use Rattle.actor_core.specs.BadPolls.{job, sent, to_itself, terms, open_links, other_orders, ordered, begun, PollsAreRefused, OneIsOwed}
use Rattle.actor_core.proofs.OneBeginning.{IsPollBehind, poll_behind, calls_post}

abbrev script : List Poll → Script
script polls = record { polls = polls; polled = 0 }

-- the poll of the job of these polls, behind its beginning
module _ (seen : Seen Script) (polls : List Poll) (time : ℕ) (step : Step ℕ) (posts : List (Note ℕ)) (started : Bool) (earlier : Journal ℕ) (are : ArePosts posts) where
  pub its_poll : IsOwedPoll script_meaning terms seen (ordered polls) job time step (posts ++ poll_note job started ∷ earlier) →
      IsPollBehind script_meaning terms seen (script polls) job time step posts started earlier
  its_poll owed =
      let task : Some (Job 0 (script polls)) ≡ Some (Job owed.queue owed.sent) = owed.task in
      let same : owed.sent ≡ script polls = cc in
      subst (λ sent. IsPollBehind script_meaning terms seen sent job time step posts started earlier) same
      (poll_behind script_meaning terms seen owed.sent job time step owed.queue posts started earlier are owed.poll)

-- and such a poll is owed where it was begun in its turn, its calls and its step are what it owes, and they are answered as the journal says
pub owed_so : {terms : Terms} {seen : Seen Script} (polls : List Poll) {time : ℕ} {step : Step ℕ} {before : Journal ℕ} (calls : List (Call Script ℕ)) (started : Bool) (earlier : Journal ℕ) →
    (queue_just_picked earlier ≡ Some 0) ⊎ GoesOn terms.burst 0 earlier → before ≡ posted_notes calls ++ poll_note job started ∷ earlier → AreRightAnswers terms seen calls (poll_note job started ∷ earlier) →
    script_meaning.polls (script polls) (script_meaning.made (script polls) + polls_made job earlier) calls step (Some time) → IfDone step (script_meaning.answers (script polls)) →
    IsOwedPoll script_meaning terms seen (ordered polls) job time step before
owed_so polls {time = time} calls started earlier due stands right owed answered = record {
  queue = 0;
  sent = script polls;
  task = refl;
  poll = record { calls = calls; told = Some time; was_started = started; earlier = earlier; due = due; stands = stands; right = right; owed = owed; answered = answered; timed = refl };
}

-- If the gate of the core isn't shut before the first order, the link is empty and there is such a core, nothing gives a reason to refuse.
module _ (seen : Seen Script) (unshut : seen.shut 1 0 → ⊥) where
  no_reason : (error : SendError Script) → AnswersOrder {T = ℕ} terms seen 1 (Job 0 small_job) (Err error) begun → ⊥
  no_reason (refused.Closed back final) right = unshut (subst (seen.shut 1) right.2 right.1)
  no_reason (refused.Full back) right = omega (arith, right.1)
  no_reason (refused.Spent back) right = omega (arith, right.1)
  no_reason (refused.NoCore back) right = omega (arith, right.1)

  -- so a small job that is submitted there writes two notes
  pub two_notes : (calls : List (Call Script ℕ)) (sends : SendsSmall 1 0 calls) → AreRightAnswers terms seen calls begun → length (posted_notes calls) ≡ 2
  two_notes calls sends right = by_answer sends.answer sends.are
    where
      by_answer : (answer : Result JobId (SendError Script)) → calls ≡ Submit 1 (Job 0 small_job) answer ∷ detach_calls answer → length (posted_notes calls) ≡ 2
      by_answer (Ok name) are = ap (λ calls. length (posted_notes calls)) are
      by_answer (Err error) are = absurd (no_reason error (subst (λ calls. AreRightAnswers terms seen calls begun) are right).0)

-- the polls of the small jobs
abbrev pub first : List (Note ℕ)
first = writes.Took job 0 ∷ []

abbrev ends : List Poll
ends = poll.Done 1 7 ∷ []

abbrev yields : List Poll
yields = poll.Yield 5 ∷ ends

abbrev parks : List Poll
parks = poll.Park 5 ∷ ends

abbrev submits : List Poll
submits = poll.Submit 5 1 0 ∷ ends

abbrev to_core_0 : List Poll
to_core_0 = poll.Submit 5 0 0 ∷ ends

-- a note that neither begins a poll nor was posted
abbrev IsApart : Note ℕ → Type 0
IsApart (writes.Start name) = ⊥
IsApart (writes.Resume name) = ⊥
IsApart (writes.Sent name order) = ⊥
IsApart (writes.Redeemed name outcome) = ⊥
IsApart (writes.Detached name) = ⊥
IsApart _ = Unit {0}

-- no such note stands in a poll
none_apart : (top : Note ℕ) (before : Journal ℕ) → IsApart top → (posts : List (Note ℕ)) (name : JobId) (started : Bool) (earlier : Journal ℕ) → ArePosts posts →
    top ∷ before ≡ posts ++ poll_note name started ∷ earlier → ⊥
none_apart top before apart [] name false earlier are same = let head : top ≡ writes.Start name = cc in subst IsApart head apart
none_apart top before apart [] name true earlier are same = let head : top ≡ writes.Resume name = cc in subst IsApart head apart
none_apart top before apart (writes.Sent other order ∷ posts) name started earlier are same = let head : top ≡ writes.Sent other order = cc in subst IsApart head apart
none_apart top before apart (writes.Redeemed other outcome ∷ posts) name started earlier are same = let head : top ≡ writes.Redeemed other outcome = cc in subst IsApart head apart
none_apart top before apart (writes.Detached other ∷ posts) name started earlier are same = let head : top ≡ writes.Detached other = cc in subst IsApart head apart
none_apart top before apart (_ ∷ posts) name started earlier are same = absurd are

-- so a poll that is settled was begun, and nothing but posts stands in it
module _ (polls : List Poll) (step : Step ℕ) (time : ℕ) (top : Note ℕ) (before : Journal ℕ) (apart : IsApart top) where
  never_begun : IsOwedPoll script_meaning terms open_links (ordered polls) job time step (top ∷ before) → ⊥
  never_begun owed = none_apart top before apart (posted_notes owed.poll.calls) job owed.poll.was_started owed.poll.earlier (calls_post owed.poll.calls) owed.poll.stands

another_time : (told : Option ℕ) → told ≡ Some 5 → IfSome told (λ stated. stated ≡ 6) → ⊥
another_time told is timed = let same : ◌≡◌ {A = ℕ} 5 6 = subst (λ told. IfSome told (λ stated. stated ≡ 6)) is timed in absurd (omega arith)

-- a poll that submits writes two notes, and one that asks for nothing writes none
module _ (posts : List (Note ℕ)) (are : ArePosts posts) where
  asks_nothing : IsOwedPoll script_meaning terms open_links (ordered yields) job 5 steps.Yield (posts ++ begun) → 0 ≡ length posts
  asks_nothing owed =
      let its = its_poll open_links yields 5 steps.Yield posts false (writes.Pick 0 0 ∷ first) are owed in
      ap (λ calls. length (posted_notes calls)) (sym its.owed.0) ∙ ap length its.wrote

  submits_once : IsOwedPoll script_meaning terms open_links (ordered submits) job 5 steps.Yield (posts ++ begun) → length posts ≡ 2
  submits_once owed =
      let its = its_poll open_links submits 5 steps.Yield posts false (writes.Pick 0 0 ∷ first) are owed in
      ap length (sym its.wrote) ∙ two_notes open_links (λ shut. shut) its.calls its.owed.0 its.right

-- what was accepted is what was sent
another_job : (calls : List (Call Script ℕ)) → SendsSmall 1 0 calls → AreRightAnswers terms other_orders calls begun → length (posted_notes calls) ≡ 2 → ⊥
another_job calls sends right two = by_answer sends.answer sends.are
  where
    by_answer : (answer : Result JobId (SendError Script)) → calls ≡ Submit 1 (Job 0 small_job) answer ∷ detach_calls answer → ⊥
    by_answer (Ok name) are = let other : Job 0 small_job ≡ Job 0 (script (poll.Done 1 9 ∷ [])) = (subst (λ calls. AreRightAnswers terms other_orders calls begun) are right).0.2 in
        let same : small_job ≡ script (poll.Done 1 9 ∷ []) = cc in
        let last : poll.Done 1 0 ∷ [] ≡ poll.Done 1 9 ∷ [] = ap (λ job. job.polls) same in
        let values : ◌≡◌ {A = ℕ} 0 9 = cc in
        absurd (omega arith)
    by_answer (Err error) are = let none : ◌≡◌ {A = ℕ} 0 2 = ap (λ calls. length (posted_notes calls)) (sym are) ∙ two in absurd (omega arith)

-- a poll that submits a job sends no closing
abbrev closing : List (Note ℕ)
closing = writes.Detached to_itself ∷ writes.Sent to_itself (CloseCore Return) ∷ []

no_closing : (calls : List (Call Script ℕ)) → SendsSmall 0 0 calls → posted_notes calls ≡ closing → ⊥
no_closing calls sends wrote = by_answer sends.answer sends.are
  where
    by_answer : (answer : Result JobId (SendError Script)) → calls ≡ Submit 0 (Job 0 small_job) answer ∷ detach_calls answer → ⊥
    by_answer (Ok name) are =
        let same : writes.Detached name ∷ writes.Sent name (Job 0 tt) ∷ [] ≡ closing = ap posted_notes (sym are) ∙ wrote in
        cc
    by_answer (Err error) are = let none : ◌≡◌ {A = ℕ} 0 2 = ap (λ calls. length (posted_notes calls)) (sym are) ∙ ap length wrote in absurd (omega arith)

pub polls_refused : PollsAreRefused
polls_refused = record {
  yields_for_ever = λ owed. let its = its_poll open_links ends 1 steps.Yield [] false (writes.Pick 0 0 ∷ first) tt owed.0 in absurd (let wrong = its.owed.1 in cc);
  skips_to_its_value = λ owed. let its = its_poll open_links yields 1 (steps.Done 7) [] false (writes.Pick 0 0 ∷ first) tt owed.0 in absurd (let wrong = its.owed.1 in cc);
  yields_once_more = λ owed. let its = its_poll open_links yields 5 steps.Yield [] true (writes.Pick 0 5 ∷ writes.Yield job 5 ∷ begun) tt owed.0 in absurd (let wrong = its.owed.1 in cc);
  yields_unbegun = λ owed. never_begun (poll.Yield 5 ∷ yields) steps.Yield 5 (writes.Yield job 5) begun tt owed.0;
  another_value = λ owed. let its = its_poll open_links ends 1 (steps.Done 8) [] false (writes.Pick 0 0 ∷ first) tt owed.0 in let same : ◌≡◌ {A = ℕ} 8 7 = let wrong = its.owed.1 in cc in absurd (omega arith);
  another_time = λ owed. let its = its_poll open_links yields 6 steps.Yield [] false (writes.Pick 0 0 ∷ first) tt owed.0 in another_time its.told its.owed.2 its.timed;
  submits_nothing = λ owed. let wrong : ◌≡◌ {A = ℕ} 0 2 = submits_once [] tt owed.0 in absurd (omega arith);
  submits_twice = λ owed.
      let wrong : ◌≡◌ {A = ℕ} 4 2 = submits_once (writes.Detached (sent 2) ∷ writes.Sent (sent 2) (Job 0 tt) ∷ writes.Detached (sent 1) ∷ writes.Sent (sent 1) (Job 0 tt) ∷ []) tt owed.0 in
      absurd (omega arith);
  keeps_its_submission = λ owed. let wrong : ◌≡◌ {A = ℕ} 1 2 = submits_once (writes.Sent (sent 1) (Job 0 tt) ∷ []) tt owed.0 in absurd (omega arith);
  yields_for_a_park = λ owed. let its = its_poll open_links parks 5 steps.Yield [] false (writes.Pick 0 0 ∷ first) tt owed.0 in absurd (let wrong = its.owed.1 in cc);
  parks_for_a_yield = λ owed. let its = its_poll open_links yields 5 steps.Park [] false (writes.Pick 0 0 ∷ first) tt owed.0 in absurd (let wrong = its.owed.1 in cc);
  stays_when_done = λ owed. let its = its_poll open_links ends 1 steps.Park [] false (writes.Pick 0 0 ∷ first) tt owed.0 in absurd (let wrong = its.owed.1 in cc);
  never_begun = λ owed. never_begun ends (steps.Done 7) 1 (writes.Took job 0) [] tt owed.0;
  sends_another_job = λ owed.
      let its = its_poll other_orders submits 5 steps.Yield (writes.Detached (sent 1) ∷ writes.Sent (sent 1) (Job 0 tt) ∷ []) false (writes.Pick 0 0 ∷ first) tt owed.0 in
      another_job its.calls its.owed.0 its.right (ap length its.wrote);
  sends_a_closing = λ owed.
      let its = its_poll open_links to_core_0 5 steps.Yield (writes.Detached to_itself ∷ writes.Sent to_itself (CloseCore Return) ∷ []) false (writes.Pick 0 0 ∷ first) tt owed.0 in
      no_closing its.calls its.owed.0 its.wrote;
  closes_its_core = λ owed. let wrong : ◌≡◌ {A = ℕ} 0 1 = asks_nothing (writes.Sent to_itself (CloseCore Return) ∷ []) tt owed.0 in absurd (omega arith);
  closes_in_a_poll = λ owed. never_begun yields steps.Yield 5 (writes.CoreClosed Return) begun tt owed.0;
}

-- a first poll that submits the small job and keeps no ticket is owed by a task that begins so
pub owed_first : {seen : Seen Script} (polls : List Poll) → seen.sent (sent 1) (Job 0 small_job) → script_meaning.polls (script polls) 0 (Submit 1 (Job 0 small_job) (Ok (sent 1)) ∷ Detach (sent 1) (Ok tt) ∷ []) steps.Yield (Some 5) →
    IsOwedPoll script_meaning terms seen (ordered polls) job 5 steps.Yield (writes.Detached (sent 1) ∷ writes.Sent (sent 1) (Job 0 tt) ∷ begun)
owed_first polls saw owed =
    owed_so polls (Submit 1 (Job 0 small_job) (Ok (sent 1)) ∷ Detach (sent 1) (Ok tt) ∷ []) false (writes.Pick 0 0 ∷ first) (inl refl) refl
    ((record { sender = refl; receiver = omega arith; next = refl; in_range = omega arith; credit = omega arith; spelled = omega arith }, refl, saw), (record { order = Job 0 tt; accepted = refl; kept = refl }, tt)) owed tt

-- the polls of a job that submits once and is done
pub one_is_owed : OneIsOwed
one_is_owed = (
  owed_so submits [] true (writes.Pick 0 5 ∷ writes.Yield job 5 ∷ writes.Detached (sent 1) ∷ writes.Sent (sent 1) (Job 0 tt) ∷ begun) (inl refl) refl tt (refl, refl, refl) refl,
  (tt, (tt, (owed_first submits tt (record { answer = Ok (sent 1); are = refl }, refl, refl), (tt, (tt, (tt, (tt, (tt, tt)))))))),
)
