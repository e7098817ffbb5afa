-- A finish tells of a job that the caller submitted only polls that its task owes.
use Rattle.std.proofs.Common.{◌≡◌, ℕ, ◌+◌, Bool, true, false, List, [], ◌∷◌, ◌++◌, refl, sym, ◌∙◌, ap, subst}
use Rattle.base_words.specs.declared.names.JobId.{JobId}
use Rattle.base_words.specs.declared.note.Note.{Note}
use Rattle.base_words.specs.declared.order.Order.TheVariants.{Job}
use Rattle.base_words.specs.Journal.{Journal, EachNote}
use Rattle.base_words.specs.Terms.{Terms}
use Rattle.base_jobs.specs.Meanings.{Meaning}
use Rattle.base_jobs.specs.declared.job.Step.{Step}
use Rattle.base_jobs.specs.declared.job.Step.TheVariants.{Done, Park, Yield}
use Rattle.core_core.specs.Whole.{settled_of}
use Rattle.actor_core.specs.OwedPolls.{IsOwedPoll, IsPollOf, PollIsOwed}
use Rattle.actor_core.specs.Polls.{poll_note, polls_made, settle_note}
use Rattle.actor_core.specs.RightAnswers.{Seen, posted_notes}
use Rattle.actor_core.proofs.OwedNotes.{SettleNothing, polls_made-longer, posted_settle_nothing}
use Rattle.run_runtime.specs.Laws.{ToldPollsAreOwed, UnowedPollsAreRefused}
use Rattle.run_runtime.specs.Outcomes.{Orders, seen_at_end}
use Rattle.run_runtime.proofs.WrongAnswers.{the_callers}

each_at : {T : Type 0} (P : Note T → Journal T → Type 0) (later : List (Note T)) (note : Note T) (before : Journal T) → EachNote P (later ++ note ∷ before) → P note before
each_at P [] note before each = each.0
each_at P (last ∷ later) note before each = each_at P later note before each.1

module _ {J : Type 0} (meaning : Meaning J ℕ) where
  settled_is : (terms : Terms) (seen : Seen J) (orders : Orders J) (name : JobId) (time : ℕ) (step : Step ℕ) (stays : Bool) (before : Journal ℕ) →
      PollIsOwed meaning terms seen orders (settle_note name time (settled_of step stays)) before → IsOwedPoll meaning terms seen orders name time step before
  settled_is terms seen orders name time (Done out) stays before owed = owed
  settled_is terms seen orders name time Yield stays before owed = owed
  settled_is terms seen orders name time Park true before owed = owed
  settled_is terms seen orders name time Park false before owed = owed

  pub told_polls_owed : ToldPollsAreOwed meaning
  told_polls_owed view assembly name job step tells finished =
      let terms : Terms = record { actor = name.to; cores = view.desk.cores; cap = view.desk.cap; burst = view.desk.burst } in
      let seen = seen_at_end assembly finished.orders name.to in
      let each = subst (EachNote (PollIsOwed meaning terms seen finished.orders)) tells.told (finished.polls name.to tells.there) in
      let owed = settled_is terms seen finished.orders name tells.time step tells.stays tells.before
      (each_at (PollIsOwed meaning terms seen finished.orders) tells.later (settle_note name tells.time (settled_of step tells.stays)) tells.before each) in
      let is : Job owed.queue owed.sent ≡ Job tells.queue job =
      the_callers view assembly finished.orders finished.orders_are name tells.caller tells.there (Job owed.queue owed.sent) (Job tells.queue job) owed.task tells.submitted in
      let same_queue : owed.queue ≡ tells.queue = cc in
      let same_job : owed.sent ≡ job = cc in
      subst (λ queue. IsPollOf meaning terms seen queue job name tells.time step tells.before) same_queue
      (subst (λ sent. IsPollOf meaning terms seen owed.queue sent name tells.time step tells.before) same_job owed.poll)

  begins_nothing : (name : JobId) (was_started : Bool) → SettleNothing (poll_note {T = ℕ} name was_started ∷ [])
  begins_nothing name false = (refl, tt)
  begins_nothing name true = (refl, tt)

  -- the polls before a poll are those before its beginning
  made_before : (terms : Terms) (seen : Seen J) (queue : ℕ) (job : J) (name : JobId) (time : ℕ) (step : Step ℕ) (before : Journal ℕ)
      (poll : IsPollOf meaning terms seen queue job name time step before) → polls_made name before ≡ polls_made name poll.earlier
  made_before terms seen queue job name time step before poll =
      let began = poll_note name poll.was_started ∷ [] in
      ap (polls_made name) poll.stands
      ∙ (polls_made-longer name (posted_notes poll.calls) (began ++ poll.earlier) (posted_settle_nothing poll.calls)
      ∙ polls_made-longer name began poll.earlier (begins_nothing name poll.was_started))

  pub unowed_polls_refused : UnowedPollsAreRefused meaning
  unowed_polls_refused view assembly name job step tells unowed finished =
      let poll = told_polls_owed view assembly name job step tells finished in
      let made = made_before _ _ tells.queue job name tells.time step tells.before poll in
      unowed poll.calls poll.told (subst (λ count. meaning.polls job (meaning.made job + count) poll.calls step poll.told) (sym made) poll.owed)
