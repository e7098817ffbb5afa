-- Each poll that the journals tell of a job of a script is the one that its words say.
use Rattle.std.proofs.Common.{◌≡◌, ℕ, List, [], ◌∷◌, Some, Result, Ok, Err, sym, ap, subst, ◌∙◌, refl}
use Rattle.std.specs.Prelude.{IfOk}
use Rattle.base_words.specs.declared.names.JobId.{JobId}
use Rattle.base_words.specs.declared.note.Note.{Note}
use Rattle.base_words.specs.declared.note.Note.TheVariants as writes
use Rattle.base_words.specs.declared.order.Order.{Order}
use Rattle.base_words.specs.declared.order.Order.TheVariants as order
use Rattle.base_words.specs.declared.order.Order.TheVariants.{Job}
use Rattle.base_words.specs.declared.order.SendError.{SendError}
use Rattle.base_words.specs.Assembly.{Assembly, journal_of}
use Rattle.base_words.specs.Journal.{Journal, EachNote}
use Rattle.base_words.specs.Terms.{Terms, terms_of}
use Rattle.base_jobs.specs.ScriptMeaning.{script_meaning}
use Rattle.base_jobs.specs.Scripts.{Script, IsScript}
use Rattle.base_jobs.specs.declared.job.Step.{Step}
use Rattle.base_jobs.specs.declared.job.Step.TheVariants as steps
use Rattle.actor_core.specs.OwedPolls.{IsOwedPoll, IsPollOf, PollIsOwed}
use Rattle.actor_core.specs.RightAnswers.{Seen}
use Rattle.actor_core.proofs.ScriptPolls.{polled_by_words}
use Rattle.actor_desk.specs.Submissions.{DeskView}
use Rattle.run_runtime.specs.Calls.{IsStarted, HasFinished}
use Rattle.run_runtime.specs.Outcomes.{seen_at_end}
use Rattle.run_config.specs.Configs.{Entry}
use Rattle.fairexec_script.specs.Orders.{Told}
use Rattle.fairexec_threads.specs.Offers.{HasWords, OffersAll}
use Rattle.fairexec_threads.specs.Polled.{IsItsWord, TellsItsWord, IsPolledAsTold, ArePolledAsTold}
use Rattle.fairexec_threads.specs.Accepted.{room_of}
use Rattle.fairexec_threads.proofs.Sending.{grows}
use Rattle.fairexec_threads.proofs.Standing.{View, Stands, stands}

-- what follows of each note by itself
each_as : {P Q : Note ℕ → Journal ℕ → Type 0} → ((note : Note ℕ) (before : Journal ℕ) → P note before → Q note before) → (notes : Journal ℕ) → EachNote P notes → EachNote Q notes
each_as follows [] each = tt
each_as follows (note ∷ before) each = (follows note before each.0, each_as follows before each.1)

-- which job an order sends
same_job : (queue other : ℕ) (job sent : Script) → Some (Job queue job) ≡ Some (Job other sent) → (other ≡ queue) × (sent ≡ job)
same_job queue other job sent same = ((cc), (cc))

same_terms : (core cores cap burst : ℕ) (assembly : Assembly ℕ) → assembly.cores ≡ cores → assembly.cap ≡ cap → assembly.burst ≡ burst →
    ◌≡◌ {A = Terms} (record { actor = core; cores = cores; cap = cap; burst = burst }) (terms_of core assembly)
same_terms core cores cap burst assembly cores_are cap_is burst_is = rw (cores_are, cap_is, burst_is) refl

module _ (ended : View) (assembly : Assembly ℕ) (finishes : HasFinished script_meaning ended assembly) where
  abbrev seen : ℕ → Seen Script
  seen core = seen_at_end assembly finishes.orders core

  -- the terms of a core at the end
  abbrev at_end : ℕ → Terms
  at_end core = record { actor = core; cores = ended.desk.cores; cap = ended.desk.cap; burst = ended.desk.burst }

  its_terms : (core : ℕ) → at_end core ≡ terms_of core assembly
  its_terms core = same_terms core ended.desk.cores ended.desk.cap ended.desk.burst assembly finishes.cores finishes.cap finishes.burst

  module _ (name : JobId) (queue : ℕ) (job : Script) (is : IsScript job.polls) (under : finishes.orders name ≡ Some (Job queue job)) where
    -- a poll that is owed under this name is one of this job
    its_word : (other : JobId) (time : ℕ) (step : Step ℕ) (before : Journal ℕ) → IsOwedPoll script_meaning (at_end name.to) (seen name.to) finishes.orders other time step before →
        other ≡ name → IsItsWord finishes.orders assembly name queue job time step before
    its_word other time step before owed same =
        let parts = same_job queue owed.queue job owed.sent (sym under ∙ subst (λ name. finishes.orders name ≡ Some (Job owed.queue owed.sent)) same owed.task) in
        let its : IsPollOf script_meaning (at_end name.to) (seen name.to) owed.queue owed.sent name time step before =
        subst (λ name_polled. IsPollOf script_meaning (at_end name.to) (seen name.to) owed.queue owed.sent name_polled time step before) same owed.poll in
        let own : IsPollOf script_meaning (at_end name.to) (seen name.to) queue job name time step before =
        subst (λ queue. IsPollOf script_meaning (at_end name.to) (seen name.to) queue job name time step before) parts.0
        (subst (λ sent. IsPollOf script_meaning (at_end name.to) (seen name.to) owed.queue sent name time step before) parts.1 its) in
        record {
          owed = subst (λ terms. IsPollOf script_meaning terms (seen name.to) queue job name time step before) (its_terms name.to) own;
          words = polled_by_words (at_end name.to) (seen name.to) queue job name time step before own is;
        }

    tells_word : (note : Note ℕ) (before : Journal ℕ) → PollIsOwed script_meaning (at_end name.to) (seen name.to) finishes.orders note before → TellsItsWord finishes.orders assembly name queue job note before
    tells_word (writes.Yield other time) before owed = its_word other time steps.Yield before owed
    tells_word (writes.Park other time) before owed = its_word other time steps.Park before owed
    tells_word (writes.Stayed other time) before owed = its_word other time steps.Park before owed
    tells_word (writes.Done other time value) before owed = its_word other time (steps.Done value) before owed
    tells_word _ before owed = tt

  as_told : (one : Order Script) (name : JobId) → HasWords one → Stands ended one name → IsPolledAsTold finishes.orders assembly name one
  as_told (order.Job queue job) name is stand =
      let under : finishes.orders name ≡ Some (Job queue job) = finishes.orders_are.all_of_caller name stand.from stand.there stand.counted ∙ stand.under in
      each_as {P = PollIsOwed script_meaning (at_end name.to) (seen name.to) finishes.orders} {Q = TellsItsWord finishes.orders assembly name queue job}
      (tells_word name queue job is under) (journal_of name.to assembly) (finishes.polls name.to stand.there)
  as_told (order.Create weight) name is stand = tt
  as_told (order.SetShares queue weight) name is stand = tt
  as_told (order.Close queue mode) name is stand = tt
  as_told (order.CloseCore mode) name is stand = tt
  as_told (order.Wake actor number) name is stand = tt

  by_answer : (told : Told) → HasWords told.1 → (answer : Result JobId (SendError Script)) → IfOk answer (Stands ended told.1) → IfOk answer (λ name. IsPolledAsTold finishes.orders assembly name told.1)
  by_answer told words (Err error) stand = tt
  by_answer told words (Ok name) stand = as_told told.1 name words stand

  all_polled : (orders : List Told) (old : View) (offers : OffersAll orders old ended) → old.desk.actor ≡ ended.desk.cores → old.desk.cores ≡ ended.desk.cores → ArePolledAsTold finishes.orders assembly orders old ended offers
  all_polled [] old offers actor cores = tt
  all_polled (told ∷ rest) old (between, one, others) actor cores =
      let stays = one.sends.stays.desk in (
        by_answer told one.words one.answer (stands ended told rest old between actor cores others one.answer one.sends.submits one.sends.named),
        all_polled rest between others (ap (λ (desk : DeskView Script ℕ). desk.actor) stays ∙ actor) (ap (λ (desk : DeskView Script ℕ). desk.cores) stays ∙ cores),
      )

-- each poll that the journals of a run tell of its jobs is the one that their words say
pub polled : (cores cap burst : ℕ) (queues : List Entry) (orders : List Told) (started ended : View) (assembly : Assembly ℕ) → IsStarted cores cap burst (room_of cores cap burst) queues started → (offers : OffersAll orders started ended) →
    (finishes : HasFinished script_meaning ended assembly) → ArePolledAsTold finishes.orders assembly orders started ended offers
polled cores cap burst queues orders started ended assembly starts offers finishes =
    let more = (grows orders started ended offers).cores in
    all_polled ended assembly finishes orders started offers
    (ap (λ (desk : DeskView Script ℕ). desk.actor) starts.desk ∙ (ap (λ (desk : DeskView Script ℕ). desk.cores) (sym starts.desk) ∙ sym more))
    (sym more)
