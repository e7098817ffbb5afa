-- The journals tell an outcome of each order of a script, and it is what the order asks.
use Rattle.std.proofs.Common.{◌≡◌, ℕ, List, [], ◌∷◌, Result, Ok, Err, sym, ap, ◌∙◌}
use Rattle.std.specs.Prelude.{IfOk}
use Rattle.base_words.specs.declared.names.JobId.{JobId}
use Rattle.base_words.specs.declared.order.SendError.{SendError}
use Rattle.base_words.specs.Assembly.{Assembly}
use Rattle.base_jobs.specs.ScriptMeaning.{script_meaning}
use Rattle.base_jobs.specs.Scripts.{Script}
use Rattle.actor_desk.specs.Submissions.{DeskView}
use Rattle.run_runtime.specs.Calls.{IsStarted, HasFinished, MayActWhole, orders_told}
use Rattle.run_config.specs.Configs.{Entry}
use Rattle.fairexec_script.specs.Orders.{Told}
use Rattle.fairexec_threads.specs.Offers.{OffersAll}
use Rattle.run_runtime.specs.Laws.{IsToldOf}
use Rattle.run_runtime.proofs.Outcomes.{submitted_told}
use Rattle.fairexec_threads.specs.Accepted.{AreAnswered, room_of}
use Rattle.fairexec_threads.proofs.Sending.{grows}
use Rattle.fairexec_threads.proofs.Standing.{View, Stands, stands}

module _ (ended : View) (assembly : Assembly ℕ) (finishes : HasFinished script_meaning ended assembly) where
  by_answer : (told : Told) (answer : Result JobId (SendError Script)) → IfOk answer (Stands ended told.1) → IfOk answer (λ name. IsToldOf script_meaning assembly name told.1)
  by_answer told (Err error) stand = tt
  by_answer told (Ok name) stand =
      submitted_told script_meaning ended assembly name told.1 stand.from stand.there stand.counted stand.under
      (orders_told {J = Script} {meaning = script_meaning} {may = MayActWhole ended} {view = ended} {assembly = assembly} finishes)

  all_answered : (orders : List Told) (old : View) (offers : OffersAll orders old ended) → old.desk.actor ≡ ended.desk.cores → old.desk.cores ≡ ended.desk.cores → AreAnswered orders old ended offers assembly
  all_answered [] old offers actor cores = tt
  all_answered (told ∷ rest) old (between, one, others) actor cores =
      let stays = one.sends.stays.desk in (
        by_answer told one.answer (stands ended told rest old between actor cores others one.answer one.sends.submits one.sends.named),
        all_answered rest between others (ap (λ (desk : DeskView Script ℕ). desk.actor) stays ∙ actor) (ap (λ (desk : DeskView Script ℕ). desk.cores) stays ∙ cores),
      )

-- the journals of a run tell an outcome of each of its orders, and it is what the order asks
pub answered : (cores cap burst : ℕ) (queues : List Entry) (orders : List Told) (started ended : View) (assembly : Assembly ℕ) → IsStarted cores cap burst (room_of cores cap burst) queues started → (offers : OffersAll orders started ended) →
    HasFinished script_meaning ended assembly → AreAnswered orders started ended offers assembly
answered cores cap burst queues orders started ended assembly starts offers finishes =
    let more = (grows orders started ended offers).cores in
    all_answered ended assembly finishes orders started offers
    (ap (λ (desk : DeskView Script ℕ). desk.actor) starts.desk ∙ (ap (λ (desk : DeskView Script ℕ). desk.cores) (sym starts.desk) ∙ sym more))
    (sym more)
