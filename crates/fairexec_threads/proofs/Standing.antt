-- An order of a script that was accepted stands under its name until the end.
use Rattle.std.proofs.Common.{◌≡◌, ◌≢◌, ℕ, ◌-◌, ◌<◌, ◌++◌, List, [], ◌∷◌, Some, Result, Ok, Err, sym, ap, subst, ◌∙◌, arith, ⊎_elim}
use Rattle.std.proofs.lemmas.Bool.{cases_eq}
use Rattle.std.proofs.lemmas.List.{append-nil}
use Rattle.std.specs.Prelude.{IfOk}
use Rattle.base_words.specs.declared.names.JobId.{JobId}
use Rattle.base_words.specs.declared.order.Order.{Order}
use Rattle.base_words.specs.declared.order.SendError.{SendError}
use Rattle.base_words.specs.Assembly.{IsPrefix}
use Rattle.base_words.proofs.Prefixes.{IsPrefix-along}
use Rattle.base_jobs.specs.Scripts.{Script}
use Rattle.actor_desk.specs.Submissions.{Submits}
use Rattle.link_ends.proofs.Lists.{slice_get-seen}
use Rattle.run_runtime.specs.Sends.{SendsTo, accepted}
use Rattle.run_runtime.specs.State.{RuntimeView, submitted, submitted_under}
use Rattle.fairexec_script.specs.Orders.{Told}
use Rattle.fairexec_threads.specs.Offers.{OffersAll}

abbrev pub View : Type 0
View = RuntimeView Script ℕ

-- a send lets the orders stand that were submitted before
sent_before : (core : ℕ) (order : Order Script) (old : View) (answer : Result JobId (SendError Script)) (new : View) → SendsTo core order old answer new → (to : ℕ) → IsPrefix (submitted to old) (submitted to new)
sent_before core order old answer new sends to =
    ⊎_elim
    (λ (same : to ≡ core). (accepted order answer, subst (λ to. submitted to new ≡ submitted to old ++ accepted order answer) (sym same) sends.orders))
    (λ (away : to ≢ core). ([], sends.others to away ∙ sym (append-nil (submitted to old))))
    (cases_eq to core)

-- so do all
all_before : (orders : List Told) (old new : View) → OffersAll orders old new → (to : ℕ) → IsPrefix (submitted to old) (submitted to new)
all_before [] old new same to = ([], ap (λ (view : View). submitted to view) same ∙ sym (append-nil (submitted to old)))
all_before (told ∷ rest) old new (between, one, others) to =
    IsPrefix-along (submitted to old) (submitted to between) (submitted to new) (sent_before told.0 told.1 old one.answer between one.sends to) (all_before rest between new others to)

-- the order was submitted under this name
pub record Stands (ended : View) (order : Order Script) (name : JobId) : Type 0 where
  pub from : name.from ≡ ended.desk.cores
  pub there : name.to < ended.desk.cores
  pub counted : 0 < name.number
  pub under : submitted_under name ended ≡ Some order

pub stands : (ended : View) (told : Told) (rest : List Told) (old between : View) → old.desk.actor ≡ ended.desk.cores → old.desk.cores ≡ ended.desk.cores → OffersAll rest between ended →
    (answer : Result JobId (SendError Script)) → Submits told.0 told.1 old.desk answer between.desk → IfOk answer (λ name. submitted_under name between ≡ Some told.1) →
    IfOk answer (Stands ended told.1)
stands ended told rest old between actor cores others (Err error) submits named = tt
stands ended told rest old between actor cores others (Ok name) submits named =
    let receiver = submits.0.receiver in
    let next = submits.0.next in
    record {
      from = submits.0.sender ∙ actor;
      there = omega (arith, receiver, cores);
      counted = omega (arith, next);
      under = slice_get-seen (submitted name.to ended) (submitted name.to between) (all_before rest between ended others name.to) (name.number - 1) told.1 named;
    }
