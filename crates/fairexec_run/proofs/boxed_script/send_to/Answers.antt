use Rattle.std.proofs.Common.{◌≡◌, ◌∷◌, [], refl, subst}
use Rattle.std.specs.Prelude.{Result, Ok, Err, IsOk}
use Rattle.base_words.specs.declared.names.TicketError.{TicketError}
use Rattle.base_words.specs.declared.order.Order.TheVariants.{Job}
use Rattle.base_jobs.specs.Calls.Call.{Submit, Detach}
use Rattle.base_jobs.specs.Scripts.{small_job}
use Rattle.fairexec_run.proofs.boxed_script.send_to.Goals as goal

-- a call that is accepted says no more
accepted : (answer : Result (Unit {0}) TicketError) → IsOk answer → answer ≡ Ok tt
accepted (Ok done) is = refl
accepted (Err error) is = cc

pub returns-in-Ok : goal.returns-in-Ok
returns-in-Ok g c =
    let detached = accepted c.detach-detached.result (c.detach-detached.ensures.waits c.in-Ok.ensures.waits) in
    rw c.in-Some.is (
      Submit c.in-Some.place.0 (Job c.in-Some.place.1 small_job) (Ok c.in-Ok.ticket) ∷ Detach c.in-Ok.ticket (Ok tt) ∷ [],
      record { answer = Ok c.in-Ok.ticket; are = refl },
      (
        c.submit.new.self,
        c.in-Ok.ensures.does,
        (
          c.detach-detached.new.self,
          subst (λ answer. g.P.Post.Does c.submit.new.self (Detach c.in-Ok.ticket answer) c.detach-detached.new.self) detached c.detach-detached.ensures.does,
          refl,
        ),
      ),
    )

pub returns-in_default-submit : goal.returns-in_default-submit
returns-in_default-submit g c =
    let refused = c.in_default-submit.field-0 in
    rw c.in-Some.is (
      Submit c.in-Some.place.0 (Job c.in-Some.place.1 small_job) (Err refused) ∷ [],
      record { answer = Err refused; are = refl },
      (c.submit.new.self, c.in_default-submit.ensures.does, refl),
    )
