use Rattle.std.proofs.Common.{◌≡◌, ◌∷◌, [], refl, subst}
use Rattle.std.specs.Prelude.{Result, Ok, Err, IsOk}
use Rattle.base_words.specs.declared.names.TicketError.{TicketError}
use Rattle.base_words.specs.declared.order.Order.TheVariants.{Job}
use Rattle.base_jobs.specs.Calls.Call.{Submit, Detach}
use Rattle.base_jobs.specs.Scripts.{Script, small_job}
use Rattle.base_jobs.proofs.script.send_small.Goals as goal

-- a call that is accepted says no more
accepted : (answer : Result (Unit {0}) TicketError) → IsOk answer → answer ≡ Ok tt
accepted (Ok done) is = refl
accepted (Err error) is = cc

pub returns-in-Ok : goal.returns-in-Ok
returns-in-Ok g c =
    let small : c.done.result ≡ small_job = λ i. record { polls = c.done.ensures.polls i; polled = c.done.ensures.fresh i } in
    let detached = accepted c.detach-detached.result (c.detach-detached.ensures.waits c.in-Ok.ensures.waits) in
    record {
      posts = (
        Submit c.args.core (Job c.args.queue small_job) (Ok c.in-Ok.ticket) ∷ Detach c.in-Ok.ticket (Ok tt) ∷ [],
        record { answer = Ok c.in-Ok.ticket; are = refl },
        (
          c.submit.new.self,
          subst (λ (job : Script). g.P.Post.Does c.args.post.now (Submit c.args.core (Job c.args.queue job) (Ok c.in-Ok.ticket)) c.submit.new.self) small c.in-Ok.ensures.does,
          (
            c.detach-detached.new.self,
            subst (λ answer. g.P.Post.Does c.submit.new.self (Detach c.in-Ok.ticket answer) c.detach-detached.new.self) detached c.detach-detached.ensures.does,
            refl,
          ),
        ),
      );
    }

pub returns-in_default : goal.returns-in_default
returns-in_default g c =
    let small : c.done.result ≡ small_job = λ i. record { polls = c.done.ensures.polls i; polled = c.done.ensures.fresh i } in
    let refused = c.in_default.field-0 in
    record {
      posts = (
        Submit c.args.core (Job c.args.queue small_job) (Err refused) ∷ [],
        record { answer = Err refused; are = refl },
        (
          c.submit.new.self,
          subst (λ (job : Script). g.P.Post.Does c.args.post.now (Submit c.args.core (Job c.args.queue job) (Err refused)) c.submit.new.self) small c.in_default.ensures.does,
          refl,
        ),
      );
    }
