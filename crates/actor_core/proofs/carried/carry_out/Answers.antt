use Rattle.actor_core.proofs.Names.{◌≡◌, ℕ, [], ◌∷◌, sym, subst, CoreDelivers, CoreView, Delivered, Envelope, Job}
use Rattle.core_core.specs.Answers.{note_told}
use Rattle.actor_core.proofs.carried.carry_out.Goals as goal

-- what a core does with a job, it does with the order of that job
module _ {J : Type 0} (core new : CoreView J) (envelope : Envelope J) {queue : ℕ} {job : J} (is : envelope.order ≡ Job queue job) where
  of_order : {delivered done : Delivered J} → delivered ≡ done →
      CoreDelivers {T = ℕ} core envelope.name (Job queue job) delivered new (note_told envelope.name queue delivered ∷ []) →
      CoreDelivers {T = ℕ} core envelope.name envelope.order done new (note_told envelope.name queue done ∷ [])
  of_order {done = done} came does =
      subst (λ order. CoreDelivers {T = ℕ} core envelope.name order done new (note_told envelope.name queue done ∷ [])) (sym is)
      (subst (λ told. CoreDelivers {T = ℕ} core envelope.name (Job queue job) told new (note_told envelope.name queue told ∷ [])) came does)

pub write-requires : goal.write-requires
write-requires g c =
    assumption (c.requires.may_note _ _ _ (of_order c.args.core.now c.deliver_job.new.self c.args.envelope c.in-Job.is c.in-Took.is c.deliver_job.ensures.delivers))

pub write-requires-in-Back : goal.write-requires-in-Back
write-requires-in-Back g c =
    assumption (c.requires.may_note _ _ _ (of_order c.args.core.now c.deliver_job.new.self c.args.envelope c.in-Job.is c.in-Back.is c.deliver_job.ensures.delivers))

pub returns-in-Took : goal.returns-in-Took
returns-in-Took g c = record { notes = _; delivers = of_order c.args.core.now c.deliver_job.new.self c.args.envelope c.in-Job.is c.in-Took.is c.deliver_job.ensures.delivers; written = c.write.ensures }

pub returns-in-Back : goal.returns-in-Back
returns-in-Back g c = record { notes = _; delivers = of_order c.args.core.now c.deliver_job.new.self c.args.envelope c.in-Job.is c.in-Back.is c.deliver_job.ensures.delivers; written = c.write-in-Back.ensures }
