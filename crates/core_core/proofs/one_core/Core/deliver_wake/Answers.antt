use Rattle.core_core.proofs.Names.{ap, CoreView, false, job_at, subst, true, Wakes, ℕ, [], ◌∙◌, ◌∷◌, ◌≡◌}
use Rattle.base_words.specs.declared.note.Note.TheVariants as notes
use Rattle.base_words.specs.declared.order.Answer.TheVariants as answers
use Rattle.core_core.proofs.Outcomes.{wakes_counted}
use Rattle.core_core.proofs.one_core.Core.deliver_wake.Goals as goal

pub count-requires : goal.count-requires
count-requires g c = c.requires

pub returns-then-wake-clause-bounded : goal.returns-then-wake-clause-bounded
returns-then-wake-clause-bounded g c = c.wake.ensures.bounded

pub returns-clause-bounded : goal.returns-clause-bounded
returns-clause-bounded g c = c.wake.ensures.bounded

pub returns-then-wake-clause-delivers : goal.returns-then-wake-clause-delivers
returns-then-wake-clause-delivers g c =
    let core : c.self.inside.core ≡ c.count.new.self.core = ap (λ (view : CoreView g.row.J.Denot). view.core) c.self.view_is in
    let counts = c.count.ensures.counts in
    let whole : c.self.inside.core ≡ c.args.self.now.core = core ∙ ap (λ (view : CoreView g.row.J.Denot). view.core) counts in
    let wakes = subst (λ (at : ℕ). Wakes c.count.new.self (job_at at c.args.actor c.args.number) true c.wake.new.self) core c.if-wake.ensures.wakes in (
      wakes_counted c.args.self.now c.count.new.self c.wake.new.self c.args.name c.args.actor c.args.number true counts wakes,
      c.two_notes.ensures ∙ (λ i. notes.Answered c.args.name answers.Woken ∷ notes.Woken (job_at (whole i) c.args.actor c.args.number) ∷ []),
    )

pub returns-clause-delivers : goal.returns-clause-delivers
returns-clause-delivers g c =
    let core : c.self.inside.core ≡ c.count.new.self.core = ap (λ (view : CoreView g.row.J.Denot). view.core) c.self.view_is in
    let wakes = subst (λ (at : ℕ). Wakes c.count.new.self (job_at at c.args.actor c.args.number) false c.wake.new.self) core c.if-wake.ensures.wakes in
    (wakes_counted c.args.self.now c.count.new.self c.wake.new.self c.args.name c.args.actor c.args.number false c.count.ensures.counts wakes, c.one_note.ensures)
