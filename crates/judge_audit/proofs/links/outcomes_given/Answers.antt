use Rattle.judge_audit.proofs.Names.{ap, arith, Journal, journal_of, KnowsOutcomesOf, outcome_in, refl, subst, ℕ, ◌+◌, ◌∙◌, ◌≡◌}
use Rattle.judge_audit.proofs.LinkTables.{next_table, all_known}
use Rattle.judge_audit.proofs.links.outcomes_given.Goals as goal

pub loop-actor-preserved : goal.loop-actor-preserved
loop-actor-preserved c =
    rw c.in_ok-push.ensures.items
    (
    next_table outcome_in c.args.assembly.now _ c.in_ok-outcomes_of.field-0 c.loop-actor.actor c.loop-actor.invariant
    (subst (λ (journal : Journal ℕ). KnowsOutcomesOf c.in_ok-outcomes_of.field-0 journal) c.journal.ensures c.in_ok-outcomes_of.ensures)
    )

pub returns : goal.returns
returns c =
    let last : c.cores-outside.result ≡ c.loop-actor.actor = omega arith in
    λ name.
    all_known outcome_in c.args.assembly.now c.push-2.new.self.items (c.loop-actor.actor + 1)
    (
    rw c.in_ok-push-2.ensures.items
    (
    next_table outcome_in c.args.assembly.now c.loop-actor.outcomes.items c.in_ok-outcomes_of-2.field-0 c.loop-actor.actor c.loop-actor.invariant
    (
    subst (λ (journal : Journal ℕ). KnowsOutcomesOf c.in_ok-outcomes_of-2.field-0 journal)
    (c.journal-2.ensures ∙ ap (λ (actor : ℕ). journal_of actor c.args.assembly.now) last) c.in_ok-outcomes_of-2.ensures
    )
    )
    )
    (omega (arith, c.cores-outside.ensures.journals, c.cores-outside.ensures.value, last))
    (λ other. refl) name.to name
