use Rattle.judge_audit.proofs.Names.{arith, below_more, EachNote, IsFirstFault, IsHistory, Journal, StartsOf, StartsRight, subst, sym, ℕ}
use Rattle.judge_audit.proofs.places.starts_place.Goals as goal

pub starts_fault-requires : goal.starts_fault-requires
starts_fault-requires c =
    subst (λ (journal : Journal ℕ). IsHistory c.history_of-history.result.now journal) (sym c.journal-journal.ensures)
    (c.requires.histories.each c.loop-actor.actor c.history_of-history.result.now c.history_of-history.ensures)

pub loop-actor-preserved : goal.loop-actor-preserved
loop-actor-preserved c =
    below_more (StartsOf c.args.assembly.now) c.loop-actor.actor c.loop-actor.invariant
    (
    subst (λ (journal : Journal ℕ). EachNote (StartsRight c.args.assembly.now) journal) c.journal-journal.ensures
    (c.starts_fault.ensures.kept c.in_default.is c.args.assembly.now c.requires.orders)
    )

pub returns-in-Some-clause-named : goal.returns-in-Some-clause-named
returns-in-Some-clause-named c = record {
  within = omega arith;
  before = c.loop-actor.invariant;
  here =
      subst (λ (journal : Journal ℕ). IsFirstFault (StartsRight c.args.assembly.now) journal c.in-Some.line) c.journal-journal.ensures
      (c.in-Some.ensures.named c.args.assembly.now c.requires.orders);
}

pub returns-clause-kept : goal.returns-clause-kept
returns-clause-kept c = λ none. record { notes = λ actor within. c.loop-actor.invariant actor (omega arith) }
