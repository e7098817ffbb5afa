use Rattle.judge_audit.proofs.Names.{arith, below_more, EachNote, IsHistory, IsPickFault, Journal, journal_of, None, PicksOf, PicksRight, subst, sym, terms_of, ℕ, ◌≡◌}
use Rattle.base_words.specs.Clauses.{queue_just_picked}
use Rattle.judge_audit.proofs.places.picks_place.Goals as goal

pub picks_fault-requires : goal.picks_fault-requires
picks_fault-requires c =
    subst (λ (journal : Journal ℕ). IsHistory c.history_of-history.result.now journal) (sym c.journal-journal.ensures)
    (c.requires.histories.each c.loop-core.core c.history_of-history.result.now c.history_of-history.ensures)

pub loop-core-preserved : goal.loop-core-preserved
loop-core-preserved c =
    let kept =
    subst (λ (burst : ℕ). EachNote (PicksRight burst) (journal_of c.loop-core.core c.args.assembly.now) × (queue_just_picked (journal_of c.loop-core.core c.args.assembly.now) ≡ None))
    c.burst.ensures
    (
    subst (λ (journal : Journal ℕ). EachNote (PicksRight c.burst.result) journal × (queue_just_picked journal ≡ None)) c.journal-journal.ensures
    (c.picks_fault.ensures.kept c.in_default.is)
    ) in
    below_more (PicksOf c.args.assembly.now) c.loop-core.core c.loop-core.invariant (record { notes = kept.0; last_followed = kept.1 })

pub returns-in-Some-clause-named : goal.returns-in-Some-clause-named
returns-in-Some-clause-named c = record {
  within = omega arith;
  before = c.loop-core.invariant;
  here =
      subst (λ (burst : ℕ). IsPickFault burst (journal_of c.loop-core.core c.args.assembly.now) c.in-Some.line) c.burst.ensures
      (
      subst (λ (journal : Journal ℕ). IsPickFault c.burst.result journal c.in-Some.line) c.journal-journal.ensures
      (
      c.in-Some.ensures.named (terms_of c.loop-core.core c.args.assembly.now)
      (rw c.journal-journal.ensures (c.requires.spelled.notes c.loop-core.core (omega arith)))
      )
      );
}

pub returns-clause-kept : goal.returns-clause-kept
returns-clause-kept c =
    λ none.
    record {
      notes = λ core within. (c.loop-core.invariant core (omega arith)).notes;
      last_followed = λ core within. (c.loop-core.invariant core (omega arith)).last_followed;
    }
