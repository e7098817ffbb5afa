use Rattle.judge_audit.proofs.Names.{EachNote, IsFirstFault, IsLeast, Journal, journal_of, LinksOff, OrderOff, refl, StandsInOrder, subst, terms_of, ℕ}
use Rattle.judge_audit.proofs.LeastLines.{both_least, notes_least, least_some}
use Rattle.judge_audit.proofs.NoFaults.{if_found}
use Rattle.judge_audit.proofs.places.order_line.Goals as goal

pub returns-clause-kept : goal.returns-clause-kept
returns-clause-kept c =
    λ none.
    let both = c.first_line.ensures.kept none in
    let links = c.links_line.ensures.kept both.1 in
    record {
      notes =
          subst (λ (journal : Journal ℕ). EachNote (StandsInOrder c.args.assembly.now) journal) c.journal-journal.ensures
          (
          c.order_fault-notes.ensures.kept both.0 c.args.assembly.now c.requires.orders
          (
          rw c.journal-journal.ensures (c.requires.starts.notes c.args.actor c.requires.here)
          )
          );
      deliveries = links.0;
      collections = links.1;
    }

pub returns-clause-named : goal.returns-clause-named
returns-clause-named c =
    let P = StandsInOrder c.args.assembly.now in
    let notes : IsLeast (IsFirstFault P (journal_of c.args.actor c.args.assembly.now)) c.order_fault-notes.result =
    subst (λ (journal : Journal ℕ). IsLeast (IsFirstFault P journal) c.order_fault-notes.result) c.journal-journal.ensures
    (
    notes_least P c.journal-journal.result.now.notes c.order_fault-notes.result
    (
    λ none.
    c.order_fault-notes.ensures.kept none c.args.assembly.now c.requires.orders
    (rw c.journal-journal.ensures (c.requires.starts.notes c.args.actor c.requires.here))
    )
    (
    if_found c.order_fault-notes.result _ _
    (
    λ at found.
    found c.args.assembly.now (terms_of c.args.actor c.args.assembly.now) c.requires.few refl c.requires.orders
    (rw c.journal-journal.ensures (c.requires.spelled.notes c.args.actor c.requires.here))
    (rw c.journal-journal.ensures (c.requires.starts.notes c.args.actor c.requires.here))
    )
    c.order_fault-notes.ensures.named
    )
    ) in
    least_some (OrderOff c.args.assembly.now c.args.actor) c.first_line.result
    (
    rw c.first_line.ensures.value
    (
    both_least (IsFirstFault P (journal_of c.args.actor c.args.assembly.now)) (LinksOff c.args.assembly.now c.args.actor) c.order_fault-notes.result
    c.links_line.result notes c.links_line.ensures.least
    )
    )
