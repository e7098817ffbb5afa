use Rattle.std.proofs.Common.{ℕ, sym, subst, ap, ◌∙◌}
use Rattle.note_sinks.specs.Ledgers.{LedgerView, KnowsLedger, park_named}
use Rattle.note_sinks.proofs.LedgerLemmas.{fits_next, knows_next}
use Rattle.note_sinks.proofs.ledger.Ledger.add.Goals as goal

pub returns-clause-known : goal.returns-clause-known
returns-clause-known c =
    λ terms burst before notes short knows.
    let known = subst (λ (view : LedgerView). KnowsLedger {T = ℕ} burst view before) (sym c.self.view_is) knows in
    let parked = c.park_named.ensures ∙ ap (λ (view : LedgerView). park_named view c.args.note.now) (sym c.self.view_is) in
    let fits = fits_next terms burst _ c.args.self.now before notes.1 short known c.args.note.now _ notes.0 c.queue_named.ensures parked in
    knows_next terms burst _ _ before notes.1 short known c.args.note.now notes.0 c.picked_after-self-inside.ensures c.add-2.ensures.naps c.add-3.ensures
    (c.add.ensures burst before short fits known.figures)
