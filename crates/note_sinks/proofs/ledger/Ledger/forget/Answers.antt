use Rattle.std.proofs.Common.{ℕ, refl, sym, subst}
use Rattle.note_sinks.specs.Ledgers.{LedgerView, KnowsLedger}
use Rattle.note_sinks.proofs.LedgerLemmas.{known_again}
use Rattle.note_sinks.proofs.ledger.Ledger.forget.Goals as goal

pub returns : goal.returns
returns c =
    λ burst journal knows.
    let known = subst (λ (view : LedgerView). KnowsLedger {T = ℕ} burst view journal) (sym c.self.view_is) knows in
    known_again _ _ refl refl refl c.forget_all.ensures burst journal known
