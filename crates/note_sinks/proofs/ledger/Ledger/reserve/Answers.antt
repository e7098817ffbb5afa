use Rattle.std.proofs.Common.{ℕ, refl, sym, subst}
use Rattle.note_sinks.specs.Ledgers.{LedgerView, KnowsLedger}
use Rattle.note_sinks.proofs.LedgerLemmas.{known_again, rest_alike}
use Rattle.note_sinks.proofs.ledger.Ledger.reserve.Goals as goal

pub returns-clause-known : goal.returns-clause-known
returns-clause-known c =
    λ burst journal knows.
    let known = subst (λ (view : LedgerView). KnowsLedger {T = ℕ} burst view journal) (sym c.self.view_is) knows in
    known_again _ _ refl refl refl (rest_alike c.self.inside.endings _ _ c.reserve_all.ensures.naps) burst journal known
