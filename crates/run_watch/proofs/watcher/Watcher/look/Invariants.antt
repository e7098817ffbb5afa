use Rattle.std.proofs.Common.{◌≡◌}
use Rattle.run_watch.proofs.watcher.Watcher.look.Given as goal

abbrev pub invariant-loop : goal.invariant-loop
invariant-loop l = record { board : l.self.board ≡ l.fn.self.board; terms : l.self.terms ≡ l.fn.self.terms; notes : l.self.notes ≡ l.fn.self.notes; count : l.self.count ≡ l.fn.self.count; closed : l.self.closed ≡ l.fn.self.closed }
