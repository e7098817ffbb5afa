use Rattle.judge_audit.proofs.Names.{accepted_orders, delivered_names, DeliveriesOf, DeliveriesOff, IsLeast, IsPrefix, journal_of, names_of, None, ℕ, ◌<◌, ◌≡◌}
use Rattle.judge_audit.proofs.places.deliveries_line.Given as goal

abbrev pub invariant-loop-sender : goal.invariant-loop-sender
invariant-loop-sender l = record {
  kept : l.line ≡ None → (sender : ℕ) → sender < l.sender →
      IsPrefix (delivered_names sender (journal_of l.core l.assembly)) (names_of (accepted_orders l.core (journal_of sender l.assembly)));
  only : DeliveriesOf l.assembly l.core → l.line ≡ None;
  least : IsLeast (DeliveriesOff l.assembly l.core l.sender) l.line;
}
