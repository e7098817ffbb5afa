use Rattle.judge_audit.proofs.Names.{accepted_orders, ap, arith, below_more, delivered_names, DeliveriesOff, IsLeast, IsPrefix, journal_of, name_delivered, names_of, refl, subst, ℕ, ◌+◌, ◌∙◌, ◌≡◌}
use Rattle.judge_audit.proofs.ToldNames.{none_off, told_at_place}
use Rattle.judge_audit.proofs.LeastLines.{prefix_least}
use Rattle.judge_audit.proofs.LinksOff.{next_delivered}
use Rattle.judge_audit.proofs.places.deliveries_line.Goals as goal

pub loop-sender-init : goal.loop-sender-init
loop-sender-init c = record {
  kept = λ none sender within. absurd (omega (arith, within));
  only = λ whole. refl;
  least = λ line off. absurd (omega (arith, off.few));
}

pub loop-sender-preserved : goal.loop-sender-preserved
loop-sender-preserved c =
    let delivered = c.journal-delivered.ensures ∙ ap (λ (actor : ℕ). journal_of actor c.args.assembly.now) c.core.view_is in
    record {
      kept =
          λ none.
          let both = c.first_line-line.ensures.kept none in
          below_more
          (
          λ (sender : ℕ).
          IsPrefix (delivered_names sender (journal_of c.args.core c.args.assembly.now))
          (names_of (accepted_orders c.args.core (journal_of sender c.args.assembly.now)))
          )
          c.loop-sender.sender (c.loop-sender.invariant.kept both.0)
          (rw (delivered, c.journal-sent.ensures) at (c.deliveries_fault-fault.ensures.kept both.1));
      only =
          λ whole.
          c.first_line-line.ensures.only (c.loop-sender.invariant.only whole)
          (
          none_off (delivered_names c.loop-sender.sender) (told_at_place (name_delivered c.loop-sender.sender))
          (journal_of c.args.core c.args.assembly.now) _ c.deliveries_fault-fault.result
          (rw (delivered, c.journal-sent.ensures) at c.deliveries_fault-fault.ensures.named)
          (whole c.loop-sender.sender (omega arith))
          );
      least =
          rw c.first_line-line.ensures.value
          (
          next_delivered c.args.assembly.now c.args.core c.loop-sender.sender c.loop-sender.line c.deliveries_fault-fault.result c.loop-sender.invariant.least
          (
          prefix_least (delivered_names c.loop-sender.sender) (told_at_place (name_delivered c.loop-sender.sender))
          (journal_of c.args.core c.args.assembly.now) (names_of (accepted_orders c.args.core (journal_of c.loop-sender.sender c.args.assembly.now)))
          c.deliveries_fault-fault.result (rw (delivered, c.journal-sent.ensures) at c.deliveries_fault-fault.ensures.kept)
          (rw (delivered, c.journal-sent.ensures) at c.deliveries_fault-fault.ensures.named)
          )
          );
    }

pub returns : goal.returns
returns c =
    let all : c.loop-sender.sender ≡ c.args.assembly.now.cores + 1 = omega arith in
    record {
      kept = λ none sender within. c.loop-sender.invariant.kept none sender (omega arith);
      only = c.loop-sender.invariant.only;
      least =
          subst (λ (count : ℕ). IsLeast (DeliveriesOff c.args.assembly.now c.args.core count) c.loop-sender.line) all c.loop-sender.invariant.least;
    }
