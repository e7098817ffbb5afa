use Rattle.run_worker.proofs.Names.{ap, final_count, is_some, sym, ◌∙◌}
use Rattle.run_worker.proofs.Gated.{leaves_then, leaves_else}
use Rattle.run_worker.proofs.gates.shut_if_open.Goals.{then-not-shut, else-not-shut}
use Rattle.run_worker.proofs.gates.shut_if_open.Goals as goal

pub returns-clause-leaves : goal.returns-clause-leaves
returns-clause-leaves g c =
    elim c.if-not-shut.branch [
      | then-not-shut w ↦ leaves_then c.args.sender c.args.seat.now c.if-not-shut.seat c.requires.known c.look_at.ensures w.shut.new.self w.seat-is (w.shut.ensures.linked c.requires.linked) w.shut.ensures.does
      | else-not-shut w ↦ leaves_else c.args.sender c.args.seat.now c.if-not-shut.seat c.requires.known c.look_at.ensures w.seat-is c.requires.linked
          (ap (λ recorded. is_some (final_count c.args.sender recorded.journal.notes)) (sym c.recorded.ensures.same) ∙ (sym (ap is_some c.gate.ensures) ∙ sym w.if-not-shut.ensures))
    ]
