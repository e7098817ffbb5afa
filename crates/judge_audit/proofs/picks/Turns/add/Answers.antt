use Rattle.std.proofs.Common.{sym, ◌∙◌, ap, subst, arith}
use Rattle.std.specs.Prelude.{Option, ◌∷◌}
use Rattle.judge_audit.specs.declared.turns.OpenTurn.{OpenTurn}
use Rattle.judge_audit.specs.OpenTurns.{KnowsTurn}
use Rattle.judge_audit.specs.Picks.{out_list}
use Rattle.judge_audit.proofs.OpenTurns.{turn_next}
use Rattle.judge_audit.proofs.PickSteps.{out_next}
use Rattle.judge_audit.proofs.picks.Turns.add.Goals as goal

pub returns : goal.returns
returns c =
    λ before short facts fits right knows.
    record {
      accounts = c.count.ensures.known before (c.spot-spot.ensures before facts) short knows.accounts;
      tree = c.count.ensures.tree;
      waiting = c.count.ensures.waiting before knows.accounts knows.waiting;
      out = out_next c.args.self.now.out before knows.out c.args.note.now fits ∙ ap out_list (sym c.out_after-out.ensures);
      picked = sym (c.queue_picked-self.ensures before);
      turn =
          subst (λ (turn : Option OpenTurn). KnowsTurn c.args.burst turn (c.args.note.now ∷ before)) (sym c.turn_after-turn.ensures)
          (turn_next c.args.burst before c.args.self.now.picked c.args.self.now.turn (omega arith) knows.picked knows.turn c.args.note.now right);
    }
