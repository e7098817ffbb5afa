use Rattle.std.proofs.Common.{sym, subst, ap, ◌∙◌}
use Rattle.host_core.specs.Hosted.{IsRunOf}
use Rattle.host_core.specs.Takings.{told_taking}
use Rattle.host_core.proofs.TakenOut.{refusal_told, turn_hosted, turn_runs}
use Rattle.host_core.proofs.turns.go_on.Goals as goal

pub returns : goal.returns
returns c =
    let took = c.take_out.ensures in
    record {
      goes = record { turned = took.turned; turns = took.turns; told_is = c.told_turn.ensures.told ∙ ap told_taking took.out_is; refused = refusal_told _ c.take_out.result c.told_turn.result.0 c.told_turn.ensures.told took.refused };
      runs = subst (λ run. IsRunOf c.take_out.new.seat.recorded.core.out run) (sym c.told_turn.ensures.run) (turn_runs took c.requires.rest);
      hosted = turn_hosted took c.requires.room;
      stays = took.stays;
    }
