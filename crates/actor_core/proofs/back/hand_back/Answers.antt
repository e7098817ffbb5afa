use Rattle.std.proofs.Common.{◌≤◌, sym, subst}
use Rattle.actor_core.proofs.OwedSteps.{picks_keep}
use Rattle.actor_core.specs.Whole.{StaysPut}
use Rattle.actor_core.proofs.KeptAround.{handed_back, kept_around, none_behind_back, owed_then, sent_under}
use Rattle.actor_core.proofs.back.hand_back.Goals as goal

pub back_of-name-requires : goal.back_of-name-requires
back_of-name-requires g c = c.pick.ensures.back c.requires.ahead

pub give_back_on-requires : goal.give_back_on-requires
give_back_on-requires g c =
    let did = handed_back c.pick.result c.back_of-name.ensures c.pick.ensures.picks in
    let stays : StaysPut c.args.core.now c.pick.new.self = record { seat = c.pick.ensures.seat; outs = c.pick.ensures.outs; lanes = c.pick.ensures.lanes } in
    record {
      known = subst (λ cores. c.back_of-name.result.0.from ≤ cores) (sym c.pick.ensures.seat.cores) (c.requires.rest.recorded.taken _ _ did.task).sender;
      sent = sent_under did;
      owing = kept_around c.requires.rest.beside _ (owed_then c.back_of-name.ensures c.pick.ensures.ins) stays;
    }

pub returns-clause-back : goal.returns-clause-back
returns-clause-back g c =
    let did = handed_back c.pick.result c.back_of-name.ensures c.pick.ensures.picks in
    record {
      name = c.back_of-name.result.0;
      reason = c.back_of-name.result.1;
      order = c.back_of-name.result.2;
      did = did;
      stays = record { seat = c.pick.ensures.seat; outs = c.pick.ensures.outs; lanes = c.pick.ensures.lanes };
      gives = c.give_back_on.ensures.gives;
      rests = record { recorded = c.pick.ensures.sound; free = did.out; beside = c.give_back_on.ensures.around };
    }

pub returns-clause-no_turn : goal.returns-clause-no_turn
returns-clause-no_turn g c = none_behind_back (handed_back c.pick.result c.back_of-name.ensures c.pick.ensures.picks)

pub returns-clause-owed : goal.returns-clause-owed
returns-clause-owed g c = λ owed. c.give_back_on.ensures.owed (picks_keep g.J.Task.meaning _ c.args.core.now c.pick.new.self c.pick.ensures.seat c.pick.result c.pick.ensures.picks owed)
