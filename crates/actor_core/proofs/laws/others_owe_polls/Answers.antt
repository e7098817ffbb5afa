use Rattle.actor_core.specs.OwedPolls.{seen_by}
use Rattle.actor_core.proofs.SeenEnds.{seen_got}
use Rattle.actor_core.proofs.OwedSteps.{delivers_keep, creates_keep, shuts_keep, closes_keep, picks_keep, follows_keep, ends_keep, collects_keep, submits_keep, redeems_keep, detaches_keep}
use Rattle.actor_core.proofs.laws.others_owe_polls.Goals as goal

pub returns-clause-seen : goal.returns-clause-seen
returns-clause-seen g c ends core was end there gets = seen_got g.O.OutEnd.out ends core was end there gets

pub returns-clause-steps : goal.returns-clause-steps
returns-clause-steps g c ends old new =
    let meaning = g.J.Task.meaning in
    let seen = seen_by g.O.OutEnd.out ends in (
      λ seat. record {
        delivery = delivers_keep meaning seen old new seat;
        creation = creates_keep meaning seen old new seat;
        gate = shuts_keep meaning seen old new seat;
        closing = closes_keep meaning seen old new seat;
        pick = picks_keep meaning seen old new seat;
        further = follows_keep meaning seen old new seat;
        end = ends_keep meaning seen old new seat;
      },
      λ rest. record {
        collection = collects_keep meaning seen old new rest;
        submission = submits_keep meaning seen old new rest;
        redemption = redeems_keep meaning seen old new rest;
        detachment = detaches_keep meaning seen old new rest;
      },
    )
