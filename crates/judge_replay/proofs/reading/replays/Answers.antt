use Rattle.std.proofs.Common.{◌+◌, ◌∙◌, None, ap, refl, replicate}
use Rattle.judge_replay.proofs.Rounds.{none_told, with_none}
use Rattle.judge_replay.proofs.reading.replays.Goals as goal

pub loop-round-init : goal.loop-round-init
loop-round-init g c = record {
  read = none_told (g.T.Teller.told c.args.teller.now) c.args.cores c.args.places c.args.burst c.in-Ok.replay c.in-Ok-from_elem.waiting.items c.in-Ok.ensures c.requires
      (with_none c.in-Ok-from_elem.ensures.items_if_clones_equal (λ note same. same)
      ∙ ap (λ cores. replicate (cores + 1) None) c.from.ensures);
  count = c.in-Ok.ensures.count_is;
  burst = c.in-Ok.ensures.burst_is;
  same = refl;
}
