use Rattle.run_worker.proofs.Names.{ap, CollectsFirst, leaves_turns, once_more, refl, round_view, subst, turns_after, ◌∙◌}
use Rattle.std.specs.Prelude.{◌||◌}
use Rattle.run_worker.proofs.Due.{spares_own}
use Rattle.run_worker.proofs.rounds.RoundsLastLook.look_again.Goals as goal

pub returns : goal.returns
returns g c = record {
  counts = c.saturating_add-self.ensures ∙ ap once_more (c.take_turn-turned.ensures.looks ∙ c.wake_due-woke.ensures.looks);
  all = record {
    woken = round_view c.wake_due-woke.new.self.served c.wake_due-woke.new.self.timers c.wake_due-woke.new.self.watch c.wake_due-woke.new.self.gate c.wake_due-woke.new.self.turns;
    woke = c.wake_due-woke.result;
    found = c.take_turn-turned.result || (c.take_in-taken.result || c.gather-collected.result);
    wakes = c.wake_due-woke.ensures.wakes;
    looks = record {
      heard = c.take_in-taken.new.self;
      turned = c.take_turn-turned.new.self.served;
      timed = c.take_turn-turned.new.self.watch;
      came = c.take_in-taken.result;
      worked = c.take_turn-turned.result;
      back = c.gather-collected.result;
      steps = c.take_in-taken.ensures.steps;
      spared = c.spared-spared.result;
      spares = spares_own c.wake_due-woke.new.self.timers c.wake_due-woke.new.self.served.linked c.is_empty-sleeps.result c.spared-spared.result c.is_empty-sleeps.ensures c.spared-spared.ensures;
      shuts = c.take_in-taken.ensures.shuts;
      hears = c.take_in-taken.ensures.hears;
      sound = c.take_in-taken.ensures.sound;
      none_before = c.take_in-taken.ensures.polls;
      turn = c.take_turn-turned.ensures.takes;
      turn_steps = c.take_turn-turned.ensures.steps;
      sets = c.take_turn-turned.ensures.sets;
      gathers = c.gather-collected.ensures.steps;
      collects = subst (λ cores. CollectsFirst cores c.gather-collected.new.self) (c.take_turn-turned.ensures.steps.stays.seat.cores ∙ c.take_in-taken.ensures.steps.stays.seat.cores) c.gather-collected.ensures.collects;
      none_behind = c.gather-collected.ensures.polls;
      tells = refl;
      plans = c.turns_left-self.ensures ∙ ap (λ closed. turns_after (leaves_turns c.take_turn-turned.result (c.take_in-taken.result || c.gather-collected.result) closed)) c.is_closed-closed.ensures;
      forgets = c.forget.ensures;
    };
    tells = refl;
  };
  rings = c.gather-collected.ensures.rung;
  names = c.gather-collected.ensures.names ∙ (c.take_turn-turned.ensures.names ∙ (c.take_in-taken.ensures.names ∙ c.wake_due-woke.ensures.names));
}
