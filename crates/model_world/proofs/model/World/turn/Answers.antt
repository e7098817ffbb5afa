use Rattle.std.specs.Prelude.{◌-◌}
use Rattle.model_world.proofs.Words.{◌≡◌, ℕ, ◌<◌, ◌≤◌, ◌+◌, ◌*◌, ◌∙◌, ap, arith, Bool, true, false}
use Rattle.std.proofs.Math.Nat.{mul_comm, mul_assoc}
use Rattle.base_words.specs.Bursts.{has_bursts}
use Rattle.base_words.specs.Work.{number_if}
use Rattle.base_words.specs.declared.names.JobId.{JobId}
use Rattle.run_config.specs.declared.gate.NoGate.{NoGate}
use Rattle.actor_core.specs.Rooms.{turn_notes}
use Rattle.actor_core.specs.WholeTurns.{turn_view}
use Rattle.model_world.proofs.CoreSteps.{viewed, free, burst_is, cores_are, core_cap}
use Rattle.model_world.proofs.Turning.{all_around}
use Rattle.model_world.proofs.WholeTurns.{turned_at_rest, turns_now}
use Rattle.model_world.proofs.model.World.turn.Goals as goal

-- the gate is asked for nothing that a contract sees
abbrev asked : NoGate → ℕ → JobId → NoGate → Type 0
asked gate core job after = Unit {0}

-- the notes that the calls of a poll may make, said otherwise
calls_fit : (cores cap its_cores its_cap : ℕ) → its_cores ≡ cores → its_cap ≡ cap → 3 * cores * cap ≡ its_cores * (3 * its_cap)
calls_fit cores cap its_cores its_cap one two = rw (one, two) (ap (λ count. count * cap) (mul_comm 3 cores) ∙ mul_assoc cores 3 cap)

-- the notes of a whole turn, besides those of its calls, fit into the room that is left for them
turn_fits : (burst : ℕ) → 1 ≤ burst → turn_notes burst ≤ 2 * burst + 2
turn_fits burst some = by_form (has_bursts burst)
  where
    by_form : (form : Bool) → 3 + 2 * (burst - 1) + number_if form ≤ 2 * burst + 2
    by_form true = omega (arith, some)
    by_form false = omega (arith, some)

pub turn-requires : goal.turn-requires
turn-requires g c =
    let there : c.args.core < c.self.inside.cores = omega (arith, c.requires.core, ap (λ world. world.cores) c.self.view_is) in
    let world = c.self.invariant.1 in
    let view = viewed world c.args.core there _ c.core.view_is c.index_mut.ensures.value in
    let places = free world c.args.core there c.self.view_is view (3 * c.args.self.now.cores * c.args.self.now.cap + 2 * c.args.self.now.burst + 2) c.requires.room in
    let cores = ap (λ at. at.core.cores) view ∙ cores_are world c.args.core there in
    let fit = calls_fit c.args.self.now.cores c.args.self.now.cap c.index_mut.result.now.core.cores c.index_mut.result.now.cap (cores ∙ ap (λ world. world.cores) c.self.view_is)
    (ap (λ at. at.cap) view ∙ (core_cap world c.args.core there ∙ ap (λ world. world.cap) c.self.view_is)) in
    let burst : c.index_mut.result.now.core.bursts.burst ≡ c.args.self.now.burst = ap (λ at. at.core.bursts.burst) view ∙ (burst_is world c.args.core there ∙ ap (λ world. world.burst) c.self.view_is) in
    let few : turn_notes c.index_mut.result.now.core.bursts.burst ≤ 2 * c.args.self.now.burst + 2 = rw burst (turn_fits c.args.self.now.burst (omega (arith, c.self.invariant.0.some_burst, ap (λ world. world.burst) c.self.view_is))) in
    rw view (record {
      rest = record { recorded = world.recorded c.args.core there; free = (c.self.invariant.3 c.args.core there).nobody_out; beside = all_around world c.args.core there };
      no_turn = (c.self.invariant.3 c.args.core there).no_turn;
      room = rw (← view) (record { back = omega (arith, places, few); poll = λ _. omega (arith, places, fit, few) });
    })

pub invariant_of-self : goal.invariant_of-self
invariant_of-self g c =
    let there : c.args.core < c.self.inside.cores = omega (arith, c.requires.core, ap (λ world. world.cores) c.self.view_is) in
    let world = c.self.invariant.1 in
    let view = viewed world c.args.core there _ c.core.view_is c.index_mut.ensures.value in
    let rest = c.self.invariant.3 in
    let behind = turn_view c.turn.new.core c.turn.new.around c.turn.new.meter c.turn.new.gate in
    let turned = turns_now world c.args.core there asked c.args.spent c.each-meter.result _ (rest c.args.core there).nobody_out behind c.turn.result c.each-meter.ensures (rw view at c.turn.ensures.makes) in
    rw c.core.view_is (c.self.invariant.0, turned.holds, c.self.invariant.2, turned_at_rest world c.args.core there asked c.args.spent behind rest turned.free c.turn.ensures.no_turn)

pub returns : goal.returns
returns g c =
    let there : c.args.core < c.self.inside.cores = omega (arith, c.requires.core, ap (λ world. world.cores) c.self.view_is) in
    let world = c.self.invariant.1 in
    let view = viewed world c.args.core there _ c.core.view_is c.index_mut.ensures.value in
    let behind = turn_view c.turn.new.core c.turn.new.around c.turn.new.meter c.turn.new.gate in
    rw (← c.self.view_is, c.core.view_is, c.reply_for.ensures)
    (turns_now world c.args.core there asked c.args.spent c.each-meter.result _ (c.self.invariant.3 c.args.core there).nobody_out behind c.turn.result c.each-meter.ensures (rw view at c.turn.ensures.makes)).does
