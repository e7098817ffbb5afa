use Rattle.model_world.proofs.Words.{◌<◌, sym, ◌∙◌, ap, arith, journal_at}
use Rattle.model_world.proofs.CoreSteps.{viewed, burst_is, journal_is, room_is, whole_is, cores_are, number_is}
use Rattle.model_world.proofs.model.World.recorded.Goals as goal

pub returns : goal.returns
returns g c =
    let there : c.args.core < c.self.inside.cores = omega (arith, c.requires, ap (λ world. world.cores) c.self.view_is) in
    let world = c.self.invariant.1 in
    rw (viewed world c.args.core there c.index.result.now c.core.view_is c.index.ensures) (record {
      number = number_is world c.args.core there;
      cores = cores_are world c.args.core there ∙ ap (λ world. world.cores) c.self.view_is;
      burst = burst_is world c.args.core there ∙ ap (λ world. world.burst) c.self.view_is;
      notes = sym (journal_is world c.args.core there) ∙ ap (journal_at c.args.core) c.self.view_is;
      room = room_is world c.args.core there ∙ ap (λ world. world.room) c.self.view_is;
      whole = whole_is world c.args.core there;
      sound = world.recorded c.args.core there;
    })
