use Rattle.model_world.proofs.Words.{◌<◌, ◌∙◌, ap, subst, arith, journal_at, IsOpening, sym}
use Rattle.model_world.proofs.CoreSteps.{viewed, free, journal_is}
use Rattle.model_world.proofs.Between.{created_open}
use Rattle.model_world.proofs.Turning.{all_around, creates, quiet_rests, quiet_at_rest, creates_now}
use Rattle.model_world.proofs.model.World.create.Goals as goal

pub create-requires : goal.create-requires
create-requires g c =
    let there : c.args.core < c.self.inside.cores = omega (arith, c.requires.core, ap (λ world. world.cores) c.self.view_is) in
    let view = viewed c.self.invariant.1 c.args.core there _ c.core.view_is c.index_mut.ensures.value in
    let notes = sym (ap (journal_at c.args.core) c.self.view_is) ∙ (journal_is c.self.invariant.1 c.args.core there ∙ ap (λ at. at.journal.notes) (sym view)) in
    let places = free c.self.invariant.1 c.args.core there c.self.view_is view 1 (omega (arith, c.requires.room)) in
    record { opening = subst (λ notes. IsOpening notes) notes (c.requires.unbegun.opening c.args.core); room = omega (arith, places) }

pub invariant_of-self : goal.invariant_of-self
invariant_of-self g c =
    let there : c.args.core < c.self.inside.cores = omega (arith, c.requires.core, ap (λ world. world.cores) c.self.view_is) in
    let view = viewed c.self.invariant.1 c.args.core there _ c.core.view_is c.index_mut.ensures.value in
    let did = rw view at c.create.ensures in
    let step = creates (all_around c.self.invariant.1 c.args.core there) (record { seat = did.seat; outs = did.outs; lanes = did.lanes }) did.sound did.ins (c.self.invariant.3 c.args.core there).nobody_out
    c.args.shares c.create.result did.creates in
    rw c.core.view_is (
      c.self.invariant.0,
      quiet_rests c.self.invariant.1 c.args.core there c.create.new.self _ step,
      c.self.invariant.2,
      quiet_at_rest c.self.invariant.1 c.args.core there c.create.new.self _ step c.self.invariant.3
          (created_open _ c.create.new.self did.seat (c.self.invariant.3 c.args.core there).no_turn c.args.shares c.create.result did.creates),
    )

pub returns : goal.returns
returns g c =
    let there : c.args.core < c.self.inside.cores = omega (arith, c.requires.core, ap (λ world. world.cores) c.self.view_is) in
    let view = viewed c.self.invariant.1 c.args.core there _ c.core.view_is c.index_mut.ensures.value in
    let did = rw view at c.create.ensures in
    let step = creates (all_around c.self.invariant.1 c.args.core there) (record { seat = did.seat; outs = did.outs; lanes = did.lanes }) did.sound did.ins (c.self.invariant.3 c.args.core there).nobody_out
    c.args.shares c.create.result did.creates in
    rw (← c.self.view_is, c.core.view_is) (creates_now c.self.invariant.1 c.args.core there c.create.new.self _ step c.args.shares c.create.result did.creates)
