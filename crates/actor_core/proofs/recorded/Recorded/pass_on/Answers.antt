use Rattle.actor_core.proofs.Names.{◌≡◌, ◌∙◌, ap, subst, sym}
use Rattle.note_journal.specs.Passing.{PassesOn}
use Rattle.actor_core.proofs.Passed.{passed_invariant, passed_is}
use Rattle.actor_core.proofs.QuietSteps.{view_of}
use Rattle.actor_core.proofs.recorded.Recorded.pass_on.Goals as goal

pub pass_on-requires : goal.pass_on-requires
pass_on-requires g c = c.requires ∙ ap (λ view. view.journal.passed) (sym c.self.view_is)

pub invariant_of-self : goal.invariant_of-self
invariant_of-self g c =
    passed_invariant g.S.Sink.has g.S.Sink.refused c.self.inside.core c.self.inside.took.items c.self.inside.said c.self.invariant c.pass_on.ensures.rest c.args.sink.now c.pass_on.new.sink c.pass_on.result c.pass_on.ensures.passes

pub returns : goal.returns
returns g c = record {
  passes = subst (λ view. PassesOn g.S.Sink.has g.S.Sink.refused view.journal c.args.sink.now c.pass_on.result c.pass_on.new.self.journal c.pass_on.new.sink) c.self.view_is c.pass_on.ensures.passes;
  refusals = c.pass_on.ensures.refusals;
  asked = c.pass_on.ensures.asked;
  marked = c.pass_on.ensures.marked;
  rest = subst (λ view. view_of c.self.inside.core c.self.inside.took.items c.pass_on.new.self ≡ record view { journal = c.pass_on.new.self.journal }) c.self.view_is
      (passed_is g.S.Sink.has g.S.Sink.refused c.self.inside.core c.self.inside.took.items c.self.inside.said c.self.invariant c.pass_on.ensures.rest);
  sound = (passed_invariant g.S.Sink.has g.S.Sink.refused c.self.inside.core c.self.inside.took.items c.self.inside.said c.self.invariant c.pass_on.ensures.rest c.args.sink.now c.pass_on.new.sink c.pass_on.result c.pass_on.ensures.passes).0;
}
