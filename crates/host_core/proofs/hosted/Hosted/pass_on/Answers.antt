use Rattle.std.proofs.Common.{sym, ap, subst, ◌∙◌}
use Rattle.host_text.specs.Parts.{PassesPart}
use Rattle.host_core.specs.Hosted.{HasRoom, HostedView}
use Rattle.host_core.specs.Passing.{HandsOn}
use Rattle.host_core.proofs.Passed.{handed_room, kept_holds, kept_hosted, with_journal}
use Rattle.host_core.proofs.hosted.Hosted.pass_on.Goals as goal
use Rattle.host_core.proofs.hosted.Hosted.pass_on.Goals.{After-hand_on}

-- there is room for the settling
room : (c : goal.After-hand_on) → HasRoom 0 (with_journal c.self.inside.seat.recorded c.hand_on.new.seat.recorded.journal)
room c = handed_room c.actor-number.result c.args.bytes.now c.hand_on.new.bytes c.hand_on.result c.self.inside.seat.recorded c.hand_on.new.seat.recorded.journal c.hand_on.ensures.parts c.self.invariant.0.room

pub invariant_of-self : goal.invariant_of-self
invariant_of-self c = kept_holds c.self.inside.seat c.hand_on.new.seat c.hand_on.ensures.rest c.hand_on.ensures.seated (room (goal.at.invariant_of-self c).After-hand_on) c.self.inside.run c.self.invariant.1 c.self.invariant.2 c.hand_on.ensures.has

pub returns-clause-hosted : goal.returns-clause-hosted
returns-clause-hosted c = kept_hosted c.self.inside.seat c.hand_on.new.seat c.hand_on.ensures.rest c.hand_on.ensures.seated (room (goal.at.returns-clause-hosted c).After-hand_on)

pub returns-clause-hands : goal.returns-clause-hands
returns-clause-hands c =
    let number = c.actor-number.ensures ∙ ap (λ (view : HostedView). view.recorded.core.core) (sym c.self.view_is) in
    subst (λ (old : HostedView). HandsOn old c.args.bytes.now c.hand_on.result c.hand_on.new.bytes c.hand_on.new.seat) c.self.view_is (
      subst (λ number. PassesPart number c.self.inside.seat.recorded.journal c.args.bytes.now c.hand_on.result c.hand_on.new.bytes c.hand_on.new.seat.recorded.journal) number c.hand_on.ensures.parts,
      c.hand_on.ensures.rest,
    )
