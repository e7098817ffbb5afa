use Rattle.std.proofs.Common.{ap, subst, sym, ◌∙◌}
use Rattle.host_text.specs.Parts.{PassesPart}
use Rattle.host_house.specs.Outside.{CallerView}
use Rattle.host_house.specs.Passing.{HandsOn}
use Rattle.host_house.proofs.outside.Outside.pass_on.Goals as goal

pub invariant_of-self : goal.invariant_of-self
invariant_of-self c = (c.self.invariant.0 ∙ ap (λ (view : CallerView). view.desk.cores) (sym c.hand_on.ensures.rest), c.hand_on.ensures.has)

pub returns : goal.returns
returns c =
    let number = c.number-number.ensures ∙ ap (λ (view : CallerView). view.desk.cores) (sym c.self.view_is) in
    subst (λ (old : CallerView). HandsOn old c.args.bytes.now c.hand_on.result c.hand_on.new.bytes c.hand_on.new.seat) c.self.view_is (
      subst (λ number. PassesPart number c.self.inside.seat.desk.journal c.args.bytes.now c.hand_on.result c.hand_on.new.bytes c.hand_on.new.seat.desk.journal) number c.hand_on.ensures.parts,
      c.hand_on.ensures.rest,
    )
