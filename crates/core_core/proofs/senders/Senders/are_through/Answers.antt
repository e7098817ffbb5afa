use Rattle.core_core.proofs.Names.{eq-eqb, eqb-true, sym, ◌∙◌}
use Rattle.core_core.proofs.Awaited.{through_if_none, none_if_through}
use Rattle.core_core.proofs.senders.Senders.are_through.Goals as goal

pub returns : goal.returns
returns g c =
    let senders = c.self.inside.senders.items in
    rw (← c.self.view_is) (
      λ none. through_if_none senders (sym c.self.invariant ∙ eqb-true c.self.inside.awaited 0 none),
      λ through. eq-eqb c.self.inside.awaited 0 (c.self.invariant ∙ none_if_through senders through),
    )
