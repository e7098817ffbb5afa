use Rattle.core_core.proofs.Names.{ap, None, Sender, senders_view, ◌∙◌}
use Rattle.core_core.proofs.Awaited.{map-replicate}
use Rattle.core_core.proofs.senders.Senders.open.Goals as goal

pub returns : goal.returns
returns g c =
    let none : Sender = record { delivered = 0; gate = None } in
    ap senders_view (c.sealed.ensures.items ∙ c.in_ok-from_elem.ensures.items_if_clones_equal (λ y same. same))
    ∙ (λ i. record { delivered = map-replicate (λ (s : Sender). s.delivered) c.args.count none i; gates = map-replicate (λ (s : Sender). s.gate) c.args.count none i })
