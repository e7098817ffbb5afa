use Rattle.core_core.proofs.Names.{map-set, Sender, slice_set, ◌∙◌, ◌≡◌}
use Rattle.core_core.proofs.Awaited.{kept-set}
use Rattle.core_core.proofs.senders.Senders.count.Goals as goal

pub returns : goal.returns
returns g c =
    let was = c.index.result.now in
    let kept : slice_set c.args.self.now.gates c.args.sender was.gate ≡ c.args.self.now.gates =
    rw (← c.self.view_is) (kept-set (λ (s : Sender). s.gate) c.self.inside.senders.items c.args.sender was c.index.ensures) in
    c.put.ensures ∙ (λ i. record { delivered = slice_set c.args.self.now.delivered c.args.sender c.args.number; gates = kept i })

pub returns-then-is_none : goal.returns-then-is_none
returns-then-is_none g c =
    let senders = c.self.inside.senders.items in
    let was = c.index_mut.result.now in
    let is : Sender = record was { delivered = c.args.number } in
    let gates = map-set (λ (s : Sender). s.gate) senders c.args.sender is ∙ kept-set (λ (s : Sender). s.gate) senders c.args.sender was c.index_mut.ensures.value in
    rw (← c.self.view_is) (λ i. record { delivered = map-set (λ (s : Sender). s.delivered) senders c.args.sender is i; gates = gates i })
