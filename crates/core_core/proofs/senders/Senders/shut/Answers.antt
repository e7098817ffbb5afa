use Rattle.core_core.proofs.Names.{Sender, slice_set, Some, ◌∙◌, ◌≡◌}
use Rattle.core_core.proofs.Awaited.{kept-set}
use Rattle.core_core.proofs.senders.Senders.shut.Goals as goal

pub returns : goal.returns
returns g c =
    let was = c.index-was.result.now in
    let kept : slice_set c.args.self.now.delivered c.args.sender was.delivered ≡ c.args.self.now.delivered =
    rw (← c.self.view_is) (kept-set (λ (s : Sender). s.delivered) c.self.inside.senders.items c.args.sender was c.index-was.ensures) in
    c.put.ensures ∙ (λ i. record { delivered = kept i; gates = slice_set c.args.self.now.gates c.args.sender (Some c.args.count) })
