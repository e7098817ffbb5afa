use Rattle.core_core.proofs.Names.{ap, arith, is_awaited, length-set, map-set, Sender, set, Some, sum_by-set}
use Rattle.core_core.proofs.Awaited.{awaited-few, within-view}
use Rattle.core_core.proofs.senders.Senders.put.Goals as goal

pub index-requires : goal.index-requires
index-requires g c = within-view c.self.inside.senders.items c.args.sender c.self.view_is c.requires

pub index_mut-requires : goal.index_mut-requires
index_mut-requires g c = within-view c.self.inside.senders.items c.args.sender c.self.view_is c.requires

pub overflow_sub-self : goal.overflow_sub-self
overflow_sub-self g c =
    let senders = c.self.inside.senders.items in
    let was = c.index.result.now in
    let counted = sum_by-set is_awaited senders c.args.sender (record { delivered = 0; gate = Some 0 }) was (within-view senders c.args.sender c.self.view_is c.requires) in
    omega (arith, counted, ap is_awaited c.index.ensures, c.self.invariant, c.awaited-before.ensures)

pub overflow_add-self : goal.overflow_add-self
overflow_add-self g c =
    let senders = c.self.inside.senders.items in
    let was = c.index.result.now in
    let within = within-view senders c.args.sender c.self.view_is c.requires in
    let counted = sum_by-set is_awaited senders c.args.sender c.args.is was within in
    let here = ap is_awaited c.index.ensures in
    let few = awaited-few (set senders c.args.sender c.args.is) in
    omega (arith, counted, here, few, c.self.invariant, c.awaited-before.ensures, c.awaited-after.ensures, length-set senders c.args.sender c.args.is, c.len-count.ensures, c.len-count.type_inv)

pub returns : goal.returns
returns g c =
    let senders = c.self.inside.senders.items in
    rw (← c.self.view_is)
    (λ i. record { delivered = map-set (λ (s : Sender). s.delivered) senders c.args.sender c.args.is i; gates = map-set (λ (s : Sender). s.gate) senders c.args.sender c.args.is i })
