use Rattle.core_core.proofs.Names.{ap, arith, KeyTree, length, length-replicate, no_tally, SendersView, [], ◌++◌, ◌∙◌, ◌∷◌}
use Rattle.core_core.proofs.Opening.{IsCore-opened}
use Rattle.core_core.proofs.one_core.Core.open_at.Goals as goal

pub invariant_of-result : goal.invariant_of-result
invariant_of-result g c =
    IsCore-opened c.args.core c.args.cores _ c.args.turns c.args.burst _ g.J.Task.meaning _ _ _ _ c.in_ok-open.ensures.opened
    (c.sealed.ensures.items ∙ c.push_reserved.ensures.items ∙ ap (λ items. items ++ no_tally ∷ []) c.in_ok-tallies.ensures.items) (ap (λ (tree : KeyTree). tree.keys) c.in_ok-ready.ensures)
    (ap (λ (senders : SendersView). length senders.delivered) c.in_ok-senders.ensures ∙ length-replicate _ _ ∙ omega (arith, c.ranges))
    (omega (arith, c.sealed.ensures.capacity, c.push_reserved.ensures.capacity, c.in_ok-tallies.ensures.capacity))
