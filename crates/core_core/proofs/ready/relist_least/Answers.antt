use Rattle.core_core.proofs.Names.{ap, Bool, List, queues_alone, relisted, sym, true, true≢false, waiting_of, [], ◌∙◌, ◌≡◌}
use Rattle.core_core.proofs.Entries.{is_any-from_some}
use Rattle.core_core.proofs.SlipsKept.{slip_stays}
use Rattle.core_core.proofs.ready.relist_least.Goals as goal

pub returns-else-is_empty-clause-slips : goal.returns-else-is_empty-clause-slips
returns-else-is_empty-clause-slips g c =
    let queues = c.args.queues.now in
    let queue = c.args.queue in
    let waits : waiting_of queue (queues_alone queues) ≡ [] → ⊥ = λ none. true≢false (sym (c.is_empty.ensures.1 none) ∙ c.if-is_empty.false) in
    let some = is_any-from_some (waiting_of queue (queues_alone queues)) waits in
    let stays : queues ≡ relisted true queue queues = ap (λ (slips : List Bool). record queues { slips = slips }) (sym (slip_stays queues.slips queue c.requires.out)) in
    stays ∙ ap (λ any. relisted any queue queues) (sym some)
