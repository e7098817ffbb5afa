use Rattle.std.proofs.Common.{ap, sym, ◌∙◌, refl, arith}
use Rattle.note_facts.specs.declared.recent.Recent.{Recent}
use Rattle.note_facts.specs.AllAccounts.{account_of}
use Rattle.note_facts.specs.Recent.{queue_at}
use Rattle.note_facts.proofs.AllAccounts.{changed_one}
use Rattle.note_facts.proofs.WokenAccounts.{wakes_next, woken}
use Rattle.note_facts.proofs.accounts.Accounts.wake_all.Goals as goal

pub loop-place-preserved : goal.loop-place-preserved
loop-place-preserved c =
    let mid = c.loop-place.self in
    let so_far = c.loop-place.invariant in
    let here = c.queue.view_is ∙ (c.queue_at-queue.ensures ∙ ap (λ (recent : Recent). queue_at recent c.loop-place.place) so_far.recent) in
    let read = c.of-account.ensures ∙ ap (account_of mid) (sym c.queue.view_is) in
    let wakes = c.wake_all.ensures ∙ (λ i. woken (so_far.floor i) (read i)) in
    wakes_next c.args.self.now mid _ c.loop-place.place c.queue.inside.0 here so_far
    (changed_one mid.queues c.queue.inside.0 c.wake_all.new.self (woken c.args.self.now.floor) (omega arith) wakes) refl refl
