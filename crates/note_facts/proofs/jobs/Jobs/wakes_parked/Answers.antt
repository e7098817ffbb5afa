use Rattle.std.proofs.Common.{◌≡◌, sym, ◌∙◌, subst}
use Rattle.std.specs.Prelude.{Some}
use Rattle.base_words.specs.declared.names.JobId.{JobId}
use Rattle.base_words.specs.Parks.{is_parked}
use Rattle.note_facts.specs.Parks.{is_same_queue}
use Rattle.note_facts.proofs.ParkTimes.{is_parked-same}
use Rattle.note_facts.proofs.jobs.Jobs.wakes_parked.Goals as goal

pub returns-in-Woken : goal.returns-in-Woken
returns-in-Woken c =
    λ before knows name woken.
    let told : Some c.in-Woken.name ≡ Some name = rw c.in-Woken.is at woken in
    let one : c.in-Woken.name ≡ name = cc in
    let queue = c.queue_of.ensures ∙ knows.parks.queues c.in-Woken.name in
    let park = c.park_of.ensures ∙ knows.parks.naps c.in-Woken.name in
    subst (λ (it : JobId). c.is_same_queue.result ≡ is_parked it before) one
    (c.is_same_queue.ensures ∙ ((λ i. is_same_queue (queue i) (park i)) ∙ sym (is_parked-same c.in-Woken.name before)))
