use Rattle.core_core.proofs.Names.{ap, arith, core_view, CoreView, job_out, length, List, None, queues_alone, slice_index_or, slice_set, subst, Tally, ◌+◌, ◌<◌, ◌∙◌, ◌≡◌}
use Rattle.core_core.proofs.Charging.{tally_read}
use Rattle.core_core.proofs.Counting.{some_inside}
use Rattle.core_core.proofs.one_core.Core.hand_back.Goals as goal

pub returns-clause-returns : goal.returns-clause-returns
returns-clause-returns g c =
    let inside = c.self.inside in
    let core = c.self.invariant in
    let old = c.args.self.now in
    let view = core_view inside.core inside.cores (queues_alone inside.queues) inside.tallies.items inside.floor inside.turns (job_out inside.out) inside.senders inside.mode inside.bursts in
    let who = c.who_is_out-queue.ensures in
    let out = who.0 in
    let exists = some_inside view inside.inside inside.room inside.tallies.cap out (ap (λ (v : CoreView g.row.J.Denot). v.out) c.self.view_is ∙ who.1) core.counted in
    let tallies_are = ap (λ (v : CoreView g.row.J.Denot). v.tallies) c.self.view_is in
    let was = c.index-tally.result.now in
    let within : c.place.result < length old.tallies = omega (arith, core.counted.tallies, exists.1, who.3, c.place.ensures, ap length tallies_are) in
    let read = subst (λ (tallies : List Tally). was ≡ slice_index_or tallies c.place.result was) tallies_are c.index-tally.ensures in
    let written = ap (λ at. slice_set old.tallies at (record was { returned = was.returned + 1 })) who.3
    ∙ ap (λ (tally : Tally). slice_set old.tallies out.queue (record tally { returned = tally.returned + 1 })) (tally_read old.tallies c.place.result out.queue was (c.place.ensures ∙ who.3) within read) in
    record { out = out; was_out = who.1; rest = c.let_go.ensures.leaves ∙ (λ i. record old { tallies = written i; out = None; bursts = record (old.bursts) { «open» = None } }) }
