use Rattle.core_core.proofs.Names.{ap, arith, core_view, CoreView, job_out, lasted, length, List, None, queues_alone, shares_of, slice_index_or, subst, sym, Tally, ◌<◌, ◌∙◌, ◌≡◌}
use Rattle.core_core.proofs.Charging.{charge_written}
use Rattle.core_core.proofs.Counting.{some_inside}
use Rattle.core_core.proofs.one_core.Core.finish_charged.Goals as goal

pub returns-clause-finishes : goal.returns-clause-finishes
returns-clause-finishes g c =
    let inside = c.self.inside in
    let core = c.self.invariant in
    let old = c.args.self.now in
    let view = core_view inside.core inside.cores (queues_alone inside.queues) inside.tallies.items inside.floor inside.turns (job_out inside.out) inside.senders inside.mode inside.bursts in
    let who = c.who_is_out-name.ensures in
    let out = who.0 in
    let exists = some_inside view inside.inside inside.room inside.tallies.cap out (ap (λ (v : CoreView g.row.J.Denot). v.out) c.self.view_is ∙ who.1) core.counted in
    let tallies_are = ap (λ (v : CoreView g.row.J.Denot). v.tallies) c.self.view_is in
    let was = c.index.result.now in
    let within : c.place.result < length old.tallies = omega (arith, core.counted.tallies, exists.1, who.3, c.place.ensures, ap length tallies_are) in
    let read = subst (λ (tallies : List Tally). was ≡ slice_index_or tallies c.place.result was) tallies_are c.index.ensures in
    let queue = c.who_is_out-name.result.1 in
    let shares = c.shares-shares.ensures ∙ ap (λ (v : CoreView g.row.J.Denot). shares_of queue v.queues) c.self.view_is ∙ ap (λ number. shares_of number old.queues) who.3 in
    let written = charge_written old.tallies c.place.result queue out.queue was c.charged-tally.result old.bursts.open c.args.time c.shares-shares.result (shares_of out.queue old.queues) 1
    (c.place.ensures ∙ who.3) who.3 within read c.charged-tally.ensures.value shares c.requires.no_turn in
    record {
      out = out;
      was_out = who.1;
      named = who.2;
      rest = c.let_go.ensures.leaves ∙ (λ i. record old { tallies = written i; out = None; bursts = record (old.bursts) { «open» = sym (ap (lasted c.args.time) c.requires.no_turn) i } });
    }
