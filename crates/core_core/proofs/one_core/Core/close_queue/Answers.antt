use Rattle.core_core.proofs.Names.{ap, arith, closes, core_view, CoreView, job_out, mode_of, queue_count, queues_alone, refl, subst, sym, ◌<◌, ◌∙◌}
use Rattle.core_core.proofs.Counting.{KeepsCounts-closes, IsListed-same}
use Rattle.core_core.proofs.Fits.{IsBounded-from_turns}
use Rattle.core_core.proofs.Outcomes.{past_if_not}
use Rattle.core_core.proofs.Parts.{IsPollable-same}
use Rattle.core_core.proofs.SlipsKept.{KeepsSlips-same}
use Rattle.core_core.proofs.Turning.{KeepsTurn-same}
use Rattle.core_core.proofs.one_core.Core.close_queue.Goals as goal

pub returns-then-not-has_queue-clause-closes : goal.returns-then-not-has_queue-clause-closes
returns-then-not-has_queue-clause-closes g c =
    (past_if_not c.has_queue.result c.args.queue (queue_count c.args.self.now.queues) c.has_queue.ensures c.if-not-has_queue.true, refl, c.new.ensures)

pub returns-then-not-has_queue-clause-bounded : goal.returns-then-not-has_queue-clause-bounded
returns-then-not-has_queue-clause-bounded g c =
    let inside = c.self.inside in
    rw (← c.self.view_is) (IsBounded-from_turns (core_view inside.core inside.cores (queues_alone inside.queues) inside.tallies.items inside.floor inside.turns (job_out inside.out) inside.senders inside.mode inside.bursts) c.self.invariant.turns)

pub mode-requires : goal.mode-requires
mode-requires g c = record {
  exists = subst (λ (view : CoreView g.row.J.Denot). c.args.queue < queue_count view.queues) (sym c.self.view_is) (c.has_queue.ensures.0 c.if-not-has_queue.false);
}

pub returns-then-not-closes-clause-closes : goal.returns-then-not-closes-clause-closes
returns-then-not-closes-clause-closes g c =
    let mode = c.mode.ensures ∙ ap (λ (view : CoreView g.row.J.Denot). mode_of c.args.queue view.queues) c.self.view_is in
    (c.has_queue.ensures.0 c.if-not-has_queue.false, sym (c.closes.ensures ∙ ap (λ was. closes was c.args.mode) mode) ∙ c.if-not-closes.true, refl, c.new-then-not-closes.ensures)

pub returns-then-not-closes-clause-bounded : goal.returns-then-not-closes-clause-bounded
returns-then-not-closes-clause-bounded g c =
    let inside = c.self.inside in
    rw (← c.self.view_is) (IsBounded-from_turns (core_view inside.core inside.cores (queues_alone inside.queues) inside.tallies.items inside.floor inside.turns (job_out inside.out) inside.senders inside.mode inside.bursts) c.self.invariant.turns)

pub close-requires : goal.close-requires
close-requires g c = record {
  exists = subst (λ (view : CoreView g.row.J.Denot). c.args.queue < queue_count view.queues) (sym c.self.view_is) (c.has_queue.ensures.0 c.if-not-has_queue.false);
}

pub invariant_of-self : goal.invariant_of-self
invariant_of-self g c =
    let inside = c.self.inside in
    let core = c.self.invariant in
    let old = core_view inside.core inside.cores (queues_alone inside.queues) inside.tallies.items inside.floor inside.turns (job_out inside.out) inside.senders inside.mode inside.bursts in
    let did = sym c.closes.ensures ∙ c.if-not-closes.false in
    let closed = c.close.ensures.closed (c.close.ensures.told ∙ ap (λ was. closes was c.args.mode) (sym c.mode.ensures) ∙ did) in
    record {
      counted = KeepsCounts-closes old _ _ _ _ c.args.queue c.args.mode closed.queues c.close.ensures.limits refl refl refl refl core.counted;
      listed = IsListed-same old _ _ closed.queues.same_lines refl (λ queue. refl) core.listed;
      slipped = KeepsSlips-same _ _ _ _ _ closed.queues.same_count closed.slips core.slipped;
      pollable = IsPollable-same _ old _ closed.queues.same_lines closed.queues.same_parks core.pollable;
      turns = record { tallies = core.turns.tallies; floor = core.turns.floor };
      turning = KeepsTurn-same old _ refl refl (omega (arith, closed.queues.same_count)) core.turning;
    }

pub end_queue_parks_for-requires : goal.end_queue_parks_for-requires
end_queue_parks_for-requires g c =
    let did = sym c.closes.ensures ∙ c.if-not-closes.false in
    let closed = c.close.ensures.closed (c.close.ensures.told ∙ ap (λ was. closes was c.args.mode) (sym c.mode.ensures) ∙ did) in
    let exists : c.args.queue < queue_count (queues_alone c.self.inside.queues) =
    subst (λ (view : CoreView g.row.J.Denot). c.args.queue < queue_count view.queues) (sym c.self.view_is) (c.has_queue.ensures.0 c.if-not-has_queue.false) in
    record { exists = omega (arith, exists, closed.queues.same_count) }

pub returns-clause-closes : goal.returns-clause-closes
returns-clause-closes g c =
    let inside = c.self.inside in
    let did = sym c.closes.ensures ∙ c.if-not-closes.false in
    let closed = c.close.ensures.closed (c.close.ensures.told ∙ ap (λ was. closes was c.args.mode) (sym c.mode.ensures) ∙ did) in
    let exists : c.args.queue < queue_count (queues_alone inside.queues) =
    subst (λ (view : CoreView g.row.J.Denot). c.args.queue < queue_count view.queues) (sym c.self.view_is) (c.has_queue.ensures.0 c.if-not-has_queue.false) in
    let mid = core_view inside.core inside.cores (queues_alone c.close.new.self) inside.tallies.items inside.floor inside.turns (job_out inside.out) inside.senders inside.mode inside.bursts in
    rw (← c.self.view_is) (
      ap (λ was. closes was c.args.mode) (sym c.mode.ensures) ∙ did,
      (mid, record { exists = exists; closed = closed.queues; rest = refl }, c.end_queue_parks_for.ensures.ends),
      c.one_note.ensures,
    )

pub returns-clause-bounded : goal.returns-clause-bounded
returns-clause-bounded g c = c.end_queue_parks_for.ensures.bounded

pub new-requires : goal.new-requires
new-requires g c = assumption

pub new-requires-then-not-closes : goal.new-requires-then-not-closes
new-requires-then-not-closes g c = assumption

pub one_note-requires : goal.one_note-requires
one_note-requires g c = assumption

pub same-self : goal.same-self
same-self g c = refl
