use Rattle.core_core.proofs.Names.{ap, arith, core_view, CoreView, job_out, JobId, length-set, queue_count, queues_alone, refl, SendersView, slice_set, subst, sym, ◌<◌, ◌∙◌, ◌≤◌}
use Rattle.core_core.proofs.Fits.{IsBounded-from_turns}
use Rattle.core_core.proofs.Outcomes.{past_if_not}
use Rattle.core_core.proofs.Parts.{IsPollable-same}
use Rattle.core_core.proofs.Counting.{KeepsCounts-weighs, IsListed-same}
use Rattle.core_core.proofs.SlipsKept.{KeepsSlips-same}
use Rattle.core_core.proofs.Turning.{KeepsTurn-same}
use Rattle.core_core.proofs.one_core.Core.deliver_shares.Goals as goal

pub invariant_of-self : goal.invariant_of-self
invariant_of-self g c =
    let core = c.self.invariant in
    let given = c.set_shares.ensures.given.queues in
    rw c.count-2.ensures (record {
      counted = KeepsCounts-weighs _ _ _ _ _ c.args.queue c.args.shares given c.set_shares.ensures.limits refl refl refl (length-set _ _ _) core.counted;
      listed = IsListed-same _ _ _ given.same_lines refl (λ queue. refl) core.listed;
      slipped = KeepsSlips-same _ _ _ _ _ given.same_count c.set_shares.ensures.given.slips core.slipped;
      pollable = IsPollable-same _ _ _ given.same_lines given.same_parks core.pollable;
      turns = record { tallies = core.turns.tallies; floor = core.turns.floor };
      turning = KeepsTurn-same _ _ refl refl (omega (arith, given.same_count)) core.turning;
    })

pub returns-clause-delivers : goal.returns-clause-delivers
returns-clause-delivers g c =
    let inside = c.self.inside in
    let exists : c.args.queue < queue_count (queues_alone inside.queues) =
    subst (λ (view : CoreView g.row.J.Denot). c.args.queue < queue_count view.queues) (sym c.self.view_is) (c.has_queue.ensures.0 c.if-not-has_queue.false) in
    let gates = ap (λ (senders : SendersView). senders.gates) c.count-2.ensures in
    let from = c.from.ensures ∙ ap (λ (name : JobId). name.from) c.name.view_is in
    let number = ap (λ (name : JobId). name.number) c.name.view_is in
    rw (← c.self.view_is) (
      record {
        exists = exists;
        shares = c.set_shares.ensures.given.queues;
        rest = λ i. core_view inside.core inside.cores (queues_alone c.set_shares.new.self) inside.tallies.items inside.floor inside.turns (job_out inside.out)
            (record { delivered = c.count-2.new.self.delivered; gates = gates i }) inside.mode inside.bursts;
      },
      ap (λ (senders : SendersView). senders.delivered) c.count-2.ensures ∙ (λ i. slice_set inside.senders.delivered (from i) (number i)),
      c.two_notes.ensures,
    )

pub returns-clause-bounded : goal.returns-clause-bounded
returns-clause-bounded g c =
    let inside = c.self.inside in
    let core = c.self.invariant in
    IsBounded-from_turns (core_view inside.core inside.cores (queues_alone c.set_shares.new.self) inside.tallies.items inside.floor inside.turns (job_out inside.out) inside.senders inside.mode inside.bursts) (record {
      tallies = core.turns.tallies;
      floor = core.turns.floor;
    })

pub count-requires : goal.count-requires
count-requires g c = c.requires

pub returns-then-not-has_queue-clause-delivers : goal.returns-then-not-has_queue-clause-delivers
returns-then-not-has_queue-clause-delivers g c =
    let past = past_if_not c.has_queue.result c.args.queue (queue_count c.args.self.now.queues) c.has_queue.ensures c.if-not-has_queue.true in
    (past, c.count.ensures.counts, c.one_note.ensures)

pub returns-then-not-has_queue-clause-bounded : goal.returns-then-not-has_queue-clause-bounded
returns-then-not-has_queue-clause-bounded g c = c.count.ensures.bounded

pub set_shares-requires : goal.set_shares-requires
set_shares-requires g c = record {
  exists = subst (λ (view : CoreView g.row.J.Denot). c.args.queue < queue_count view.queues) (sym c.self.view_is) (c.has_queue.ensures.0 c.if-not-has_queue.false);
}

pub count-requires-2 : goal.count-requires-2
count-requires-2 g c =
    let known : c.args.name.from ≤ c.self.inside.cores = subst (λ (view : CoreView g.row.J.Denot). c.args.name.from ≤ view.cores) (sym c.self.view_is) c.requires in
    omega (arith, known, c.self.invariant.counted.senders, c.from.ensures ∙ ap (λ (name : JobId). name.from) c.name.view_is)

pub one_note-requires : goal.one_note-requires
one_note-requires g c = assumption

pub two_notes-requires : goal.two_notes-requires
two_notes-requires g c = assumption

pub same-self : goal.same-self
same-self g c = refl
