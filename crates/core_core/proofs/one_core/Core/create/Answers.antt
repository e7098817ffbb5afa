use Rattle.core_core.proofs.Names.{AddsQueue, All-push, ap, arith, core_view, CoreView, CreatesQueue, Err, FitsTurns, job_out, length, length-append, List, no_tally, None, queue_count, queues_alone, refl, slice_index_or, subst, sym, Tally}
use Rattle.core_core.proofs.Names.{unsettled_count, [], ◌∙◌, ◌∷◌, ◌≡◌}
use Rattle.core_core.proofs.Fits.{no_tally_fits, IsBounded-from_turns}
use Rattle.core_core.proofs.Outcomes.{creates_nothing}
use Rattle.core_core.proofs.Parts.{IsPollable-same}
use Rattle.core_core.proofs.Picking.{nothing_past}
use Rattle.core_core.proofs.Counting.{get_or-push_default, KeepsCounts-creates, IsListed-same}
use Rattle.core_core.proofs.SlipsKept.{KeepsSlips-same, KeepsSlips-created}
use Rattle.core_core.proofs.Turning.{KeepsTurn-same}
use Rattle.core_core.proofs.one_core.Core.create.Goals as goal

pub invariant_of-self : goal.invariant_of-self
invariant_of-self g c =
    let inside = c.self.inside in
    let core = c.self.invariant in
    let polls = unsettled_count (core_view inside.core inside.cores (queues_alone inside.queues) inside.tallies.items inside.floor inside.turns (job_out inside.out) inside.senders inside.mode inside.bursts) in
    let adds = c.in-Ok.ensures.created.queues in
    let items = c.push_reserved.ensures.items in
    record {
      counted = rw c.push_reserved.ensures.capacity (KeepsCounts-creates _ _ _ _ _ c.in-Ok.queue c.args.shares adds c.try_create.ensures.limits refl refl
          (ap length items ∙ length-append inside.tallies.items (no_tally ∷ [])) refl core.counted);
      listed = IsListed-same _ _ _ adds.same_lines refl
          (λ queue. ap (λ (tallies : List Tally). (slice_index_or tallies queue no_tally).runtime) items ∙ ap (λ (tally : Tally). tally.runtime) (get_or-push_default inside.tallies.items no_tally queue)) core.listed;
      slipped =
          let none = core.listed.at (queue_count (queues_alone inside.queues)) ∙ nothing_past (core_view inside.core inside.cores (queues_alone inside.queues) inside.tallies.items inside.floor inside.turns (job_out inside.out) inside.senders inside.mode inside.bursts) in
          KeepsSlips-same _ _ _ _ _ adds.count c.in-Ok.ensures.created.slips (KeepsSlips-created _ _ _ none core.slipped);
      pollable = IsPollable-same _ _ _ adds.same_lines adds.same_parks core.pollable;
      turns = record {
        tallies = rw items (All-push (FitsTurns inside.turns polls) inside.tallies.items no_tally core.turns.tallies (no_tally_fits inside.turns polls inside.floor core.turns.floor));
        floor = core.turns.floor;
      };
      turning = KeepsTurn-same _ _ refl refl (omega (arith, adds.count)) core.turning;
    }

pub returns-in-Ok-clause-creates : goal.returns-in-Ok-clause-creates
returns-in-Ok-clause-creates g c =
    let inside = c.self.inside in
    let adds = c.in-Ok.ensures.created.queues in
    rw (← c.self.view_is) (
      adds.number,
      record {
        is_open = subst (λ (view : CoreView g.row.J.Denot). view.mode ≡ None) (sym c.self.view_is) c.requires.is_open;
        few = omega (arith, adds.count, c.try_create.ensures.limits.few_queues);
        added = subst (λ queue. AddsQueue (queues_alone inside.queues) (queues_alone c.try_create.new.self) queue c.args.shares) adds.number adds;
        rest = λ i. core_view inside.core inside.cores (queues_alone c.try_create.new.self) (c.push_reserved.ensures.items i) inside.floor inside.turns (job_out inside.out) inside.senders inside.mode inside.bursts;
      },
      refl,
      c.one_note.ensures,
    )

pub returns-in-Ok-clause-bounded : goal.returns-in-Ok-clause-bounded
returns-in-Ok-clause-bounded g c =
    let inside = c.self.inside in
    let core = c.self.invariant in
    let polls = unsettled_count (core_view inside.core inside.cores (queues_alone inside.queues) inside.tallies.items inside.floor inside.turns (job_out inside.out) inside.senders inside.mode inside.bursts) in
    IsBounded-from_turns (core_view inside.core inside.cores (queues_alone c.try_create.new.self) c.push_reserved.new.self.items inside.floor inside.turns (job_out inside.out) inside.senders inside.mode inside.bursts) (record {
      tallies = rw c.push_reserved.ensures.items (All-push (FitsTurns inside.turns polls) inside.tallies.items no_tally core.turns.tallies (no_tally_fits inside.turns polls inside.floor core.turns.floor));
      floor = core.turns.floor;
    })

pub returns-in-Err-clause-bounded : goal.returns-in-Err-clause-bounded
returns-in-Err-clause-bounded g c =
    let inside = c.self.inside in
    let core = c.self.invariant in
    IsBounded-from_turns (core_view inside.core inside.cores (queues_alone c.try_create.new.self) inside.tallies.items inside.floor inside.turns (job_out inside.out) inside.senders inside.mode inside.bursts) (record {
      tallies = core.turns.tallies;
      floor = core.turns.floor;
    })

pub returns-in-Err-clause-creates : goal.returns-in-Err-clause-creates
returns-in-Err-clause-creates g c =
    let inside = c.self.inside in
    let old = core_view inside.core inside.cores (queues_alone inside.queues) inside.tallies.items inside.floor inside.turns (job_out inside.out) inside.senders inside.mode inside.bursts in
    let same = ap (λ queues. core_view inside.core inside.cores (queues_alone queues) inside.tallies.items inside.floor inside.turns (job_out inside.out) inside.senders inside.mode inside.bursts) c.in-Err.ensures.refused in
    subst (λ (view : CoreView g.row.J.Denot). CreatesQueue view c.args.shares (Err c.in-Err.error)
    (core_view inside.core inside.cores (queues_alone c.try_create.new.self) inside.tallies.items inside.floor inside.turns (job_out inside.out) inside.senders inside.mode inside.bursts) c.new.result.items)
    c.self.view_is (creates_nothing old c.args.shares c.in-Err.error _ c.new.result.items
    c.in-Err.ensures.too_many c.self.invariant.counted.limits.few_queues same c.new.ensures)

pub invariant_of-self-in-Err : goal.invariant_of-self-in-Err
invariant_of-self-in-Err g c = rw c.in-Err.ensures.refused c.self.invariant

pub one_note-requires : goal.one_note-requires
one_note-requires g c = assumption

pub new-requires : goal.new-requires
new-requires g c = assumption
