use Rattle.core_core.proofs.Names.{ap, core_view, CoreView, false, is_some, job_out, None, Option, queues_alone, refl, Some, subst, sym, true≢false, waiting_of, ◌∙◌, ◌≡◌}
use Rattle.core_core.proofs.Entries.{some_from_is_any}
use Rattle.core_core.proofs.Held.{held_none}
use Rattle.core_core.proofs.Picking.{exists_if_waiting, first_waits, first_runtime, first_is_next}
use Rattle.core_core.proofs.Turned.{first_of}
use Rattle.core_core.proofs.one_core.Core.first_ahead.Goals as goal

none_found : {X : Type 0} (found : Option X) → is_some found ≡ false → found ≡ None
none_found None none = refl
none_found (Some one) none = cc

pub return_reason-requires : goal.return_reason-requires
return_reason-requires g c =
    let inside = c.self.inside in
    let view = core_view inside.core inside.cores (queues_alone inside.queues) inside.tallies.items inside.floor inside.turns (job_out inside.out) inside.senders inside.mode inside.bursts in
    let free : job_out inside.out ≡ None = subst (λ (view : CoreView g.row.J.Denot). view.out ≡ None) (sym c.self.view_is) c.requires.free in
    let no_turn : inside.bursts.open ≡ None = subst (λ (view : CoreView g.row.J.Denot). view.bursts.open ≡ None) (sym c.self.view_is) c.requires.no_turn in
    let held = held_none view free no_turn in
    let key = c.in-Some.key in
    let later = first_of inside.ready.keys key c.in-Some.ensures in
    rw (← c.self.view_is) (exists_if_waiting (queues_alone inside.queues) key.queue (first_waits view inside.ready.keys key later.0 later.1 c.self.invariant.listed held))

pub returns-then-is_some : goal.returns-then-is_some
returns-then-is_some g c =
    let inside = c.self.inside in
    let view = core_view inside.core inside.cores (queues_alone inside.queues) inside.tallies.items inside.floor inside.turns (job_out inside.out) inside.senders inside.mode inside.bursts in
    let free : job_out inside.out ≡ None = subst (λ (view : CoreView g.row.J.Denot). view.out ≡ None) (sym c.self.view_is) c.requires.free in
    let no_turn : inside.bursts.open ≡ None = subst (λ (view : CoreView g.row.J.Denot). view.bursts.open ≡ None) (sym c.self.view_is) c.requires.no_turn in
    let held = held_none view free no_turn in
    let key = c.in-Some.key in
    let later = first_of inside.ready.keys key c.in-Some.ensures in (
      key.queue,
      rw (← c.self.view_is) (first_is_next view inside.ready.keys key later.0 later.1 c.self.invariant.listed free no_turn c.len-count.ensures.rising),
      some_from_is_any (waiting_of key.queue c.args.self.now.queues)
          (rw (← c.self.view_is) (first_waits view inside.ready.keys key later.0 later.1 c.self.invariant.listed held)),
      λ none. true≢false (sym c.if-is_some.true ∙ c.is_some.ensures ∙ ap is_some (c.return_reason.ensures ∙ none)),
      c.requires.turns,
    )

pub returns : goal.returns
returns g c =
    let inside = c.self.inside in
    let view = core_view inside.core inside.cores (queues_alone inside.queues) inside.tallies.items inside.floor inside.turns (job_out inside.out) inside.senders inside.mode inside.bursts in
    let free : job_out inside.out ≡ None = subst (λ (view : CoreView g.row.J.Denot). view.out ≡ None) (sym c.self.view_is) c.requires.free in
    let no_turn : inside.bursts.open ≡ None = subst (λ (view : CoreView g.row.J.Denot). view.bursts.open ≡ None) (sym c.self.view_is) c.requires.no_turn in
    let held = held_none view free no_turn in
    let key = c.in-Some.key in
    let later = first_of inside.ready.keys key c.in-Some.ensures in
    record {
      next = rw (← c.self.view_is) (first_is_next view inside.ready.keys key later.0 later.1 c.self.invariant.listed free no_turn c.len-count.ensures.rising);
      stands = rw (← c.self.view_is) (sym (first_runtime view inside.ready.keys key later.0 later.1 c.self.invariant.listed));
      front = rw (← c.self.view_is) c.in-Some-front.ensures.head;
      kept = sym c.return_reason.ensures ∙ none_found c.return_reason.result (sym c.is_some.ensures ∙ c.if-is_some.false);
      left = c.requires.turns;
    }
