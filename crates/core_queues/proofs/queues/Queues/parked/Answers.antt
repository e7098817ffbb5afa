use Rattle.core_queues.proofs.Words.{ap, arith, get, inl, inr, is_some, JobId, name_of, Some, Waiting, ℕ, ◌∙◌, ◌≡◌}
use Rattle.core_queues.proofs.Named.{HoldsNone-nowhere}
use Rattle.core_queues.proofs.Names.{entry_of, key_within}
use Rattle.core_queues.proofs.Wakes.{finds_seat, finds_waiting, IsParkedAs-found, WaitsAs-found}
use Rattle.core_queues.proofs.queues.Queues.parked.Goals as goal

pub returns-in_default-clause-none : goal.returns-in_default-clause-none
returns-in_default-clause-none g c =
    let inside = c.self.inside in
    let none : (key : ℕ) (waiting : Waiting g.row.J.Denot) → get inside.jobs key ≡ Some waiting → waiting.name ≡ c.args.name → ⊥ =
    λ key waiting is named. c.in_default.ensures.none key (c.self.invariant.3.named key ∙ ap name_of is ∙ ap (λ (name : JobId). Some name) named) in
    rw (← c.self.view_is) (inr (HoldsNone-nowhere inside.room inside.jobs inside.lines.items c.args.name none))

pub read_seat-requires : goal.read_seat-requires
read_seat-requires g c =
    let inside = c.self.inside in
    let entry = entry_of inside.jobs inside.names c.args.name c.in-Some.key c.self.invariant.3.named c.in-Some.ensures.found in
    omega (arith, key_within inside.jobs inside.names c.in-Some.key c.self.invariant.3.named (ap is_some entry.1), c.self.invariant.3.names_size, c.self.invariant.3.seats_size)

pub index-requires : goal.index-requires
index-requires g c = ap is_some (entry_of c.self.inside.jobs c.self.inside.names c.args.name c.in-Some.key c.self.invariant.3.named c.in-Some.ensures.found).1

pub returns-in-Parked-clause-there : goal.returns-in-Parked-clause-there
returns-in-Parked-clause-there g c =
    let inside = c.self.inside in
    let seat = finds_seat inside.names inside.seats.items c.args.name c.in-Some.key c.in-Parked._queue c.in-Parked._before c.self.invariant.0 c.self.invariant.3 c.in-Some.ensures.found c.in-Parked.ensures in
    rw (← c.self.view_is) (IsParkedAs-found inside.room inside.jobs inside.lines.items c.in-Parked._queue (record { key = c.in-Some.key; index = seat.0; before = c.in-Parked._before }) c.args.name c.index.result.now c.index.ensures seat.2)

pub returns-in-Waits-clause-none : goal.returns-in-Waits-clause-none
returns-in-Waits-clause-none g c =
    let inside = c.self.inside in
    let seat = finds_waiting inside.names inside.seats.items c.args.name c.in-Some.key c.self.invariant.0 c.self.invariant.3 c.in-Some.ensures.found c.in-Waits.ensures in
    rw (← c.self.view_is) (inl (WaitsAs-found inside.room inside.jobs inside.lines.items seat.0 (record { key = c.in-Some.key; index = seat.1; before = seat.2 }) c.args.name seat.3.waiting seat.3.there seat.3))
