use Rattle.std.proofs.Common.{◌≡◌, ◌<◌, ℕ, ◌∙◌, [], ◌∷◌, ◌++◌, ap, sym, subst, length, map, arith}
use Rattle.std.specs.Prelude.{true}
use Rattle.link_ring.specs.Grid.{IsGrid}
use Rattle.run_runtime.specs.declared.passed.Passed.{Passed}
use Rattle.actor_caller.specs.State.{closing_at}
use Rattle.run_runtime.specs.WithSinks.{HasPassed}
use Rattle.actor_caller.specs.Watching.{watch_at}
use Rattle.run_team.specs.Works.{Together}
use Rattle.run_team.proofs.Lists.{together_length}
use Rattle.actor_seat.specs.Together.{worker_at}
use Rattle.run_worker.specs.Workers.{KeepsOn}
use Rattle.run_watch.specs.Growth.{Grows}
use Rattle.run_runtime.proofs.AllPassed.{all_boards, all_ended, all_marks, all_run_on, ends_together, has_passed, part_counts}
use Rattle.run_runtime.proofs.Finished.{finished_grid}
use Rattle.run_runtime.proofs.runtime.Runtime.end.Goals as goal

-- the watchers are of the boards on which the workers published
pub compare_all-requires : goal.compare_all-requires
compare_all-requires g c =
    let keeps = subst (λ team. Together (KeepsOn g.S.Sink.mark) team c.join-ended.result.items) c.crew.view_is c.join-ended.ensures in
    c.into_parts-outside.ensures.watched.boards_are ∙ sym (all_boards g.S.Sink.mark c.into_parts-outside.result.2 c.join-ended.result.items keeps)

pub part_all-all-requires-clause-room_ends : goal.part_all-all-requires-clause-room_ends
part_all-all-requires-clause-room_ends g c =
    omega (arith, together_length (KeepsOn g.S.Sink.mark) c.crew.inside.team c.join-ended.result.items c.join-ended.ensures, ap length c.compare_all.ensures.ended, c.crew.invariant.0.1)

pub part_all-all-requires-clause-room_actors : goal.part_all-all-requires-clause-room_actors
part_all-all-requires-clause-room_actors g c =
    omega (arith, together_length (KeepsOn g.S.Sink.mark) c.crew.inside.team c.join-ended.result.items c.join-ended.ensures, ap length c.compare_all.ensures.ended, c.crew.invariant.1.1)

pub part_all-all-requires-clause-room_locals : goal.part_all-all-requires-clause-room_locals
part_all-all-requires-clause-room_locals g c =
    omega (arith, together_length (KeepsOn g.S.Sink.mark) c.crew.inside.team c.join-ended.result.items c.join-ended.ensures, ap length c.compare_all.ensures.ended, c.crew.invariant.3.1)

pub part_outside-requires : goal.part_outside-requires
part_outside-requires g c = c.into_parts-outside.ensures.passed ∙ ap (λ desk. desk.journal.passed) (sym c.into_parts-desk.ensures.desk)

pub push_reserved-requires : goal.push_reserved-requires
push_reserved-requires g c =
    let counts = part_counts g.J.Task.meaning g.S.Sink.has g.S.Sink.refused c.compare_all.new.ended.items c.part_all-all.result.0.items c.part_all-all.result.1.items c.part_all-all.ensures.parts in
    omega (
      arith,
      counts.0,
      together_length (KeepsOn g.S.Sink.mark) c.crew.inside.team c.join-ended.result.items c.join-ended.ensures,
      ap length c.compare_all.ensures.ended,
      c.crew.invariant.0.1,
      c.part_all-all.ensures.room_ends,
      c.part_all-all.result.0.ok.0,
    )

pub push_reserved-requires-2 : goal.push_reserved-requires-2
push_reserved-requires-2 g c =
    let counts = part_counts g.J.Task.meaning g.S.Sink.has g.S.Sink.refused c.compare_all.new.ended.items c.part_all-all.result.0.items c.part_all-all.result.1.items c.part_all-all.ensures.parts in
    omega (
      arith,
      counts.1,
      together_length (KeepsOn g.S.Sink.mark) c.crew.inside.team c.join-ended.result.items c.join-ended.ensures,
      ap length c.compare_all.ensures.ended,
      c.crew.invariant.1.1,
      c.part_all-all.ensures.room_actors,
      c.part_all-all.result.1.ok.0,
    )

pub reunite_all-requires : goal.reunite_all-requires
reunite_all-requires g c =
    let team = c.into_parts-outside.result.2 in
    let keeps = subst (Together (KeepsOn g.S.Sink.mark) team) (sym c.compare_all.ensures.ended) (subst (λ team. Together (KeepsOn g.S.Sink.mark) team c.join-ended.result.items) c.crew.view_is c.join-ended.ensures) in
    let parted = ap (λ ends. ends ++ c.into_parts-outside.result.0.ends ∷ []) c.part_all-all.ensures.parts.ends_are ∙ ends_together c.compare_all.new.ended.items c.into_parts-outside.result.0.ends in
    let ends = c.push_reserved.ensures.items ∙ (ap (λ last. c.part_all-all.result.0.items ++ last ∷ []) c.into_parts-desk.ensures.ends ∙ parted) in
    let cores = c.cores-cores.ensures ∙ sym (ap (λ view. view.desk.cores) c.into_parts-outside.ensures.is) in
    subst (λ cores. IsGrid cores c.push_reserved.new.self.items) (sym cores)
    (subst (IsGrid c.into_parts-outside.result.0.desk.cores) (sym ends)
    (finished_grid g.J.Task.meaning _ c.into_parts-outside.ensures.runtime (map (λ worker. worker.linked) c.compare_all.new.ended.items) (all_run_on g.S.Sink.mark team c.compare_all.new.ended.items keeps) c.grid_is_kept.ensures))

pub returns-clause-passed : goal.returns-clause-passed
returns-clause-passed g c =
    let team = c.into_parts-outside.result.2 in
    let outside = c.into_parts-outside.result.0 in
    let runtime = c.into_parts-outside.ensures.runtime in
    let same = c.into_parts-outside.ensures.is ∙ c.into_caller-caller.ensures in
    let joined = subst (λ team. Together (KeepsOn g.S.Sink.mark) team c.join-ended.result.items) c.crew.view_is c.join-ended.ensures in
    let keeps = subst (Together (KeepsOn g.S.Sink.mark) team) (sym c.compare_all.ensures.ended) joined in
    let kept = all_run_on g.S.Sink.mark team c.compare_all.new.ended.items keeps in
    let parted = ap (λ ends. ends ++ outside.ends ∷ []) c.part_all-all.ensures.parts.ends_are ∙ ends_together c.compare_all.new.ended.items outside.ends in
    let ends = c.push_reserved.ensures.items ∙ (ap (λ last. c.part_all-all.result.0.items ++ last ∷ []) c.into_parts-desk.ensures.ends ∙ parted) in
    let cores = c.cores-cores.ensures ∙ sym (ap (λ view. view.desk.cores) c.into_parts-outside.ensures.is) in
    let seen : (core : ℕ) → core < outside.desk.cores → Grows (watch_at core c.into_parts-outside.result.3.items).notes (worker_at core (map (λ worker. worker.linked) c.compare_all.new.ended.items)).recorded.journal.notes =
    λ core low.
    subst (λ ended. Grows (watch_at core c.into_parts-outside.result.3.items).notes (worker_at core (map (λ worker. worker.linked) ended)).recorded.journal.notes) (sym c.compare_all.ensures.ended)
    (c.compare_all.ensures.grows core (omega (arith, low, all_ended g.J.Task.meaning _ runtime c.join-ended.result.items (all_run_on g.S.Sink.mark team c.join-ended.result.items joined)))) in
    let closed = subst (λ view. (core : ℕ) → core < view.desk.cores → closing_at core view ≡ true) (sym same) c.requires in
    let passed : Passed g.row.S.Denot = record { cores = c.cores-cores.result; cap = c.cap-cap.result; burst = c.burst-burst.result; actors = c.push_reserved-2.new.self } in
    subst (λ view. HasPassed g.J.Task.meaning g.S.Sink.has g.S.Sink.refused g.S.Sink.asks g.S.Sink.mark view passed) same
    (has_passed g.J.Task.meaning g.S.Sink.has g.S.Sink.refused _ runtime c.compare_all.new.ended.items kept c.part_all-all.result.1.items c.part_all-all.ensures.parts.each
    c.part_outside.result (c.part_outside.ensures.notes ∙ ap (λ desk. desk.journal.notes) c.into_parts-desk.ensures.desk) c.part_outside.ensures.rest seen g.S.Sink.asks g.S.Sink.mark c.part_outside.ensures.asked
    (all_marks g.S.Sink.mark team c.compare_all.new.ended.items c.into_parts-outside.result.1 c.part_outside.result.sink keeps c.part_outside.ensures.marked)
    passed c.push_reserved.new.self.items cores c.cap-cap.ensures.cap (c.burst-burst.ensures ∙ ap (λ desk. desk.burst) c.into_parts-desk.ensures.desk) c.push_reserved-2.ensures.items ends c.reunite_all.ensures
    c.ended_are_joined.ensures c.joining_is_sound.ensures c.joined_are_spelled.ensures (λ core low. closed core (omega (arith, low, runtime.closings))))

pub returns-clause-room : goal.returns-clause-room
returns-clause-room g c =
    let counts = part_counts g.J.Task.meaning g.S.Sink.has g.S.Sink.refused c.compare_all.new.ended.items c.part_all-all.result.0.items c.part_all-all.result.1.items c.part_all-all.ensures.parts in
    omega (
      arith,
      counts.1,
      together_length (KeepsOn g.S.Sink.mark) c.crew.inside.team c.join-ended.result.items c.join-ended.ensures,
      ap length c.compare_all.ensures.ended,
      c.crew.invariant.2.1,
      c.push_reserved-2.ensures.len,
      c.part_all-all.result.1.ok.0,
      c.push_reserved-2.new.self.ok.0,
    )

pub returns-clause-locals : goal.returns-clause-locals
returns-clause-locals g c =
    let joined = subst (λ team. Together (KeepsOn g.S.Sink.mark) team c.join-ended.result.items) c.crew.view_is c.join-ended.ensures in
    c.part_all-all.ensures.locals
    ∙ (ap length c.compare_all.ensures.ended
    ∙ (all_ended g.J.Task.meaning _ c.into_parts-outside.ensures.runtime c.join-ended.result.items (all_run_on g.S.Sink.mark c.into_parts-outside.result.2 c.join-ended.result.items joined)
    ∙ ap (λ view. view.desk.cores) (c.into_parts-outside.ensures.is ∙ c.into_caller-caller.ensures)))
