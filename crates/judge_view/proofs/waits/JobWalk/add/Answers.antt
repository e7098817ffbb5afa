use Rattle.std.proofs.Common.{ℕ, ◌∙◌, ap}
use Rattle.judge_view.specs.Clocks.{clock_after}
use Rattle.judge_view.proofs.ClockSteps.{clock_next}
use Rattle.judge_view.proofs.SpanSteps.{walk_next}
use Rattle.judge_view.proofs.waits.JobWalk.add.Goals as goal

pub returns-clause-knows : goal.returns-clause-knows
returns-clause-knows c =
    λ before short knows.
    walk_next c.args.self.now (record { clock = c.add.new.self; waits = c.add-2.new.self; runs = c.add-3.new.self }) c.args.note.now before c.name_taken.result
    c.name_started.result c.name_started-2.result c.name_finished.result
    (c.add.ensures ∙ (ap (clock_after {T = ℕ} c.args.note.now) knows.clock ∙ clock_next c.args.note.now before short)) c.name_taken.ensures
    c.name_started.ensures c.name_started-2.ensures c.name_finished.ensures c.in_ok-add.ensures.goes c.in_ok-add-2.ensures.goes knows
