use Rattle.std.proofs.Common.{ℕ, sym, ◌∙◌, subst}
use Rattle.std.proofs.lemmas.Bool.{true≢false}
use Rattle.note_stats.specs.Walks.{FiguresView, KnowsFigures}
use Rattle.note_stats.proofs.SumSteps.{core_known, drained_known, delivered_known, empty_known}
use Rattle.note_stats.proofs.figures.Figures.core_stats.Goals as goal

pub returns-then-all_done-clause-core : goal.returns-then-all_done-clause-core
returns-then-all_done-clause-core c =
    λ burst journal knows.
    let known = subst (λ (view : FiguresView). KnowsFigures {T = ℕ} burst view journal) (sym c.self.view_is) knows in
    core_known _ journal known c.held.result c.are_empty.result c.held.ensures

pub returns-then-all_done-clause-drained : goal.returns-then-all_done-clause-drained
returns-then-all_done-clause-drained c =
    λ burst journal knows.
    let known = subst (λ (view : FiguresView). KnowsFigures {T = ℕ} burst view journal) (sym c.self.view_is) knows in (
      λ idle. drained_known _ journal known c.args.cores (c.all_done.ensures.0 c.if-all_done.true) (c.are_empty.ensures.0 idle),
      λ drained. c.are_empty.ensures.1 (empty_known _ journal known c.args.cores drained),
    )

pub returns-else-all_done-clause-core : goal.returns-else-all_done-clause-core
returns-else-all_done-clause-core c =
    λ burst journal knows.
    let known = subst (λ (view : FiguresView). KnowsFigures {T = ℕ} burst view journal) (sym c.self.view_is) knows in
    core_known _ journal known c.held.result c.all_done.result c.held.ensures

pub returns-else-all_done-clause-drained : goal.returns-else-all_done-clause-drained
returns-else-all_done-clause-drained c =
    λ burst journal knows.
    let known = subst (λ (view : FiguresView). KnowsFigures {T = ℕ} burst view journal) (sym c.self.view_is) knows in (
      λ yes. absurd (true≢false (sym yes ∙ c.if-all_done.false)),
      λ drained. c.all_done.ensures.1 (delivered_known _ journal known c.args.cores drained),
    )
