use Rattle.std.proofs.Common.{sym, ◌∙◌}
use Rattle.judge_view.proofs.StorySteps.{not_told, is_told}
use Rattle.judge_view.proofs.stories.StoryWalk.add.Goals as goal

pub returns-then-not-is_name : goal.returns-then-not-is_name
returns-then-not-is_name c =
    λ part name before short knows.
    not_told part name c.args.self.now c.args.note.now before short knows c.name_told.result c.saturating_add-self.result c.add.new.self c.name_told.ensures (sym c.is_name.ensures ∙ c.if-not-is_name.true)
    c.saturating_add-self.ensures c.add.ensures

pub returns : goal.returns
returns c =
    λ part name before short knows.
    is_told part name c.args.self.now c.args.note.now before short knows c.name_told.result c.saturating_add-self.result c.add.new.self c.name_told.ensures (sym c.is_name.ensures ∙ c.if-not-is_name.false)
    c.saturating_add-self.ensures c.add.ensures
