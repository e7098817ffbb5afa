use Rattle.std.proofs.Common.{◌≡◌, ◌<◌, ℕ, List, Some, get_or, length, refl, set, subst, sym, ap, ◌∙◌}
use Rattle.std.specs.Prelude.{slice_get}
use Rattle.actor_desk.proofs.Cores.{found}
use Rattle.base_words.specs.declared.names.JobId.{JobId}
use Rattle.judge_sink.specs.declared.table.Lane.{Lane}
use Rattle.judge_sink.specs.Lanes.{IsInStep, Keeps}
use Rattle.judge_sink.proofs.LaneSteps.{lane_in_step}
use Rattle.judge_sink.proofs.TableSteps.{table_same, table_steps}
use Rattle.judge_sink.proofs.table.Table.keeps.Goals as goal

-- the lane stands in its place
stands : (lanes : List Lane) (lane : Lane) (name : JobId) (place : ℕ × ℕ) {core : ℕ} → (place ≡ (name.to, name.number)) × (name.to < length lanes) × (name.from ≡ core) → lane ≡ get_or lanes place.0 lane →
    slice_get lanes name.to ≡ Some lane
stands lanes lane name place are is = found lanes name.to lane are.1 (is ∙ ap (λ (place : ℕ × ℕ). get_or lanes place.0 lane) are.0)

pub returns-in_default : goal.returns-in_default
returns-in_default c = λ yes terms before knows. table_same terms c.args.self.now c.args.note.now before (sym c.submission.ensures ∙ c.in_default.is) knows

pub keeps-requires : goal.keeps-requires
keeps-requires c =
    let lane = c.requires.2.each c.in-Some.name.to c.index_mut-lane.result.now (stands _ _ _ _ c.in-Some-place.ensures c.index_mut-lane.ensures.value) in
    subst (λ room. IsInStep room c.index_mut-lane.result.now) (sym c.requires.2.cap) (lane_in_step _ _ _ _ _ _ lane)

pub returns : goal.returns
returns c = λ yes terms before knows.
    table_steps terms c.args.self.now _ c.args.note.now c.in-Some.name c.index_mut-lane.result.now c.keeps.new.self before knows (sym c.submission.ensures ∙ c.in-Some.is) c.in-Some-place.ensures.2
    (stands _ _ _ _ c.in-Some-place.ensures c.index_mut-lane.ensures.value) refl refl (ap (λ (place : ℕ × ℕ). set c.args.self.now.lanes.items place.0 c.keeps.new.self) c.in-Some-place.ensures.0)
    (subst (λ (place : ℕ × ℕ). Keeps c.args.self.now.cap place.1 c.args.note.now c.index_mut-lane.result.now c.keeps.new.self) c.in-Some-place.ensures.0 (c.keeps.ensures yes))
