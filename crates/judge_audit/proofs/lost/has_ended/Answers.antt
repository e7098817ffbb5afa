use Rattle.judge_audit.proofs.Names.{ended_by, is_told, JobId, Journal, name_answered, Order, refl, ℕ, ◌∙◌, ◌≡◌}
use Rattle.base_words.specs.declared.order.Order.TheVariants.{Job, Create, SetShares, Close, CloseCore, Wake}
use Rattle.judge_audit.proofs.lost.has_ended.Goals as goal

-- what is no job ends by its answer
command_ends : (journal : Journal ℕ) (name : JobId) (order : Order (Unit {0})) → ((queue : ℕ) (task : Unit {0}) → order ≡ Job queue task → ⊥) → is_told name_answered name journal ≡ ended_by journal name order
command_ends journal name (Job queue task) no_job = absurd (no_job queue task refl)
command_ends journal name (Create shares) no_job = refl
command_ends journal name (SetShares queue shares) no_job = refl
command_ends journal name (Close queue mode) no_job = refl
command_ends journal name (CloseCore mode) no_job = refl
command_ends journal name (Wake actor number) no_job = refl

pub returns-in_default : goal.returns-in_default
returns-in_default c = λ journal history. c.is_answered.ensures journal history ∙ command_ends journal c.args.name.now c.args.order.now c.in_default.not-Job
