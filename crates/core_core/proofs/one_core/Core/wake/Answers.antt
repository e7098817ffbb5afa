use Rattle.core_core.proofs.Names.{inl, sym, ◌∙◌}
use Rattle.core_core.proofs.one_core.Core.wake.Goals as goal

pub keep_out_wake-requires : goal.keep_out_wake-requires
keep_out_wake-requires g c = record { out = sym c.is_job_out.ensures ∙ c.if-is_job_out.true }

pub wake_inside-requires : goal.wake_inside-requires
wake_inside-requires g c = record { not_out = sym c.is_job_out.ensures ∙ c.if-is_job_out.false }

pub returns-then-is_job_out-clause-wakes : goal.returns-then-is_job_out-clause-wakes
returns-then-is_job_out-clause-wakes g c = inl c.keep_out_wake.ensures.keeps

pub returns-then-is_job_out-clause-bounded : goal.returns-then-is_job_out-clause-bounded
returns-then-is_job_out-clause-bounded g c = c.keep_out_wake.ensures.bounded

pub returns-clause-wakes : goal.returns-clause-wakes
returns-clause-wakes g c = c.wake_inside.ensures.wakes

pub returns-clause-bounded : goal.returns-clause-bounded
returns-clause-bounded g c = c.wake_inside.ensures.bounded
