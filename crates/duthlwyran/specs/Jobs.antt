-- The words of base_jobs that a job of one's own names.
pub use Rattle.base_jobs.specs.Plain.{answering_laws, answering_meaning, plain_laws, plain_meaning}
pub use Rattle.base_jobs.specs.Steps.{is_done_step}
pub use Rattle.base_jobs.specs.declared.job.Step.TheVariants.{Done}
