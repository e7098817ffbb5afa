use Rattle.fairexec_run.proofs.OneOutput.{output_of_jobs_once, output_once, text_once}
use Rattle.fairexec_run.proofs.OutputsRefused.{outputs_refused}
use Rattle.fairexec_run.proofs.laws.text_has_one_output.Goals as goal

pub returns : goal.returns
returns c = record { text = text_once; script = output_once; jobs = output_of_jobs_once; refused = outputs_refused }
