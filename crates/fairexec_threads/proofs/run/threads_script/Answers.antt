use Rattle.fairexec_threads.proofs.Running.{tells_run, told_sound}
use Rattle.fairexec_threads.proofs.run.threads_script.Goals as goal

pub returns-in-Ok-clause-done : goal.returns-in-Ok-clause-done
returns-in-Ok-clause-done g c = record {
  assembly = c.in_ok-assembly.assembly;
  runs = tells_run (g.R.Source.remaining c.args.source.now) c.in_ok-script.script c.in_ok-assembly.assembly c.in_ok-script.ensures.ok c.in_ok-assembly.ensures.ok;
  told = c.in-Ok.ensures.done;
}

pub returns-in-Ok-clause-sound : goal.returns-in-Ok-clause-sound
returns-in-Ok-clause-sound g c = told_sound _ _ _ _ _ c.in_ok-assembly.assembly c.args.journal c.args.stats _ _ _ c.in_ok-assembly.ensures.ok c.in-Ok.ensures.done
