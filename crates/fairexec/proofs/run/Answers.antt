use Rattle.std.proofs.Common.{inl, refl}
use Rattle.fairexec.proofs.run.Goals as goal

pub returns-in-None-clause-runs : goal.returns-in-None-clause-runs
returns-in-None-clause-runs g c =
    rw c.in-None.is
    (record {
      done = c.run_script.ensures.done;
      faulty = c.run_script.ensures.faulty;
      prompt = c.run_script.ensures.prompt;
      at_once = c.run_script.ensures.at_once;
      unread = c.run_script.ensures.unread;
      silent = c.run_script.ensures.silent;
      judged = c.run_script.ensures.judged;
      begun = c.run_script.ensures.begun;
      failed = c.run_script.ensures.failed;
    })

pub returns-in-Ok-clause-runs : goal.returns-in-Ok-clause-runs
returns-in-Ok-clause-runs g c =
    rw c.in-Some.is (
      inl (
        c.in-Ok.source,
        c.run_script-in-Ok.new.source,
        record {
          done = c.run_script-in-Ok.ensures.done;
          faulty = c.run_script-in-Ok.ensures.faulty;
          prompt = c.run_script-in-Ok.ensures.prompt;
          at_once = c.run_script-in-Ok.ensures.at_once;
          unread = c.run_script-in-Ok.ensures.unread;
          silent = c.run_script-in-Ok.ensures.silent;
          judged = c.run_script-in-Ok.ensures.judged;
          begun = c.run_script-in-Ok.ensures.begun;
          failed = c.run_script-in-Ok.ensures.failed;
        },
      ),
      refl,
    )
