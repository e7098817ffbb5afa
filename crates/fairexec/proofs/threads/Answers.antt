use Rattle.std.proofs.Common.{inl, refl}
use Rattle.fairexec.proofs.threads.Goals as goal

pub returns-in-None-clause-runs : goal.returns-in-None-clause-runs
returns-in-None-clause-runs g c =
    rw c.in-None.is
    (record {
      done = c.threads_script.ensures.done;
      sound = c.threads_script.ensures.sound;
      faulty = c.threads_script.ensures.faulty;
      prompt = c.threads_script.ensures.prompt;
      at_once = c.threads_script.ensures.at_once;
      unread = c.threads_script.ensures.unread;
      silent = c.threads_script.ensures.silent;
      unwritten = c.threads_script.ensures.unwritten;
      failed = c.threads_script.ensures.failed;
    })

pub returns-in-Ok-clause-runs : goal.returns-in-Ok-clause-runs
returns-in-Ok-clause-runs g c =
    rw c.in-Some.is (
      inl (
        c.in-Ok.source,
        c.threads_script-in-Ok.new.source,
        record {
          done = c.threads_script-in-Ok.ensures.done;
          sound = c.threads_script-in-Ok.ensures.sound;
          faulty = c.threads_script-in-Ok.ensures.faulty;
          prompt = c.threads_script-in-Ok.ensures.prompt;
          at_once = c.threads_script-in-Ok.ensures.at_once;
          unread = c.threads_script-in-Ok.ensures.unread;
          silent = c.threads_script-in-Ok.ensures.silent;
          unwritten = c.threads_script-in-Ok.ensures.unwritten;
          failed = c.threads_script-in-Ok.ensures.failed;
        },
      ),
      refl,
    )
