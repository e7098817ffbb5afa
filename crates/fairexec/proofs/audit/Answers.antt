use Rattle.std.proofs.Common.{inl, refl}
use Rattle.fairexec.proofs.audit.Goals as goal

pub returns-in-None : goal.returns-in-None
returns-in-None g c =
    rw c.in-None.is
    (record {
      text = record {
        done = c.audit_text.ensures.done;
        sound = c.audit_text.ensures.sound;
        faulty = c.audit_text.ensures.faulty;
        silent = c.audit_text.ensures.silent;
        unwritten = c.audit_text.ensures.unwritten;
        failed = c.audit_text.ensures.failed;
      };
      prompt = c.audit_text.ensures.prompt;
      at_once = c.audit_text.ensures.at_once;
      unread = c.audit_text.ensures.unread;
    })

pub returns-in-Ok : goal.returns-in-Ok
returns-in-Ok g c =
    rw c.in-Some.is (
      inl (
        c.in-Ok.source,
        c.audit_text-in-Ok.new.source,
        record {
          text = record {
            done = c.audit_text-in-Ok.ensures.done;
            sound = c.audit_text-in-Ok.ensures.sound;
            faulty = c.audit_text-in-Ok.ensures.faulty;
            silent = c.audit_text-in-Ok.ensures.silent;
            unwritten = c.audit_text-in-Ok.ensures.unwritten;
            failed = c.audit_text-in-Ok.ensures.failed;
          };
          prompt = c.audit_text-in-Ok.ensures.prompt;
          at_once = c.audit_text-in-Ok.ensures.at_once;
          unread = c.audit_text-in-Ok.ensures.unread;
        },
      ),
      refl,
    )
