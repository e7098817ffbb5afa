use Rattle.std.proofs.Common.{◌++◌, ap, ◌∙◌, string_bytes}
use Rattle.std.proofs.lemmas.Result.{on_ok_weaker}
use Rattle.fairview_marks.specs.declared.polls.Bar.{Bar}
use Rattle.fairview_pictures.specs.Events.{last_poll_text}
use Rattle.fairview_pictures.proofs.note_events.put_note.Goals as goal

pub returns-in-Done : goal.returns-in-Done
returns-in-Done c =
    on_ok_weaker c.put_last_poll.result
    (
    λ put before knows reached.
    rw c.in-Done.is
    (put ∙ ap (λ (bar : Bar). string_bytes c.args.page.now ++ last_poll_text c.args.actor c.args.times.now.start bar) (c.bar_of-bar-in-Done.ensures before knows))
    )
    c.put_last_poll.ensures
