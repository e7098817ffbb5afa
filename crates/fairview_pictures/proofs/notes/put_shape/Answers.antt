use Rattle.std.proofs.Common.{◌++◌, ap, ◌∙◌, string_bytes}
use Rattle.std.proofs.lemmas.Result.{on_ok_weaker}
use Rattle.judge_view.specs.declared.clocks.CoreTime.{CoreTime}
use Rattle.fairview_pictures.specs.Gantts.{stroke_at}
use Rattle.fairview_pictures.specs.Marks.{gate_text}
use Rattle.fairview_pictures.specs.declared.marks.Kind.TheVariants.{Gate}
use Rattle.fairview_pictures.specs.declared.marks.Stroke.{Stroke}
use Rattle.fairview_pictures.proofs.notes.put_shape.Goals as goal

pub returns-in-Shut : goal.returns-in-Shut
returns-in-Shut c =
    on_ok_weaker c.put_gate.result
    (
    λ put before knows.
    let stroke = c.stroke-in-Shut.ensures ∙ ap (λ (clock : CoreTime). stroke_at c.args.frame.now Gate clock.time) (c.clock-time.ensures ∙ knows.clock) in
    rw c.in-Shut.is (put ∙ ap (λ (stroke : Stroke). string_bytes c.args.page.now ++ gate_text stroke c.in-Shut.sender c.in-Shut.count) stroke)
    )
    c.put_gate.ensures
