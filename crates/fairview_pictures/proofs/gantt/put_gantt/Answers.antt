use Rattle.std.proofs.Common.{◌++◌, ap, ◌∙◌, string_bytes}
use Rattle.std.proofs.lemmas.Result.{on_ok_weaker}
use Rattle.fairview_pictures.specs.Cuts.{lanes}
use Rattle.fairview_pictures.specs.Gantts.{all_lanes}
use Rattle.fairview_pictures.specs.Heads.{head_text, end_text}
use Rattle.fairview_pictures.proofs.GanttLemmas.{three_more}
use Rattle.fairview_pictures.proofs.gantt.put_gantt.Goals as goal

pub returns : goal.returns
returns c =
    let count = c.lanes.ensures ∙ ap (lanes c.args.cut.now) c.cores.ensures.value in
    let span = c.longest-span.ensures in
    on_ok_weaker c.put_end.result
    (
    λ put.
    three_more _ _ _ _ _ _ _ c.in_ok-put_opening.ensures c.in_ok-put_lanes.ensures put ∙
    (λ i. string_bytes c.args.page.now ++ (head_text (count i) (span i) ++ (all_lanes c.args.cut.now (span i) c.args.assembly.now ++ end_text)))
    )
    c.put_end.ensures
