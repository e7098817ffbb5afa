use Rattle.std.proofs.Common.{◌++◌, ◌∙◌, string_bytes}
use Rattle.std.proofs.lemmas.Result.{on_ok_weaker}
use Rattle.fairview_pictures.specs.Gantts.{lane_head, notes_text}
use Rattle.fairview_pictures.specs.Marks.{legend_text}
use Rattle.fairview_pictures.proofs.GanttLemmas.{three_more}
use Rattle.fairview_pictures.proofs.lanes.put_whole_lane.Goals as goal

pub returns : goal.returns
returns c =
    let frame = c.frame_of-frame.ensures in
    let shares = c.default.ensures in
    on_ok_weaker c.put_notes.result
    (
    λ put.
    three_more _ _ _ _ _ _ _ c.in_ok-put_head.ensures c.in_ok-put_queue.ensures put ∙
    (
    λ i.
    string_bytes c.args.page.now ++
    (lane_head (frame i).top c.args.core ++ (legend_text (frame i).top 0 (shares i) ++ notes_text (frame i) c.args.journal.now.notes))
    )
    )
    c.put_notes.ensures
