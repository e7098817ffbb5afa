use Rattle.std.proofs.Common.{◌++◌, ap, ◌∙◌, string_bytes}
use Rattle.std.specs.Prelude.{Option, slice_get}
use Rattle.fairview_lag.specs.Pictures.{panel_told}
use Rattle.fairview_lag.specs.declared.pairs.PairLag.{PairLag}
use Rattle.fairview_marks.proofs.Lists.{before_all, after_one}
use Rattle.fairview_lag.proofs.picture.put_panels.Goals as goal

pub loop-index-init : goal.loop-index-init
loop-index-init c = before_all (λ index. panel_told index (slice_get c.args.pairs.now index) c.args.assembly.now) (string_bytes c.args.page.now)

pub loop-index-preserved : goal.loop-index-preserved
loop-index-preserved c =
    after_one (λ index. panel_told index (slice_get c.args.pairs.now index) c.args.assembly.now) c.loop-index.index (string_bytes c.args.page.now)
    (string_bytes c.loop-index.page) (string_bytes c.put_pair.new.page) c.loop-index.invariant
    (c.in_ok-put_pair.ensures ∙ ap (λ (pair : Option PairLag). string_bytes c.loop-index.page ++ panel_told c.loop-index.index pair c.args.assembly.now) c.pair_at.ensures)
