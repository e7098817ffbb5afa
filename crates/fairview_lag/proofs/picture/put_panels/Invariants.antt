-- The panels so far stand behind what the page had.
use Rattle.std.proofs.Common.{◌≡◌, ◌++◌, string_bytes}
use Rattle.std.specs.Prelude.{slice_get}
use Rattle.fairview_marks.specs.Lists.{lists_below}
use Rattle.fairview_lag.specs.Pictures.{panel_told}
use Rattle.fairview_lag.proofs.picture.put_panels.Given as goal

abbrev pub invariant-loop-index : goal.invariant-loop-index
invariant-loop-index l = string_bytes l.page ≡ string_bytes l.initial.page ++ lists_below (λ index. panel_told index (slice_get l.pairs index) l.assembly) l.index
