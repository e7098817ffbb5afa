use Rattle.std.proofs.Common.{◌≡◌, List, [], ◌∷◌, get_or, length, length-append, refl, sym, subst, ap, ◌∙◌, arith}
use Rattle.std.specs.Prelude.{Option, None}
use Rattle.fairview_lag.specs.declared.columns.Column.{Column}
use Rattle.fairview_lag.proofs.ColumnSteps.{none_pushed}
use Rattle.fairview_lag.proofs.columns.no_columns.Goals as goal

pub loop-count-init : goal.loop-count-init
loop-count-init c =
    let empty = c.new-columns.ensures.items in
    record { sized = rw empty refl; each = λ number. rw empty refl }

pub loop-count-preserved : goal.loop-count-preserved
loop-count-preserved c =
    let pushed = c.in_ok-push.ensures.items in
    record {
      sized = ap length pushed ∙ (length-append c.loop-count.columns.items (None ∷ []) ∙ omega (arith, c.loop-count.invariant.sized));
      each =
          λ number.
          subst (λ (items : List (Option Column)). get_or items number None ≡ None) (sym pushed) (none_pushed c.loop-count.columns.items c.loop-count.invariant.each number);
    }
