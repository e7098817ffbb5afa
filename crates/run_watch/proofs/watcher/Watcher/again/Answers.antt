use Rattle.std.proofs.Common.{◌∙◌, ap, sym, arith}
use Rattle.run_watch.proofs.Readers.{IsWatcher-again}
use Rattle.run_watch.proofs.WatcherSteps.{parts}
use Rattle.run_watch.proofs.watcher.Watcher.again.Goals as goal

pub split_seat-seat-requires : goal.split_seat-seat-requires
split_seat-seat-requires c =
    let words = ap (λ b. b.shared.table_id.words) c.deref.ensures ∙ c.self.invariant.words in (
      c.self.invariant.at_table ∙ ap (λ b. b.shared.table_id) (sym c.deref.ensures),
      omega (arith, words),
      parts _ 0 _ c.self.inside.seat.me,
    )

pub invariant_of-result : goal.invariant_of-result
invariant_of-result c =
    let row = c.in_ok-row.ensures.items ∙ c.as_slice.ensures.value in
    let next = c.in_ok-next.ensures.items ∙ c.as_slice-2.ensures.value in
    IsWatcher-again _ _ _ _ c.self.inside.seat.me _ _ _ _ _ _ _ c.self.invariant c.split_seat-seat.ensures.3 (ap (λ b. b.shared.table_id) c.in_ok-board.ensures) (ap (λ m. m.0) c.split_seat-seat.ensures.4) row next
