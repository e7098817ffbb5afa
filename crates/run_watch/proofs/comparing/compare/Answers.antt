use Rattle.std.proofs.Common.{◌∙◌, ap, sym, arith}
use Rattle.run_watch.proofs.BothEnds.{same_table, joins, compares}
use Rattle.run_watch.proofs.WatcherSteps.{parts}
use Rattle.run_watch.proofs.comparing.compare.Goals as goal

pub split_seat-other-requires : goal.split_seat-other-requires
split_seat-other-requires c =
    let one = same_table c.watcher.inside.seat.table_id c.publisher.inside.seat.table_id (ap (λ v. v.board) c.watcher.view_is ∙ (c.requires ∙ ap (λ v. v.board) (sym c.publisher.view_is))) in
    let words = ap (λ b. b.shared.table_id.words) c.deref.ensures ∙ c.publisher.invariant.0.words in (
      one ∙ (c.publisher.invariant.0.at_table ∙ ap (λ b. b.shared.table_id) (sym c.deref.ensures)),
      omega (arith, words),
      parts _ 0 _ c.watcher.inside.seat.me,
    )

pub join_seat-requires : goal.join_seat-requires
join_seat-requires c =
    let one = same_table c.watcher.inside.seat.table_id c.publisher.inside.seat.table_id (ap (λ v. v.board) c.watcher.view_is ∙ (c.requires ∙ ap (λ v. v.board) (sym c.publisher.view_is))) in
    let words = ap (λ b. b.shared.table_id.words) c.deref.ensures ∙ c.publisher.invariant.0.words in
    let other = c.split_seat-other.ensures in (
      c.publisher.invariant.0.at_table ∙ ap (λ b. b.shared.table_id) (sym c.deref.ensures),
      other.3 ∙ (one ∙ (c.publisher.invariant.0.at_table ∙ ap (λ b. b.shared.table_id) (sym c.deref.ensures))),
      ap (λ m. m.1) other.4,
      omega (arith, words),
      joins _ _ _ _ _,
    )

pub load-begun-requires : goal.load-begun-requires
load-begun-requires c =
    let words = ap (λ b. b.shared.table_id.words) c.deref.ensures ∙ c.publisher.invariant.0.words in
    let joined = c.join_seat.ensures in (
      joined.0 ∙ (c.publisher.invariant.0.at_table ∙ ap (λ b. b.shared.table_id) (sym c.deref.ensures)),
      omega (arith, words),
      compares _ _ _ _ (ap (λ m. m.0.publishes) joined.2 ∙ c.publisher.invariant.0.publishes),
    )
