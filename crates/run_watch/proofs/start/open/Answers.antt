use Rattle.std.proofs.Common.{◌+◌, ◌∙◌, ap, sym, length}
use Rattle.std.specs.Prelude.{is_some}
use Rattle.run_watch.proofs.Beginning.{IsPublisher-first, IsWatcher-first}
use Rattle.run_watch.proofs.start.open.Goals as goal

pub invariant_of-publisher : goal.invariant_of-publisher
invariant_of-publisher c = (
  IsPublisher-first _ _ c.in_ok-board.board.shared.table_id c.in_ok-board.seat.me _ _ c.in_ok-board.ensures.table.0 (ap (λ b. b.shared.table_id) c.in_ok-board-2.ensures.ok) c.in_ok-board.ensures.table.2 c.in_ok-row.ensures
      (ap (λ m. m.0) c.in_ok-board.ensures.publisher),
  ap (λ m. is_some m.0.published.closed) c.in_ok-board.ensures.publisher,
)

pub invariant_of-watcher : goal.invariant_of-watcher
invariant_of-watcher c =
    let seen = c.in_ok-seen.ensures.items ∙ c.as_slice.ensures.value in
    let next = c.in_ok-next.ensures.items ∙ c.as_slice-2.ensures.value in
    let again = ap (λ b. b.shared.table_id) c.in_ok-again.ensures ∙ ap (λ b. b.shared.table_id) c.in_ok-board-2.ensures.ok in
    let words = c.in_ok-board.ensures.table.2 ∙ ap (λ l. 2 + length l) (sym seen) in
    IsWatcher-first _ _ c.in_ok-board.board.shared.table_id c.in_ok-board.other.me _ _ c.in_ok-board.ensures.table.1 again words (seen ∙ c.in_ok-row.ensures) _ (next ∙ sym seen)
    (ap (λ m. m.0) c.in_ok-board.ensures.watcher)
