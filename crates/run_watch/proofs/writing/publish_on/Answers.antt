use Rattle.std.proofs.Common.{◌+◌, ap, ◌∙◌, sym, refl, arith, subst}
use Rattle.std.specs.Prelude.{is_some}
use Rattle.run_watch.specs.Closed.{told_after}
use Rattle.run_watch.specs.Growth.{Grows}
use Rattle.run_watch.specs.Tells.{Tells}
use Rattle.run_watch.specs.Views.{with_row, with_done}
use Rattle.run_watch.specs.Words.{closed_in}
use Rattle.run_watch.proofs.Closed.{row-closed, told-now}
use Rattle.run_watch.proofs.Writers.{IsPublisher-begun, IsPublisher-done}
use Rattle.run_watch.proofs.Telling.{row-tells}
use Rattle.run_watch.proofs.writing.publish_on.Goals as goal

pub begin-requires-clause-board : goal.begin-requires-clause-board
begin-requires-clause-board c = let is = c.requires.publisher in (is.at_table, omega (arith, is.words))

pub begin-requires-clause-publishes : goal.begin-requires-clause-publishes
begin-requires-clause-publishes c = c.requires.publisher.publishes

pub begin-requires-clause-next : goal.begin-requires-clause-next
begin-requires-clause-next c = omega (arith, c.requires.publisher.done)

pub put_row-requires-clause-writing : goal.put_row-requires-clause-writing
put_row-requires-clause-writing c = IsPublisher-begun _ _ _ c.args.seat.now.me c.begin.new.seat.me c.args.terms _ c.args.count _ c.requires.publisher refl c.begin.ensures.table c.begin.ensures.view

pub put_row-requires-clause-places : goal.put_row-requires-clause-places
put_row-requires-clause-places c = (search arith, c.requires.publisher.wide)

pub end-requires-clause-board : goal.end-requires-clause-board
end-requires-clause-board c = let is = c.requires.publisher in (c.put_row.ensures.table ∙ (c.begin.ensures.table ∙ is.at_table), omega (arith, is.words))

pub end-requires-clause-publishes : goal.end-requires-clause-publishes
end-requires-clause-publishes c = (
  ap (λ v. v.publishes) c.put_row.ensures.view ∙ (ap (λ v. v.publishes) c.begin.ensures.view ∙ c.requires.publisher.publishes),
  ap (λ v. v.knows) c.put_row.ensures.view ∙ (ap (λ v. v.knows) c.begin.ensures.view ∙ c.requires.publisher.knows),
)

pub end-requires-clause-begun : goal.end-requires-clause-begun
end-requires-clause-begun c =
    let begun = ap (λ v. v.published.begun) c.put_row.ensures.view ∙ ap (λ v. v.published.begun) c.begin.ensures.view in
    let done = ap (λ v. v.published.done) c.put_row.ensures.view ∙ (ap (λ v. v.published.done) c.begin.ensures.view ∙ c.requires.publisher.done) in
    (ap (λ n. n + 1) done, begun)

pub end-requires-clause-grows : goal.end-requires-clause-grows
end-requires-clause-grows c =
    let notes = ap (λ v. v.published.notes) c.put_row.ensures.view ∙ ap (λ v. v.published.notes) c.begin.ensures.view in
    subst (λ l. Grows l c.args.journal.now.notes) (sym notes) c.requires.grows

pub end-requires-clause-tells : goal.end-requires-clause-tells
end-requires-clause-tells c =
    let terms = ap (λ v. v.terms) c.put_row.ensures.view ∙ (ap (λ v. v.terms) c.begin.ensures.view ∙ c.requires.publisher.terms_are) in
    let row = ap (λ v. v.published.row) c.put_row.ensures.view in
    let tells = row-tells c.args.terms c.args.journal.now.notes c.put_row.new.row.items c.args.core.now c.args.queues.now c.args.closed c.requires.core c.requires.queues c.requires.own c.put_row.ensures.core c.put_row.ensures.queues in
    subst (λ t. Tells t c.args.journal.now.notes c.put_row.new.seat.me.0.published.row) (sym terms) (subst (λ l. Tells c.args.terms c.args.journal.now.notes l) (sym row) tells)

pub end-requires-clause-closed : goal.end-requires-clause-closed
end-requires-clause-closed c = λ was.
    let kept = ap (λ v. is_some v.published.closed) c.put_row.ensures.view ∙ ap (λ v. is_some v.published.closed) c.begin.ensures.view in
    ap (λ v. closed_in v.published.row) c.put_row.ensures.view ∙ (row-closed c.put_row.new.row.items c.args.closed (c.put_row.ensures.core 6 (omega arith)) ∙ c.requires.stays (sym kept ∙ was))

pub returns-clause-publisher : goal.returns-clause-publisher
returns-clause-publisher c =
    let two = c.put_row.ensures.view ∙ ap (λ v. with_row v c.put_row.new.row.items) c.begin.ensures.view in
    let view = c.end.ensures.view ∙ ap (λ v. with_done v (c.args.count + 1) c.args.journal.now.notes) two in
    let table = c.end.ensures.table ∙ (c.put_row.ensures.table ∙ c.begin.ensures.table) in
    let first = c.args.seat.now.me.0.published.closed in
    let told = row-closed c.put_row.new.row.items c.args.closed (c.put_row.ensures.core 6 (omega arith)) in
    IsPublisher-done _ _ _ c.args.seat.now.me c.end.new.seat.me c.args.terms _ _ c.args.count _ _ c.requires.publisher table view c.put_row.ensures.wide
    (λ was. c.requires.own (told-now first (c.args.count + 1) c.args.closed c.requires.stays ∙ (ap (λ closed. is_some (told_after first (c.args.count + 1) closed)) (sym told) ∙ was)))

pub returns-clause-table : goal.returns-clause-table
returns-clause-table c = c.end.ensures.table ∙ (c.put_row.ensures.table ∙ c.begin.ensures.table)

pub returns-clause-notes : goal.returns-clause-notes
returns-clause-notes c = ap (λ v. v.published.notes) c.end.ensures.view

pub returns-clause-closed : goal.returns-clause-closed
returns-clause-closed c =
    let two = c.put_row.ensures.view ∙ ap (λ v. with_row v c.put_row.new.row.items) c.begin.ensures.view in
    let view = c.end.ensures.view ∙ ap (λ v. with_done v (c.args.count + 1) c.args.journal.now.notes) two in
    let told = row-closed c.put_row.new.row.items c.args.closed (c.put_row.ensures.core 6 (omega arith)) in
    ap (λ v. v.published.closed) view ∙ ap (told_after c.args.seat.now.me.0.published.closed (c.args.count + 1)) told
