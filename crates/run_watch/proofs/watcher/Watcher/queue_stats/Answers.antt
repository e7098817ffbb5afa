use Rattle.std.proofs.Common.{◌≡◌, ℕ, ◌≤◌, ◌∙◌, List, ap, sym, subst, arith}
use Rattle.std.specs.Prelude.{slice_index}
use Rattle.base_words.specs.Charge.{InRange}
use Rattle.base_words.specs.Commands.{created_count}
use Rattle.base_words.specs.Stats.{queue_stats}
use Rattle.run_watch.specs.Words.{HasAt, queue_words}
use Rattle.run_watch.proofs.Telling.{shares-told, queue-told}
use Rattle.run_watch.proofs.watcher.Watcher.queue_stats.Goals as goal

pub queue_of-requires-clause-shares : goal.queue_of-requires-clause-shares
queue_of-requires-clause-shares c =
    let number = c.from-number.result in
    let seen = c.self.inside.seat.me.0.looked.seen in
    let count : created_count seen ≡ created_count c.args.self.now.notes = ap (λ v. created_count v.notes) c.self.view_is in
    let low : number ≤ created_count seen = omega (arith, count, c.queue_count.ensures, c.if-number-queue_count.false) in
    let fits = shares-told c.self.inside.terms seen c.self.inside.row.items c.self.invariant.tells number c.if-number-self.false low in
    subst (λ (z : List ℕ × ℕ). InRange (slice_index z.0 z.1)) (λ i. (sym c.as_slice.ensures.value i, sym c.place_of.ensures i)) fits

pub returns-clause-told : goal.returns-clause-told
returns-clause-told c = λ placed.
    let number = c.from-number.result in
    let seen = c.self.inside.seat.me.0.looked.seen in
    let count : created_count seen ≡ created_count c.args.self.now.notes = ap (λ v. created_count v.notes) c.self.view_is in
    let low : number ≤ created_count seen = omega (arith, count, c.queue_count.ensures, c.if-number-queue_count.false) in
    let told = queue-told c.self.inside.terms seen c.self.inside.row.items c.self.invariant.tells number c.if-number-self.false low c.queue_of.result
    (λ stats has. c.queue_of.ensures stats (subst (λ (z : List ℕ × ℕ). HasAt z.0 z.1 (queue_words stats)) (λ i. (sym c.as_slice.ensures.value i, sym c.place_of.ensures i)) has)) in
    let same : number ≡ c.args.queue = c.from-number.ensures ∙ c.queue.view_is in
    told ∙ (λ i. queue_stats ((c.self.view_is i).terms.burst) (same i) ((c.self.view_is i).notes))
