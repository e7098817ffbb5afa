use Rattle.std.proofs.Common.{◌+◌, sym, subst}
use Rattle.base_words.specs.Commands.{created_count}
use Rattle.run_watch.specs.Tells.{TellsCore}
use Rattle.run_watch.specs.Words.{HasAt, core_words}
use Rattle.run_watch.proofs.watcher.Watcher.core_stats.Goals as goal

pub returns : goal.returns
returns c =
    let told = c.self.invariant.tells in
    let seen = c.self.inside.seat.me.0.looked.seen in
    let stands = subst (λ l. HasAt l 0 (core_words told.core (created_count seen + 1) told.closed)) (sym c.as_slice.ensures.value) told.core_stands in
    let is = c.core_of.ensures told.core (created_count seen + 1) told.closed stands in
    subst (λ v. TellsCore v.terms.cores v.notes c.core_of.result) c.self.view_is (subst (λ k. TellsCore c.self.inside.terms.cores seen k) (sym is) told.core_is)
