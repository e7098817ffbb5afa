use Rattle.std.proofs.Common.{◌≡◌, ◌∙◌, List, Bool, false, rules, ap, sym, subst}
use Rattle.link_ends.specs.Fits.{Fits}
use Rattle.actor_caller.specs.Rings.{RingsView}
use Rattle.actor_caller.specs.State.{RuntimeView}
use Rattle.actor_caller.specs.Stored.{IsHeld, view_of}
use Rattle.actor_caller.specs.Watching.{AreWatched}
use Rattle.run_watch.specs.declared.watcher.Watching.{Watching}
use Rattle.actor_caller.proofs.caller.Caller.of.Goals as goal

pub returns : goal.returns
returns g c =
    let rung : c.of-bells.result ≡ record { names = c.args.bells.names; times = c.args.bells.rings; over = c.args.outside.ends } = search rules in
    let closing = c.sealed.ensures.items in
    let watchers = c.sealed-2.ensures.items in
    ap (λ (rung : RingsView _ _). view_of g.S.Sink.asks g.S.Sink.mark c.args.outside c.sealed.result.items (g.H.Beside.team c.args.house) c.args.room rung false c.args.sink c.sealed-2.result.items) rung
    ∙ (ap (λ (closing : List Bool). view_of g.S.Sink.asks g.S.Sink.mark c.args.outside closing (g.H.Beside.team c.args.house) c.args.room (record { names = c.args.bells.names; times = c.args.bells.rings; over = c.args.outside.ends }) false c.args.sink c.sealed-2.result.items) closing
    ∙ ap (λ (watchers : List Watching). view_of g.S.Sink.asks g.S.Sink.mark c.args.outside c.args.closing.items (g.H.Beside.team c.args.house) c.args.room (record { names = c.args.bells.names; times = c.args.bells.rings; over = c.args.outside.ends }) false c.args.sink watchers) watchers)

pub invariant_of-result : goal.invariant_of-result
invariant_of-result g c = (
  subst (λ (watchers : List Watching). AreWatched (g.H.Beside.team c.args.house) watchers) (sym c.sealed-2.ensures.items) c.requires.watched,
  subst (λ (view : RuntimeView _ _). IsHeld (Fits g.J.Task.meaning) g.S.Sink.has g.S.Sink.refused view c.args.cores c.args.cap c.args.sink) (sym (returns g c)) c.requires.held,
)
