use Rattle.std.proofs.Common.{◌<◌, ◌∙◌, length, ap, arith}
use Rattle.std.proofs.Math.Seq.{map-set_same}
use Rattle.run_watch.specs.declared.watcher.Watching.{Watching}
use Rattle.actor_caller.proofs.Watched.{held_watched, watch_count, watches, watches_as}
use Rattle.actor_caller.proofs.caller.Caller.watch.Goals as goal

pub invariant_of-self : goal.invariant_of-self
invariant_of-self g c = (
  record {
    boards_are = map-set_same (λ (watcher : Watching). watcher.board) c.self.inside.watchers.items c.core.inside.0 c.look.new.self c.index_mut.result.now
        (c.look.ensures.same.0 ∙ ap (λ (watcher : Watching). watcher.board) c.index_mut.ensures.value) ∙ c.self.invariant.0.boards_are;
    boards = c.self.invariant.0.boards;
    marks = c.self.invariant.0.marks;
  },
  held_watched _ _ c.self.inside.sink c.self.invariant.1,
)

pub returns-clause-watches : goal.returns-clause-watches
returns-clause-watches g c =
    let low : c.core.inside.0 < length c.self.inside.watchers.items =
    omega (arith, c.if-core-self.false, c.self.invariant.1.cores_are, watch_count c.self.inside.watchers.items _ c.self.invariant.0, c.self.invariant.1.runtime.count) in
    λ there.
    watches_as _ c.args.self.now _ c.core.inside.0 c.args.core c.look.result c.self.view_is c.core.view_is
    (watches _ c.core.inside.0 low c.index_mut.result.now c.look.new.self c.look.result c.index_mut.ensures.value c.look.ensures.same.0 c.look.ensures.same.1 c.look.ensures.grows c.look.ensures.counted c.look.ensures.told c.look.ensures.none
    c.look.ensures.kept)
