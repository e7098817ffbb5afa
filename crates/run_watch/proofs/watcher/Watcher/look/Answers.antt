use Rattle.std.proofs.Common.{◌≤◌, ◌∙◌, refl, subst}
use Rattle.run_watch.specs.Growth.{Grows}
use Rattle.run_watch.proofs.watcher.Watcher.look.Goals as goal

pub loop-init : goal.loop-init
loop-init c = record { board = refl; terms = refl; notes = refl; count = refl; closed = refl }

pub loop-preserved : goal.loop-preserved
loop-preserved c =
    let inv = c.loop.invariant in
    let did = c.look_once.ensures in
    record { board = did.same.0 ∙ inv.board; terms = did.same.1 ∙ inv.terms; notes = did.none c.if-look_once.false ∙ inv.notes; count = (did.kept c.if-look_once.false).0 ∙ inv.count; closed = (did.kept c.if-look_once.false).1 ∙ inv.closed }

pub returns-then-look_once-clause-same : goal.returns-then-look_once-clause-same
returns-then-look_once-clause-same c = (c.look_once.ensures.same.0 ∙ c.loop.invariant.board, c.look_once.ensures.same.1 ∙ c.loop.invariant.terms)

pub returns-then-look_once-clause-grows : goal.returns-then-look_once-clause-grows
returns-then-look_once-clause-grows c = subst (λ l. Grows l c.look_once.new.self.notes) c.loop.invariant.notes c.look_once.ensures.grows

pub returns-then-look_once-clause-counted : goal.returns-then-look_once-clause-counted
returns-then-look_once-clause-counted c = subst (λ n. n ≤ c.look_once.new.self.count) c.loop.invariant.count c.look_once.ensures.counted

pub returns-then-look_once-clause-told : goal.returns-then-look_once-clause-told
returns-then-look_once-clause-told c = λ was. c.look_once.ensures.told (c.loop.invariant.closed ∙ was)
