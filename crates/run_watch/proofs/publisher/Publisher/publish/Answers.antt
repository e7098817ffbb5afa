use Rattle.std.proofs.Common.{◌≡◌, ◌+◌, true, ◌∙◌, ap, sym, subst}
use Rattle.std.specs.Prelude.{is_some}
use Rattle.run_watch.specs.Closed.{closed_by_itself, told_after}
use Rattle.run_watch.proofs.Closed.{stays-told, told-same}
use Rattle.run_watch.proofs.publisher.Publisher.publish.Goals as goal

pub publish_as-requires-clause-stays : goal.publish_as-requires-clause-stays
publish_as-requires-clause-stays c = λ was. sym c.self.invariant.1 ∙ (ap (λ v. is_some v.closed) c.self.view_is ∙ was)

pub publish_as-requires-clause-own : goal.publish_as-requires-clause-own
publish_as-requires-clause-own c = λ was.
    let before = c.self.invariant.0.tells (c.self.invariant.1 ∙ was) in
    stays-told _ _ c.requires.grows (subst (λ notes. closed_by_itself notes ≡ true) (ap (λ v. v.notes) c.self.view_is) before)

pub returns : goal.returns
returns c =
    let closed = sym c.self.invariant.1 ∙ ap (λ v. is_some v.closed) c.self.view_is in
    let same = ap (told_after c.args.self.now.closed (c.args.self.now.count + 1)) closed ∙ told-same c.args.self.now.closed (c.args.self.now.count + 1) in
    c.publish_as.ensures ∙ ap (λ first. record c.args.self.now { notes = c.args.journal.now.notes; count = c.args.self.now.count + 1; closed = first }) same
