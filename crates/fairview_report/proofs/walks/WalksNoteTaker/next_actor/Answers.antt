use Rattle.std.proofs.Common.{◌∷◌, ◌++◌, [], sym, subst}
use Rattle.fairview_report.specs.Walks.{AreTold}
use Rattle.fairview_report.proofs.WalkLemmas.{told_more}
use Rattle.fairview_report.proofs.walks.WalksNoteTaker.next_actor.Goals as goal

pub returns : goal.returns
returns g c =
    λ handed within walked.
    let tells = g.W.CoreWalk.tells in
    let burst = c.args.self.now.burst in
    record {
      same_cores = walked.same_cores;
      same_burst = walked.same_burst;
      before =
          subst (λ items. AreTold tells burst items (handed.earlier ++ handed.notes ∷ [])) (sym c.in_ok-push.ensures.items)
          (told_more tells burst c.args.self.now.each.items handed.earlier c.into_told.result handed.notes walked.before
          (c.into_told.ensures burst handed.notes (subst (λ walk. g.W.CoreWalk.knows walk burst handed.notes) (sym c.replace-walk.ensures.value) walked.known)));
      known = subst (λ walk. g.W.CoreWalk.knows walk burst []) (sym c.replace-walk.ensures.after) c.start.ensures;
    }
