use Rattle.std.proofs.Common.{◌∷◌, ◌++◌, [], length, length-append, ap, sym, subst, arith}
use Rattle.fairview_report.specs.Walks.{AreTold}
use Rattle.fairview_report.proofs.WalkLemmas.{told_count, told_more}
use Rattle.fairview_report.proofs.walks.WalksNoteTaker.finish.Goals as goal

pub invariant_of-result : goal.invariant_of-result
invariant_of-result g c =
    let handed = c.requires.0 in
    let walked = c.requires.2 in
    let last = c.requires.1 in
    let same = walked.same_cores in
    let count = told_count g.W.CoreWalk.tells c.args.self.burst c.args.self.each.items handed.earlier walked.before in
    let longer = ap length c.in_ok-push.ensures.items in
    record { sized = omega (arith, longer, length-append c.args.self.each.items (c.into_told.result ∷ []), count, last, same) }

pub returns : goal.returns
returns g c =
    λ handed last walked.
    let tells = g.W.CoreWalk.tells in
    let burst = c.args.self.burst in
    record {
      same_cores = walked.same_cores;
      same_burst = walked.same_burst;
      told =
          subst (λ items. AreTold tells burst items (handed.earlier ++ handed.notes ∷ [])) (sym c.in_ok-push.ensures.items)
          (told_more tells burst c.args.self.each.items handed.earlier c.into_told.result handed.notes walked.before (c.into_told.ensures burst handed.notes walked.known));
    }
