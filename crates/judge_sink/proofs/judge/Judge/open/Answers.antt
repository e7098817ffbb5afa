use Rattle.std.proofs.Common.{[], None, false, true, reverse, refl, sym, ap, subst}
use Rattle.judge_sink.specs.Judging.{IsJudge, terms_in}
use Rattle.judge_sink.proofs.Judgements.{judges_none}
use Rattle.judge_sink.proofs.judge.Judge.open.Goals as goal

pub invariant_of-result : goal.invariant_of-result
invariant_of-result c =
    let opened = c.in_ok-house.ensures in
    let terms = terms_in c.args.core c.args.cores c.args.cap c.args.burst in
    subst (λ has. IsJudge c.in_ok-house.house None c.new.result c.in-Ok.table false false has true) (sym (ap reverse c.new-2.ensures))
    (subst (λ twin. IsJudge twin None c.new.result c.in-Ok.table false false [] true) (sym opened.1)
    (judges_none terms c.new.result c.in-Ok.table opened.0.core_in (sym c.new.ensures.core) (sym c.new.ensures.cores) c.new.ensures.knows (c.in-Ok.ensures terms refl refl refl)))
