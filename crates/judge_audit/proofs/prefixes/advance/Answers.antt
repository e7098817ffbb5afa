use Rattle.judge_audit.proofs.Names.{at_place, both_ways, list_told, name_told, subst, sym, with_last, ◌++◌, ◌∙◌, ◌≡◌}
use Rattle.judge_audit.proofs.ToldNames.{same_next, told_at_place}
use Rattle.judge_audit.proofs.prefixes.advance.Goals as goal

pub returns-else-same_name-clause-only : goal.returns-else-same_name-clause-only
returns-else-same_name-clause-only c =
    λ none begins.
    let all = list_told (name_told c.args.whole.now) c.args.other.now.notes in
    let told = list_told (name_told c.args.whole.now) (at_place c.args.behind c.args.other.now.notes) in
    let here = subst (λ name. all ≡ with_last told name ++ begins.0) (sym c.name_told.ensures ∙ c.in-Some.is) begins.1 in
    let more = told_at_place (name_told c.args.whole.now) c.in-Some-next_told.found c.args.other.now.notes in
    let there = subst (λ items. all ≡ items ++ more.0) c.in-Some-next_told.ensures.next.next more.1 in
    let one = same_next told c.in-Some.name c.in-Some-next_told.next begins.0 more.0 (sym here ∙ there) in
    both_ways c.same_name.result c.if-same_name.false (c.same_name.ensures.only (sym one))
