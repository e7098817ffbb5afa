use Rattle.std.proofs.Common.{◌≡◌, ◌∙◌, ◌||◌, [], ◌∷◌, false, not, true, ap, reverse, subst, sym}
use Rattle.std.proofs.lemmas.List.{reverse-append}
use Rattle.judge_sink.specs.Judging.{IsAlong, IsJudge, JudgeView, Steps}
use Rattle.judge_sink.specs.Replayed.{is_half, is_replayed, replayed}
use Rattle.judge_sink.proofs.Judgements.{judges_more, judges_no_more}
use Rattle.judge_sink.proofs.judge.Judge.judge.Goals as goal

pub invariant_of-self : goal.invariant_of-self
invariant_of-self c =
    let it = c.self in
    judges_no_more it.inside.house c.step_on-steps.new.house it.inside.waits c.step_on-steps.new.waits it.inside.links it.inside.links it.inside.table c.keeps-follows.new.self it.inside.left it.inside.half (reverse it.inside.has.items) c.args.note.now it.inside.goes_on
    it.invariant c.step_on-steps.ensures.terms

pub keeps-follows-requires : goal.keeps-follows-requires
keeps-follows-requires c =
    let it = c.self in
    let along = it.invariant.along (ap (λ (judge : JudgeView). judge.goes_on) it.view_is ∙ c.requires) in
    (it.inside.house.terms, reverse it.inside.has.items, along.sent)

pub invariant_of-self-2 : goal.invariant_of-self-2
invariant_of-self-2 c =
    let it = c.self in
    let note = c.args.note.now in
    let has = reverse it.inside.has.items in
    let going : it.inside.goes_on ≡ true = ap (λ (judge : JudgeView). judge.goes_on) it.view_is ∙ c.requires in
    let along : IsAlong it.inside.house it.inside.waits it.inside.links it.inside.table it.inside.left it.inside.half has = it.invariant.along going in
    let whole : it.inside.left ≡ false → replayed it.inside.links.core has ≡ has = λ none. ap (λ core. replayed core has) (sym it.invariant.core_is) ∙ along.whole none in
    let steps : Steps it.inside.links.core it.inside.half note it.inside.house it.inside.waits c.step_on-steps.new.house c.step_on-steps.new.waits =
    subst (λ core. Steps core it.inside.half note it.inside.house it.inside.waits c.step_on-steps.new.house c.step_on-steps.new.waits) c.core-core.ensures (c.step_on-steps.ensures.right c.if-not-steps.false) in
    let more : IsJudge c.step_on-steps.new.house c.step_on-steps.new.waits c.add.new.self c.keeps-follows.new.self (it.inside.left || not (is_replayed it.inside.links.core note)) (is_half note) (note ∷ has) it.inside.goes_on =
    judges_more it.inside.house c.step_on-steps.new.house it.inside.waits c.step_on-steps.new.waits it.inside.links c.add.new.self it.inside.table c.keeps-follows.new.self it.inside.left it.inside.half has note it.inside.goes_on it.invariant going
    (c.fits-fits.ensures.gates c.if-not-fits.false has along.known) (c.keeps-follows.ensures c.if-not-follows.false it.inside.house.terms has along.sent) (c.fits-fits.ensures.opens c.if-not-fits.false it.inside.links.core has along.step whole) steps c.step_on-steps.ensures.terms
    c.add.ensures.core c.add.ensures.cores (c.add.ensures.knows has along.known) in
    let left = ap (λ core. it.inside.left || not (is_replayed core note)) (sym c.core-core.ensures) ∙ sym c.is_left-self-inside.ensures in
    let longer = ap reverse c.with-self-inside.ensures ∙ reverse-append it.inside.has.items (note ∷ []) in
    subst (λ has. IsJudge c.step_on-steps.new.house c.step_on-steps.new.waits c.add.new.self c.keeps-follows.new.self c.is_left-self-inside.result c.is_half-self-inside.result has it.inside.goes_on) (sym longer)
    (subst (λ half. IsJudge c.step_on-steps.new.house c.step_on-steps.new.waits c.add.new.self c.keeps-follows.new.self c.is_left-self-inside.result half (note ∷ has) it.inside.goes_on) (sym c.is_half-self-inside.ensures)
    (subst (λ left. IsJudge c.step_on-steps.new.house c.step_on-steps.new.waits c.add.new.self c.keeps-follows.new.self left (is_half note) (note ∷ has) it.inside.goes_on) left more))
