use Rattle.judge_audit.proofs.Names.{arith, at_place, at_start, both_ways, EachNote, EndedIfSent, Journal, subst, sym, whole_walk, ℕ}
use Rattle.judge_audit.proofs.lost.all_ended.Goals as goal

pub loop-place-init : goal.loop-place-init
loop-place-init c =
    λ assembly journal orders history.
    subst (λ (read : Journal ℕ). EachNote (EndedIfSent journal assembly c.args.core) read) (sym (at_start c.args.sent.now.notes)) tt

pub loop-place-preserved : goal.loop-place-preserved
loop-place-preserved c =
    λ assembly journal orders history.
    subst (λ (read : Journal ℕ). EachNote (EndedIfSent journal assembly c.args.core) read) (sym c.note_at-note.ensures) (
      (c.ended_if_sent.ensures assembly journal (at_place c.loop-place.place c.args.sent.now.notes) orders history).0 c.if-not-ended_if_sent.false,
      c.loop-place.invariant assembly journal orders history,
    )

pub returns-then-not-ended_if_sent-clause-only : goal.returns-then-not-ended_if_sent-clause-only
returns-then-not-ended_if_sent-clause-only c =
    λ assembly journal orders history each.
    let before = at_place c.loop-place.place c.args.sent.now.notes in
    absurd
    (
    both_ways c.ended_if_sent.result c.if-not-ended_if_sent.true
    ((c.ended_if_sent.ensures assembly journal before orders history).1 (each c.note_at-note.result before))
    )

pub returns-clause-right : goal.returns-clause-right
returns-clause-right c =
    λ assembly journal orders history yes.
    whole_walk (λ read. EachNote (EndedIfSent journal assembly c.args.core) read) c.args.sent.now.notes c.loop-place.place (omega arith)
    (c.loop-place.invariant assembly journal orders history)
