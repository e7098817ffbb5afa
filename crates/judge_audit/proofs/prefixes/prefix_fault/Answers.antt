use Rattle.judge_audit.proofs.Names.{ap, arith, at_start, IsPrefix, list_told, name_told, refl, subst, sym, whole_walk, with_last, ◌∙◌}
use Rattle.judge_audit.proofs.ToldNames.{told_at_place}
use Rattle.judge_audit.proofs.prefixes.prefix_fault.Goals as goal

pub loop-place-init : goal.loop-place-init
loop-place-init c = record {
  within = omega arith;
  even =
      ap (list_told (name_told c.args.front.now)) (at_start c.args.journal.now.notes) ∙
      sym (ap (list_told (name_told c.args.whole.now)) (at_start c.args.other.now.notes));
}

pub loop-place-preserved : goal.loop-place-preserved
loop-place-preserved c = record {
  within = c.in-Some.ensures.right.within;
  even =
      ap (list_told (name_told c.args.front.now)) c.note_at-note.ensures ∙
      (ap (λ told. with_last told (name_told c.args.front.now c.note_at-note.result)) c.loop-place.invariant.even ∙ c.in-Some.ensures.right.even);
}

pub returns-clause-kept : goal.returns-clause-kept
returns-clause-kept c =
    λ none.
    whole_walk (λ journal. IsPrefix (list_told (name_told c.args.front.now) journal) (list_told (name_told c.args.whole.now) c.args.other.now.notes))
    c.args.journal.now.notes c.loop-place.place (omega arith)
    (
    rw c.loop-place.invariant.even (told_at_place (name_told c.args.whole.now) c.loop-place.behind c.args.other.now.notes)
    )

pub returns-in_default-clause-named : goal.returns-in_default-clause-named
returns-in_default-clause-named c =
    let all = list_told (name_told c.args.whole.now) c.args.other.now.notes in
    let told =
    ap (list_told (name_told c.args.front.now)) c.note_at-note.ensures ∙
    ap (λ names. with_last names (name_told c.args.front.now c.note_at-note.result)) c.loop-place.invariant.even in
    record {
      place = c.loop-place.place;
      counted = refl;
      within = omega arith;
      kept = rw c.loop-place.invariant.even (told_at_place (name_told c.args.whole.now) c.loop-place.behind c.args.other.now.notes);
      broken = λ begins. c.in_default.ensures.only refl (subst (λ names. IsPrefix names all) told begins);
    }
