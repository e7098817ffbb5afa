use Rattle.std.proofs.Common.{ℕ, ◌-◌, ap, arith, length, subst, sym, ◌∙◌}
use Rattle.base_words.specs.Terms.{Terms}
use Rattle.text_journal.specs.Drafts.{Drafted, raised_to}
use Rattle.text_parts.specs.declared.part.Part.{Part}
use Rattle.text_journal.specs.Handed.{IsBegun}
use Rattle.text_journal.proofs.DraftLemmas.{raised_is}
use Rattle.text_parts.proofs.parts.take_part.Goals as goal

pub judge_part-requires : goal.judge_part-requires
judge_part-requires g c =
    let draft = c.args.draft.now in
    let kept = raised_is (c.args.part.now.actor - length draft.earlier) draft in
    let more = kept.earlier in
    let first = ap (λ (terms : Terms). terms.actor) c.writer-writer.ensures in
    let here = ap (λ (part : Part). part.actor) c.part.view_is in
    let long = ap (λ (d : Drafted). length d.earlier) (c.in-Ok.ensures.ok ∙ ap (λ (n : ℕ). raised_to n draft) here) in
    omega arith

pub take_notes-requires-clause-begun : goal.take_notes-requires-clause-begun
take_notes-requires-clause-begun g c =
    let draft = c.args.draft.now in
    let kept = raised_is (c.args.part.now.actor - length draft.earlier) draft in
    let here = ap (λ (part : Part). part.actor) c.part.view_is in
    let passed = c.in-Ok.ensures.ok ∙ ap (λ (n : ℕ). raised_to n draft) here in
    subst IsBegun (sym (ap (λ (d : Drafted). d.part) passed ∙ kept.part)) c.requires
