-- What a draft has handed on, once the last actor's notes came.
use Rattle.std.proofs.Common.{◌≡◌, ◌-◌, ◌∙◌, sym, ap, subst, refl, length, Option}
use Rattle.text_journal.specs.declared.draft.Part.{Part}
use Rattle.text_journal.specs.declared.draft.Part.TheVariants as part
use Rattle.text_journal.specs.Drafts.{Drafted, IsDraft, raised_to}
use Rattle.text_journal.specs.Handed.{Handed, HasHanded, IsBegun, IsLast, handed_in, handed_on}
use Rattle.text_journal.proofs.DraftLemmas.{passed_count, raised_is}

begun_handed : (p : Part) (draft : Drafted) → IsBegun p → handed_in p draft ≡ handed_on draft
begun_handed part.Form draft begun = elim begun [ ]
begun_handed part.Size draft begun = elim begun [ ]
begun_handed part.Notes draft begun = refl
begun_handed part.After draft begun = refl

pub handed_last : (draft : Drafted) → IsDraft draft → IsLast (handed_on (raised_to draft.cores draft))
handed_last draft within =
    let kept = raised_is (draft.cores - length draft.earlier) draft in
    passed_count draft within.actors ∙ sym kept.cores

pub handed_whole : {T : Type 0} (has : T → Handed → Type 0) (taker : Option T) (draft shown : Drafted) → IsBegun draft.part → shown ≡ raised_to draft.cores draft →
    HasHanded has taker (handed_in shown.part shown) → HasHanded has taker (handed_on (raised_to draft.cores draft))
handed_whole has taker draft shown begun is handed =
    let passed = raised_to draft.cores draft in
    let kept = raised_is (draft.cores - length draft.earlier) draft in
    subst (HasHanded has taker)
    (ap (λ (d : Drafted). handed_in d.part d) is ∙ begun_handed passed.part passed (subst IsBegun (sym kept.part) begun)) handed
