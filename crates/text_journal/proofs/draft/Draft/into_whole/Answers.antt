use Rattle.std.proofs.Common.{ap, ◌∙◌, subst}
use Rattle.std.proofs.lemmas.Result.{IfOk-weaker}
use Rattle.text_journal.specs.Drafts.{Drafted, IsDraft, raised_to}
use Rattle.text_journal.specs.Handed.{handed_on}
use Rattle.text_journal.proofs.PassLemmas.{handed_last, handed_whole}
use Rattle.text_journal.proofs.draft.Draft.into_whole.Goals as goal

pub finished-requires : goal.finished-requires
finished-requires g c =
    let draft = c.args.self in
    let within : IsDraft draft = subst IsDraft c.self.view_is c.self.invariant.within in
    let passed = c.in_ok-raise_to.ensures.ok ∙ ap (λ n. raised_to n draft) (ap (λ (d : Drafted). d.cores) c.self.view_is) in (
      handed_on (raised_to draft.cores draft),
      handed_last draft within,
      handed_whole g.T.NoteTaker.has c.self-2.inside.taker draft _ c.requires (c.self-2.view_is ∙ passed) c.self-2.invariant.handed,
    )

pub returns-clause-ok : goal.returns-clause-ok
returns-clause-ok g c =
    let draft = c.args.self in
    let within : IsDraft draft = subst IsDraft c.self.view_is c.self.invariant.within in
    let passed = c.in_ok-raise_to.ensures.ok ∙ ap (λ n. raised_to n draft) (ap (λ (d : Drafted). d.cores) c.self.view_is) in
    IfOk-weaker c.finished.result _ _
    (
    λ whole told.
    told (handed_on (raised_to draft.cores draft)) (handed_last draft within)
    (handed_whole g.T.NoteTaker.has c.self-2.inside.taker draft _ c.requires (c.self-2.view_is ∙ passed) c.self-2.invariant.handed)
    )
    c.finished.ensures.ok
