use Rattle.std.proofs.Common.{ap, sym, ◌∙◌, subst}
use Rattle.std.proofs.lemmas.Result.{on_ok_weaker}
use Rattle.text_journal.specs.Drafts.{Drafted, IsDraft}
use Rattle.text_journal.proofs.DraftLemmas.{fewer_line}
use Rattle.text_journal.proofs.draft.Draft.take_text.Goals as goal

pub returns-in-Notes-clause-fewer : goal.returns-in-Notes-clause-fewer
returns-in-Notes-clause-fewer g c =
    on_ok_weaker c.take_note_line.result
    (fewer_line c.args.self.now c.take_note_line.new.self c.args.line.now (sym (ap (λ (d : Drafted). d.part) c.self.view_is) ∙ c.in-Notes.is) (subst IsDraft c.self.view_is c.self.invariant.within))
    c.take_note_line.ensures.ok
