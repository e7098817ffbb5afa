use Rattle.std.proofs.Common.{◌≡◌, ◌∙◌, ℕ, Contains, Err, OnErr, Result, ap, length, subst, sym, is_err, true}
use Rattle.std.proofs.lemmas.List.Elements.{Contains-append_left, Contains-push}
use Rattle.note_journal.specs.Journals.{JournalView}
use Rattle.note_journal.specs.Keeping.{KeepView, HasRefused}
use Rattle.note_journal.proofs.keep.KeepSink.take.Goals as goal

-- what holds of a call that fails
of_err : {T E P : Type 0} (result : Result T E) → OnErr result P → is_err result ≡ true → P
of_err (Err error) holds fails = holds
of_err result holds fails = cc

pub returns-then-is_err-clause-told : goal.returns-then-is_err-clause-told
returns-then-is_err-clause-told c =
    let same = of_err c.make_room.result c.make_room.ensures.err (sym c.is_err.ensures.value ∙ c.if-is_err.true) in
    let counted : c.len.result ≡ length c.self.inside.journal.notes = c.len.ensures.value ∙ ap (λ (journal : JournalView ℕ). length journal.notes) same in
    let told = subst (λ items. Contains items c.len.result) (sym c.with-self-inside.ensures) (Contains-push c.self.inside.refused_at.items c.len.result) in
    subst (λ count. Contains c.with-self-inside.result.items count) (counted ∙ ap (λ (keep : KeepView). length keep.has) c.self.view_is) told

pub returns-then-is_err-clause-refusals : goal.returns-then-is_err-clause-refusals
returns-then-is_err-clause-refusals c count contains =
    subst (λ items. Contains items count) (sym c.with-self-inside.ensures)
    (Contains-append_left c.self.inside.refused_at.items _ count (subst (λ (keep : KeepView). HasRefused keep count) (sym c.self.view_is) contains))
