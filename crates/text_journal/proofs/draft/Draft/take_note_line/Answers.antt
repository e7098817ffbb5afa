use Rattle.std.proofs.Common.{Err, ◌≡◌, ◌-◌, ap, sym, subst, ◌∙◌, length, codes, false, Some}
use Rattle.std.specs.Str.{bytes_eq}
use Rattle.std.proofs.lemmas.Result.{on_ok_weaker}
use Rattle.text_words.specs.Words.{words, first, others}
use Rattle.text_journal.specs.Fields.{number_in}
use Rattle.text_journal.specs.NoteWords.{note_of}
use Rattle.text_journal.specs.declared.fault.JournalCause.{JournalCause}
use Rattle.text_journal.specs.Drafts.{Drafted, with_note, with_note_line}
use Rattle.text_journal.specs.Handed.{IsBegun}
use Rattle.text_journal.proofs.DraftLemmas.{line_read, raised_is}
use Rattle.text_bytes.proofs.FaultLemmas.{IfErr_cause}
use Rattle.text_journal.proofs.draft.Draft.take_note_line.Goals as goal

pub take_note-requires : goal.take_note-requires
take_note-requires g c =
    let draft = c.args.self.now in
    let kept = raised_is (c.in-Some.actor - length draft.earlier) draft in
    subst IsBegun (sym (ap (λ (d : Drafted). d.part) c.in_ok-raise_to-in-Some.ensures.ok ∙ kept.part ∙ c.requires)) tt

pub returns-in_ok-raise_to-in-Some-clause-ok : goal.returns-in_ok-raise_to-in-Some-clause-ok
returns-in_ok-raise_to-in-Some-clause-ok g c =
    let draft = c.args.self.now in
    let line = c.args.line.now in
    let other : bytes_eq line (codes "end") ≡ false = sym c.is_word.ensures ∙ c.if-is_word.false in
    let place : c.from-first.result ≡ length draft.earlier = c.from-first.ensures ∙ c.self.invariant.place ∙ ap (λ (d : Drafted). length d.earlier) c.self.view_is in
    let cores = ap (λ (d : Drafted). d.cores) c.self.view_is in
    let number : number_in (length draft.earlier) draft.cores (first (words line)) ≡ Some c.in-Some.actor = cc (place, cores, c.number_in.ensures.value, c.in-Some.is, c.next_word.ensures.word, c.of-fields.ensures, c.from.ensures) in
    let passed = c.in_ok-raise_to-in-Some.ensures.ok in
    let kept = raised_is (c.in-Some.actor - length draft.earlier) draft in
    let read : c.note_of.result ≡ note_of c.in-Some.actor draft.cores draft.burst (others (words line)) =
    cc (c.note_of.ensures, c.next_word.ensures.others, c.of-fields.ensures, ap (λ (d : Drafted). d.cores) c.self-in-Some.view_is, ap (λ (d : Drafted). d.cores) passed, kept.cores, ap (λ (d : Drafted). d.burst) c.self-in-Some.view_is, ap (λ (d : Drafted). d.burst) passed, kept.burst) in
    on_ok_weaker c.take_note.result (λ taken. line_read draft c.raise_to.new.self line c.in-Some.actor c.note_of.result other number passed read ∙ taken) c.take_note.ensures.ok

pub returns-in_ok-raise_to-in-Some-clause-faulty : goal.returns-in_ok-raise_to-in-Some-clause-faulty
returns-in_ok-raise_to-in-Some-clause-faulty g c =
    let draft = c.args.self.now in
    let line = c.args.line.now in
    let other : bytes_eq line (codes "end") ≡ false = sym c.is_word.ensures ∙ c.if-is_word.false in
    let place : c.from-first.result ≡ length draft.earlier = c.from-first.ensures ∙ c.self.invariant.place ∙ ap (λ (d : Drafted). length d.earlier) c.self.view_is in
    let cores = ap (λ (d : Drafted). d.cores) c.self.view_is in
    let number : number_in (length draft.earlier) draft.cores (first (words line)) ≡ Some c.in-Some.actor = cc (place, cores, c.number_in.ensures.value, c.in-Some.is, c.next_word.ensures.word, c.of-fields.ensures, c.from.ensures) in
    let passed = c.in_ok-raise_to-in-Some.ensures.ok in
    let kept = raised_is (c.in-Some.actor - length draft.earlier) draft in
    let read : c.note_of.result ≡ note_of c.in-Some.actor draft.cores draft.burst (others (words line)) =
    cc (c.note_of.ensures, c.next_word.ensures.others, c.of-fields.ensures, ap (λ (d : Drafted). d.cores) c.self-in-Some.view_is, ap (λ (d : Drafted). d.cores) passed, kept.cores, ap (λ (d : Drafted). d.burst) c.self-in-Some.view_is, ap (λ (d : Drafted). d.burst) passed, kept.burst) in
    IfErr_cause c.take_note.result
    (λ (cause : JournalCause). with_note c.raise_to.new.self c.note_of.result ≡ Err cause)
    (λ (cause : JournalCause). with_note_line draft line ≡ Err cause)
    (λ cause h. line_read draft c.raise_to.new.self line c.in-Some.actor c.note_of.result other number passed read ∙ h) c.take_note.ensures.faulty
