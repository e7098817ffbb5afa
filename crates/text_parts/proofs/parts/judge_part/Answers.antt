use Rattle.std.proofs.Common.{ℕ, List, arith, subst, sym}
use Rattle.std.specs.Prelude.{All}
use Rattle.base_words.specs.Spelled.{IsSpelledNote}
use Rattle.base_words.specs.Terms.{Terms}
use Rattle.base_words.specs.declared.note.Note.{Note}
use Rattle.note_journal.specs.Writers.{terms_seen}
use Rattle.text_parts.proofs.parts.judge_part.Goals as goal

pub returns-clause-ok : goal.returns-clause-ok
returns-clause-ok g c =
    let draft = c.args.draft.now in
    let notes = c.args.part.now.notes.items in
    let all = c.are_spelled.ensures.0 c.if-not-are_spelled.false in
    let mine = subst (λ (xs : List (Note ℕ)). All (IsSpelledNote {T = ℕ} (terms_seen c.writer.result)) xs) c.deref.ensures.value all in
    let told = subst (λ (terms : Terms). All (IsSpelledNote {T = ℕ} terms) notes) c.writer.ensures mine in
    record {
      before = omega arith;
      few = omega arith;
      spelled = subst (λ (n : ℕ). All (IsSpelledNote {T = ℕ} (record { actor = n; cores = draft.cores; cap = draft.cap; burst = draft.burst })) notes) (sym c.requires) told;
    }
