-- The lines of what was passed on before, and behind them those of what was kept.
use Rattle.std.proofs.Common.{◌≡◌, ℕ, List, ◌++◌, sym, ap, ◌∙◌, length, take, drop, map}
use Rattle.std.specs.Prelude.{reverse}
use Rattle.std.proofs.lemmas.List.{map-append, reverse-append}
use Rattle.std.proofs.Math.Seq.{take-append_seam}
use Rattle.base_words.specs.Journal.{Journal}
use Rattle.text_words.specs.Notes.{note_line}
use Rattle.note_journal.specs.Journals.{JournalView}
use Rattle.text_journal.specs.Texts.{actor_lines, text_of}
use Rattle.text_journal.proofs.LineLemmas.{text_of-append}
use Rattle.host_text.specs.Laws.{PartsAreJoined}
use Rattle.host_text.specs.Parts.{IsPart}

-- the lines of newer notes stand behind those of older ones
lines_behind : (actor : ℕ) (kept passed : Journal ℕ) → text_of (actor_lines actor (kept ++ passed)) ≡ text_of (actor_lines actor passed) ++ text_of (actor_lines actor kept)
lines_behind actor kept passed =
    ap (λ notes. text_of (map (note_line actor) notes)) (reverse-append kept passed) ∙
    (ap text_of (map-append (note_line actor) (reverse passed) (reverse kept)) ∙ text_of-append (actor_lines actor passed) (actor_lines actor kept))

part_behind : (actor : ℕ) (journal : JournalView ℕ) (text : List ℕ) → IsPart actor journal text → text_of (actor_lines actor journal.passed) ++ text ≡ text_of (actor_lines actor journal.notes)
part_behind actor journal text is =
    ap (λ part. text_of (actor_lines actor journal.passed) ++ part) is.lines ∙
    (sym (lines_behind actor is.kept journal.passed) ∙ ap (λ notes. text_of (actor_lines actor notes)) is.whole)

front_is : (text rest after : List ℕ) (count : ℕ) → count ≡ length text → after ≡ text ++ rest → take count after ≡ text
front_is text rest after count many is = ap (λ n. take n after) many ∙ (ap (λ bytes. take (length text) bytes) is ∙ take-append_seam text rest)

pub joined : PartsAreJoined
joined actor count old new parts before after are passes =
    let copies = passes.0 in (
      ap (λ front. front ++ take count after) are ∙
          (ap (λ part. text_of (actor_lines actor old.passed) ++ part) (front_is copies.0 (drop count before) after count copies.2.0 copies.2.2) ∙
          (part_behind actor old copies.0 copies.1 ∙ ap (λ (journal : JournalView ℕ). text_of (actor_lines actor journal.notes)) (sym passes.1))),
      ap (λ (journal : JournalView ℕ). journal.passed) passes.1 ∙ sym (ap (λ (journal : JournalView ℕ). journal.notes) passes.1),
    )
