-- The text of all notes, while lines are put and written.
use Rattle.std.proofs.Common.{◌≡◌, ℕ, List, ◌++◌, Option, sym, ap, ◌∙◌, append_assoc, append-nil, [], subst, map}
use Rattle.std.specs.Prelude.{reverse}
use Rattle.std.proofs.lemmas.List.{map-append, reverse-reverse}
use Rattle.std.proofs.KnownBytes.{Appends-trans}
use Rattle.base_words.specs.declared.note.Note.{Note}
use Rattle.text_words.specs.Notes.{note_line}
use Rattle.text_journal.specs.Texts.{actor_lines, text_of}
use Rattle.text_journal.proofs.LineLemmas.{text_of-append}
use Rattle.note_sinks.specs.Lines.{HasWritten, HoldsText}
use Rattle.note_sinks.specs.Outlets.{Writes, notes_text}

-- the lines of a list of notes, the newest first, are those of the list, the oldest first
lines_of_items : (actor : ℕ) (items : List (Note ℕ)) → text_of (actor_lines actor (reverse items)) ≡ notes_text actor items
lines_of_items actor items = ap (notes_text actor) (reverse-reverse items)

-- the lines of more notes stand behind those of the others
pub lines_more : (actor : ℕ) (items notes : List (Note ℕ)) → text_of (actor_lines actor (reverse (items ++ notes))) ≡ text_of (actor_lines actor (reverse items)) ++ notes_text actor notes
lines_more actor items notes =
    lines_of_items actor (items ++ notes) ∙
    (ap text_of (map-append (note_line actor) items notes) ∙
    (text_of-append (map (note_line actor) items) (map (note_line actor) notes) ∙ ap (λ text. text ++ notes_text actor notes) (sym (lines_of_items actor items))))

module _ {W : Type 0} (contents : W → Option (List ℕ)) where
  -- some of what is pending is written
  pub holds_written : (actor refusals more shortages others : ℕ) (refused later : List ℕ) (old new : W) (before after : List ℕ) (items : List (Note ℕ)) →
      HoldsText contents (record { actor = actor; writer = old; pending = before; has = reverse items; refusals = refusals; shortages = shortages; refused = refused }) → Writes (contents old) (contents new) before after →
      HoldsText contents (record { actor = actor; writer = new; pending = after; has = reverse items; refusals = more; shortages = others; refused = later })
  holds_written actor refusals more shortages others refused later old new before after items holds writes = record {
    written = holds.written ++ writes.bytes;
    has_written = record {
      first = holds.has_written.first;
      blank = holds.has_written.blank;
      appends =
          Appends-trans (contents holds.has_written.first) (contents old) (contents new) holds.written writes.bytes holds.has_written.appends writes.appends;
    };
    whole = holds.whole ∙ (ap (λ rest. holds.written ++ rest) writes.whole ∙ sym (append_assoc holds.written writes.bytes after));
  }

  -- the lines of more notes are put behind what is pending
  pub holds_put : (actor refusals more shortages others : ℕ) (refused later : List ℕ) (writer : W) (before after : List ℕ) (items notes all : List (Note ℕ)) →
      HoldsText contents (record { actor = actor; writer = writer; pending = before; has = reverse items; refusals = refusals; shortages = shortages; refused = refused }) →
      after ≡ before ++ notes_text actor notes → all ≡ items ++ notes →
      HoldsText contents (record { actor = actor; writer = writer; pending = after; has = reverse all; refusals = more; shortages = others; refused = later })
  holds_put actor refusals more shortages others refused later writer before after items notes all holds is longer = record {
    written = holds.written;
    has_written = holds.has_written;
    whole =
        ap (λ some. text_of (actor_lines actor (reverse some))) longer ∙
        (lines_more actor items notes ∙
        (ap (λ text. text ++ notes_text actor notes) holds.whole ∙
        (append_assoc holds.written before (notes_text actor notes) ∙ ap (λ rest. holds.written ++ rest) (sym is))));
  }

  -- all is written, and no line is pending
  pub all_written : (actor refusals shortages : ℕ) (refused : List ℕ) (writer : W) (pending : List ℕ) (has : List (Note ℕ)) →
      HoldsText contents (record { actor = actor; writer = writer; pending = pending; has = has; refusals = refusals; shortages = shortages; refused = refused }) → pending ≡ [] → HasWritten contents writer (text_of (actor_lines actor has))
  all_written actor refusals shortages refused writer pending has holds none =
      subst (HasWritten contents writer) (sym (holds.whole ∙ (ap (λ rest. holds.written ++ rest) none ∙ append-nil holds.written))) holds.has_written
