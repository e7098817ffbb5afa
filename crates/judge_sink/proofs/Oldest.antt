-- What holds of each note holds of each of the oldest ones.
use Rattle.std.proofs.Common.{ℕ, zero, suc, ◌+◌, ◌-◌, [], ◌∷◌, length, drop}
use Rattle.base_words.specs.declared.note.Note.{Note}
use Rattle.base_words.specs.Journal.{EachNote, Journal}
use Rattle.note_journal.specs.Journals.{JournalView}
use Rattle.judge_replay.specs.Reads.{read_of}

each_dropped : {T : Type 0} (P : Note T → Journal T → Type 0) (count : ℕ) (notes : Journal T) → EachNote P notes → EachNote P (drop count notes)
each_dropped P zero notes each = each
each_dropped P (suc count) [] each = each
each_dropped P (suc count) (note ∷ before) each = each_dropped P count before each.1

pub each_read : {T : Type 0} (P : Note T → Journal T → Type 0) (journal : JournalView T) (told : ℕ) → EachNote P journal.notes → EachNote P (read_of journal told)
each_read P journal told each = each_dropped P (length journal.notes - (length journal.passed + told)) journal.notes each
