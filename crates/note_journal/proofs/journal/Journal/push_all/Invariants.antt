use Rattle.std.proofs.Common.{◌≡◌, ◌++◌, take}
use Rattle.note_journal.proofs.journal.Journal.push_all.Given as goal

abbrev pub invariant-loop-note : goal.invariant-loop-note
invariant-loop-note g l =
    (l.self-inside.notes.items ≡ l.initial.self-inside.notes.items ++ take l.note-index l.notes)
    × (l.self-inside.notes.cap ≡ l.initial.self-inside.notes.cap)
    × (l.self-inside.room ≡ l.initial.self-inside.room)
    × (l.self-inside.reserved ≡ l.initial.self-inside.reserved)
