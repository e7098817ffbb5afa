use Rattle.std.proofs.Common.{◌≡◌, ◌++◌, take}
use Rattle.note_journal.proofs.running.RunningJournal+u64.pass_on.Given as goal

abbrev pub invariant-loop-note : goal.invariant-loop-note
invariant-loop-note g l =
    (l.self-inside.1.0.items ≡ l.initial.self-inside.1.0.items ++ take l.note-index l.note-items)
    × (l.self-inside.1.1.0 ≡ l.initial.self-inside.1.1.0)
