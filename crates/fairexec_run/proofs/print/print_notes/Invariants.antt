-- With the lines of the notes that are left, the page is what it is to be.
use Rattle.std.proofs.Common.{◌≡◌, ◌++◌, drop, reverse, string_bytes}
use Rattle.fairexec_run.specs.EventTexts.{note_lines}
use Rattle.fairexec_run.proofs.print.print_notes.Given as goal

abbrev pub invariant-loop-place : goal.invariant-loop-place
invariant-loop-place l =
    string_bytes l.page ++ note_lines l.actor (drop l.place (reverse l.journal.notes))
    ≡ string_bytes l.initial.page ++ note_lines l.actor (drop l.first (reverse l.journal.notes))
