use Rattle.std.proofs.Common.{ap, sym, ◌++◌, drop, ◌∙◌, reverse, string_bytes}
use Rattle.fairexec_run.specs.EventTexts.{note_lines}
use Rattle.fairexec_run.proofs.PrintLemmas.{next_line, no_line}
use Rattle.fairexec_run.proofs.print.print_notes.Goals as goal
use Rattle.fairexec_run.proofs.print.print_notes.Goals.{in-Some+in_ok-writeln, in_default}

pub loop-place-preserved : goal.loop-place-preserved
loop-place-preserved c = elim c.match-get.branch [
  | in-Some+in_ok-writeln w ↦
      next_line c.args.actor c.loop-place.place (reverse c.args.journal.now.notes) w.in-Some.note (string_bytes c.loop-place.page) (string_bytes c.match-get.page) _
      (sym c.get.ensures ∙ w.in-Some.is) (ap string_bytes w.page-is ∙ w.in_ok-writeln.ensures.bytes) c.loop-place.invariant
  | in_default w ↦
      no_line c.args.actor c.loop-place.place (reverse c.args.journal.now.notes) (string_bytes c.match-get.page) _ (sym c.get.ensures ∙ w.in_default.is)
      (ap (λ page. string_bytes page ++ note_lines c.args.actor (drop c.loop-place.place (reverse c.args.journal.now.notes))) w.page-is ∙ c.loop-place.invariant)
]
