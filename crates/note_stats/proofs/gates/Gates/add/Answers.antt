use Rattle.std.proofs.Common.{◌≡◌, ℕ, ◌+◌, min, get_or, sym, ◌∙◌, ap, arith}
use Rattle.std.specs.Prelude.{Some}
use Rattle.note_facts.specs.Accounts.{greatest_count}
use Rattle.note_stats.specs.declared.gates.Gates.{Gates}
use Rattle.note_stats.specs.Gates.{gate_after, open_gate}
use Rattle.note_stats.proofs.GateSteps.{gates_next, each_after_one, each_after_none}
use Rattle.note_stats.proofs.gates.Gates.add.Goals as goal
use Rattle.note_stats.proofs.gates.Gates.add.Goals.{in-Some, in_default}

pub returns : goal.returns
returns c =
    λ before short knows.
    let note = c.args.note.now in
    let old = c.args.self.now in
    let new : Gates = record {
      turns = c.saturating_add-self.result;
      created = c.saturating_add-self-2.result;
      senders = c.match-gate_noted.self.senders;
    } in
    let picked = λ (turns_are : c.match-gate_noted.self.turns ≡ old.turns).
    c.saturating_add-self.ensures ∙
    (ap (λ count. min (count + c.pick_count.result) greatest_count) turns_are ∙ ap (λ more. min (old.turns + more) greatest_count) c.pick_count.ensures) in
    let made = λ (created_are : c.match-gate_noted.self.created ≡ old.created).
    c.saturating_add-self-2.ensures ∙
    (ap (λ count. min (count + c.creation_count.result) greatest_count) created_are ∙
    ap (λ more. min (old.created + more) greatest_count) c.creation_count.ensures) in
    elim c.match-gate_noted.branch [
      | in-Some w ↦
          gates_next old new note before short knows (picked (ap (λ (gates : Gates). gates.turns) w.self-is))
          (made (ap (λ (gates : Gates). gates.created) w.self-is))
          (
          λ sender.
          ap (λ items. get_or items sender open_gate) (ap (λ (gates : Gates). gates.senders) w.self-is) ∙
          each_after_one old.senders note before w.sender.inside.0 w.add.new.self (omega arith) short
          (sym c.gate_noted.ensures ∙ (w.in-Some.is ∙ ap Some (sym w.sender.view_is)))
          (w.add.ensures ∙ ap (gate_after {T = ℕ} note) (w.of-gate.ensures ∙ ap (λ at. get_or old.senders at open_gate) (sym w.sender.view_is))) knows.each
          sender
          )
      | in_default w ↦
          gates_next old new note before short knows (picked (ap (λ (gates : Gates). gates.turns) w.self-is))
          (made (ap (λ (gates : Gates). gates.created) w.self-is))
          (
          λ sender.
          ap (λ items. get_or items sender open_gate) (ap (λ (gates : Gates). gates.senders) w.self-is) ∙
          each_after_none old.senders note before (sym c.gate_noted.ensures ∙ w.in_default.is) knows.each sender
          )
    ]
