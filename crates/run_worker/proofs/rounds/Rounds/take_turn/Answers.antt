use Rattle.run_worker.proofs.Names.{ap, BellsView, HearsNotes, rung_for, subst, sym, ◌∙◌}
use Rattle.std.specs.Prelude.{unwrap_or}
use Rattle.run_worker.proofs.Rung.{since_newer, since_rung}
use Rattle.run_worker.proofs.Silent.{silent_hears, silent_rings}
use Rattle.run_worker.proofs.rounds.Rounds.take_turn.Goals as goal

pub returns-then-nobody_hears-clause-sets : goal.returns-then-nobody_hears-clause-sets
returns-then-nobody_hears-clause-sets g c =
    let stays = c.take_turn-turned.ensures.steps.stays in
    let timers = c.args.self.now.timers in
    let queues = c.take_turn-turned.new.self.linked.recorded.core.queues in
    let reading = unwrap_or c.take_turn-turned.new.meter.last 0 in
    let newer =
    c.since-notes.ensures
    ∙ since_newer c.args.self.now.served c.take_turn-turned.new.self c.journal.result.now c.journal-2.result.now c.kept_count-before.result c.journal.ensures.journal
    (c.journal-2.ensures ∙ ap (λ recorded. recorded.journal) c.recorded-recorded.ensures.recorded) c.kept_count-before.ensures.value stays in
    record {
      newer = stays.grows.0;
      grows = stays.grows.1;
      heard =
          subst (λ notes. HearsNotes g.J.Task.sleeps queues reading notes timers timers) newer
          (silent_hears g.J.Task.sleeps queues reading timers (c.nobody_hears.ensures.vacant c.if-nobody_hears.true) c.since-notes.result.now (c.nobody_hears.ensures.silent c.if-nobody_hears.true));
    }

pub returns-then-nobody_hears-clause-rung : goal.returns-then-nobody_hears-clause-rung
returns-then-nobody_hears-clause-rung g c =
    since_rung c.args.self.now.served c.take_turn-turned.new.self c.journal.result.now c.journal-2.result.now c.kept_count-before.result c.journal.ensures.journal
    (c.journal-2.ensures ∙ ap (λ recorded. recorded.journal) c.recorded-recorded.ensures.recorded) c.kept_count-before.ensures.value c.take_turn-turned.ensures.steps.stays c.args.self.now.bells c.args.self.now.bells c.requires.rung
    (sym (silent_rings c.since-notes.result.now (c.nobody_hears.ensures.silent c.if-nobody_hears.true) c.args.self.now.bells.rings) ∙ ap (λ notes. rung_for notes c.args.self.now.bells.rings) c.since-notes.ensures)

pub returns-clause-rung : goal.returns-clause-rung
returns-clause-rung g c =
    since_rung c.args.self.now.served c.take_turn-turned.new.self c.journal.result.now c.journal-2.result.now c.kept_count-before.result c.journal.ensures.journal
    (c.journal-2.ensures ∙ ap (λ recorded. recorded.journal) c.recorded-recorded.ensures.recorded) c.kept_count-before.ensures.value c.take_turn-turned.ensures.steps.stays c.args.self.now.bells c.hear.new.bells c.requires.rung
    (ap (λ (bells : BellsView). bells.rings) c.hear.ensures.rings ∙ ap (λ notes. rung_for notes c.args.self.now.bells.rings) c.since-notes.ensures)
