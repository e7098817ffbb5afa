use Rattle.std.proofs.Common.{◌+◌, ◌*◌, ◌≤◌, ◌∙◌, ap, subst, arith}
use Rattle.std.proofs.lemmas.Bool.{ltb-false}
use Rattle.note_journal.specs.Journals.{free_notes}
use Rattle.actor_desk.specs.Spending.{booked}
use Rattle.actor_caller.specs.Sends.{room_left}
use Rattle.actor_caller.specs.Passing.{passed_on}
use Rattle.actor_caller.proofs.Booked.{room_to_send}
use Rattle.actor_caller.proofs.HandedOn.{room_behind}
use Rattle.actor_caller.proofs.caller.Caller.is_full_now.Goals as goal

pub returns-clause-room : goal.returns-clause-room
returns-clause-room g c enough =
    let free = c.free.ensures.value ∙ ap free_notes (c.journal.ensures ∙ ap (λ view. view.desk.journal) c.self.view_is) in
    let cores = ap (λ number. c.args.each * number) (c.self.invariant.1.cores_are ∙ ap (λ view. view.desk.cores) c.self.view_is) in
    let least : room_left c.args.each c.args.self.now ≤ free_notes c.args.self.now.desk.journal = omega (arith, ltb-false _ _ enough, free, cores, c.outstanding.ensures.value) in
    subst (λ view. room_left c.args.each view ≤ free_notes view.desk.journal → booked view.desk + 3 ≤ view.desk.journal.room) c.self.view_is (room_to_send _ c.self.invariant.1.runtime c.args.each) least

pub returns-clause-behind : goal.returns-clause-behind
returns-clause-behind g c = subst (λ view. booked (passed_on view).desk + 3 ≤ (passed_on view).desk.journal.room) c.self.view_is (room_behind _ c.self.invariant.1.runtime)
