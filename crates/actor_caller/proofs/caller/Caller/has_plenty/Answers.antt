use Rattle.std.proofs.Common.{◌+◌, ◌*◌, ◌≤◌, ◌∙◌, ap, subst}
use Rattle.std.proofs.lemmas.Bool.{leb-true}
use Rattle.note_journal.specs.Journals.{free_notes}
use Rattle.actor_desk.specs.Spending.{booked}
use Rattle.actor_caller.specs.Sends.{room_left}
use Rattle.actor_caller.specs.Passing.{passed_on}
use Rattle.actor_caller.proofs.Booked.{room_to_send}
use Rattle.actor_caller.proofs.HandedOn.{room_behind, room_for_all}
use Rattle.actor_caller.proofs.caller.Caller.has_plenty.Goals as goal

pub returns-clause-plenty : goal.returns-clause-plenty
returns-clause-plenty g c plenty =
    let free = c.free.ensures.value ∙ ap free_notes (c.journal.ensures ∙ ap (λ view. view.desk.journal) c.self.view_is) in
    let cores = c.self.invariant.1.cores_are ∙ ap (λ view. view.desk.cores) c.self.view_is in
    let cap = c.self.invariant.1.cap_is ∙ ap (λ view. view.desk.cap) c.self.view_is in
    let all = subst (λ view. 3 * (view.desk.cores * view.desk.cap + 1) + c.args.each * view.desk.cores ≤ free_notes view.desk.journal → room_left c.args.each view ≤ free_notes view.desk.journal) c.self.view_is
    (room_for_all _ c.self.invariant.1.runtime c.args.each) in
    all (rw (← cores, ← cap, ← free) (leb-true _ _ plenty))

pub returns-clause-room : goal.returns-clause-room
returns-clause-room g c plenty =
    let least = returns-clause-plenty g c plenty in
    subst (λ view. room_left c.args.each view ≤ free_notes view.desk.journal → booked view.desk + 3 ≤ view.desk.journal.room) c.self.view_is (room_to_send _ c.self.invariant.1.runtime c.args.each) least

pub returns-clause-behind : goal.returns-clause-behind
returns-clause-behind g c = subst (λ view. booked (passed_on view).desk + 3 ≤ (passed_on view).desk.journal.room) c.self.view_is (room_behind _ c.self.invariant.1.runtime)
