use Rattle.std.proofs.Common.{◌≡◌, ◌+◌, ◌<◌, ◌≤◌, ap, arith, length, length-set, rules, subst, sym, ◌∙◌}
use Rattle.actor_desk.specs.Spending.{booked}
use Rattle.actor_caller.proofs.Booked.{books_sent}
use Rattle.actor_caller.proofs.Sent.{held_on, sends_to}
use Rattle.actor_caller.proofs.caller.Caller.send.Goals as goal

pub submit-answer-requires-clause-room : goal.submit-answer-requires-clause-room
submit-answer-requires-clause-room g c =
    let room = subst (λ view. booked view.desk + 3 ≤ view.desk.journal.room) (sym c.self.view_is) c.requires.room in
    omega (arith, room)

pub invariant_of-self : goal.invariant_of-self
invariant_of-self g c =
    let is = c.self.invariant.1.runtime in
    let count : length c.mark.new.closing.items ≡ c.self.inside.outside.desk.cores = ap length c.mark.ensures ∙ (length-set c.self.inside.closing.items _ _ ∙ is.closings) in
    let bells : length c.ring.new.self.times ≡ c.self.inside.outside.desk.cores + 1 = ap (λ rung. length rung.times) c.ring.ensures ∙ (length-set c.self.inside.bells.times _ _ ∙ is.bells) in
    let sent = c.submit-answer.ensures in
    let room = subst (λ view. booked view.desk + 3 ≤ view.desk.journal.room) (sym c.self.view_is) c.requires.room in
    let books : booked c.submit-answer.new.self.desk ≤ c.self.inside.outside.desk.journal.room =
    omega (arith, books_sent c.args.to c.args.order c.self.inside.outside.desk c.submit-answer.new.self.desk c.submit-answer.result sent.submits sent.spends, room) in (
      c.self.invariant.0,
      held_on _ c.self.inside.sink c.self.invariant.1 c.args.to c.submit-answer.new.self sent.uses books c.mark.new.closing.items count c.ring.new.self bells,
    )

pub returns : goal.returns
returns g c =
    let sent = c.submit-answer.ensures in
    let low : c.args.to < c.self.inside.outside.desk.cores = omega (arith, c.if-to-self.false, c.to.view_is, c.self.invariant.1.cores_are) in
    record {
      there = λ there. sends_to _ c.args.to c.submit-answer.new.self sent.uses c.self.invariant.1.runtime low c.args.order c.submit-answer.result sent.submits sent.sends sent.credited c.mark.new.closing.items (search rules) c.ring.new.self (search rules)
          c.args.self.now c.self.view_is;
      missing = λ past. absurd (omega (arith, past, low, ap (λ view. view.desk.cores) c.self.view_is));
    }
