use Rattle.std.proofs.Common.{sym, subst}
use Rattle.host_calls.specs.Ending.{EndsSeat}
use Rattle.host_calls.proofs.Becoming.{becomes}
use Rattle.host_calls.proofs.member.Member.end_seat.Goals as goal

pub returns-in_ok-take_in-in-House-clause-ok : goal.returns-in_ok-take_in-in-House-clause-ok
returns-in_ok-take_in-in-House-clause-ok c =
    let told = c.in_ok-take_in-in-House.ensures.ok in
    subst (λ old. EndsSeat old c.args.seat.value c.become_ended.new.self) (sym c.in-House.is) (
      told.0,
      (
        c.take_in.new.self,
        told.1,
        becomes c.take_in.new.self c.whole-whole.new.self c.become_ended.new.self c.whole-whole.result c.whole-whole.ensures.whole c.whole-whole.ensures.missing c.become_ended.ensures.ended c.become_ended.ensures.same,
      ),
    )
