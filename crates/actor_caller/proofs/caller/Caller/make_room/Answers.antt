use Rattle.actor_caller.proofs.HandedOn.{none_made, room_made, room_passed}
use Rattle.actor_caller.proofs.caller.Caller.make_room.Goals as goal

pub returns-then-is_full-clause-room : goal.returns-then-is_full-clause-room
returns-then-is_full-clause-room g c = room_passed c.args.self.now c.pass_on.new.self c.pass_on.result c.pass_on.ensures c.is_full.ensures.behind

pub returns-then-is_full-clause-makes : goal.returns-then-is_full-clause-makes
returns-then-is_full-clause-makes g c = room_made c.args.each c.args.self.now c.pass_on.new.self c.pass_on.result c.pass_on.ensures (c.is_full.ensures.full.0 c.if-is_full.true)

pub returns-then-is_full-clause-refused : goal.returns-then-is_full-clause-refused
returns-then-is_full-clause-refused g c = none_made c.args.each c.args.self.now c.pass_on.new.self c.pass_on.result c.pass_on.ensures
