use Rattle.actor_core.proofs.Names.{IsInOf, ap, subst, ◌∙◌}
use Rattle.actor_core.proofs.recorded.Recorded.deliver.Goals as goal

pub receive_one-requires-clause-taken : goal.receive_one-requires-clause-taken
receive_one-requires-clause-taken g c = record { before = g.I.InEnd.inward c.args.end.now; beside = c.requires.beside; takes = c.in-Some.ensures.takes; sound = c.in-Some.ensures.sound; named = c.in-Some.ensures.named }

pub returns-in-Some : goal.returns-in-Some
returns-in-Some g c =
    let received = c.receive_one.ensures.receives in
    let its_from = ap (λ name. name.from) c.in-Some.ensures.takes.2 in
    record {
      delivers = (c.in-Some.envelope, (_, received.outcome, c.in-Some.ensures.takes, received.gives), received.receives);
      beside = subst (λ from. IsInOf from c.receive_one.new.self (g.I.InEnd.inward c.receive_one.new.end)) its_from received.beside;
      others = λ sender away. received.others sender (λ same. away (same ∙ its_from));
      outs = received.outs;
      seat = received.seat;
      lanes = received.lanes;
      sound = received.sound;
      untouched = c.receive_one.ensures.untouched ∙ c.in-Some.ensures.untouched;
    }
