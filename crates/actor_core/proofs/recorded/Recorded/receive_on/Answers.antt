use Rattle.actor_core.proofs.Names.{desk_of, keeps_outs, sym, ◌∙◌, ap, Fits}
use Rattle.actor_core.proofs.DeliveredEnds.{next_in, beside_owes, rest_keep}
use Rattle.actor_core.proofs.GivenEnds.{given}
use Rattle.actor_core.proofs.recorded.Recorded.receive_on.Goals as goal

pub receive-outcome-requires-clause-next : goal.receive-outcome-requires-clause-next
receive-outcome-requires-clause-next g c = next_in c.args.self.now _ _ c.args.envelope c.requires.taken.beside c.requires.taken.takes c.requires.taken.sound

pub give_if-requires : goal.give_if-requires
give_if-requires g c =
    let took = c.requires.taken in
    let next = next_in c.args.self.now _ _ c.args.envelope took.beside took.takes took.sound in
    let taken = g.I.InEnd.inward c.args.end.now in
    let received = c.receive-outcome.ensures in
    let owes = beside_owes c.args.self.now c.receive-outcome.new.self c.args.envelope next received.receives received.seat c.receive-outcome.result received.gives _ taken took.beside took.takes took.sound took.named in
    (given c.receive-outcome.new.self c.args.envelope.name c.args.envelope.order received.stands taken (received.sound.taken _ _ received.stands)
    (Fits g.J.Task.meaning) c.receive-outcome.result received.fits owes).0

pub returns-clause-receives : goal.returns-clause-receives
returns-clause-receives g c =
    let took = c.requires.taken in
    let next = next_in c.args.self.now _ _ c.args.envelope took.beside took.takes took.sound in
    let taken = g.I.InEnd.inward c.args.end.now in
    let received = c.receive-outcome.ensures in
    let owes = beside_owes c.args.self.now c.receive-outcome.new.self c.args.envelope next received.receives received.seat c.receive-outcome.result received.gives _ taken took.beside took.takes took.sound took.named in
    record {
      receives = received.receives;
      outcome = c.receive-outcome.result;
      gives = c.give_if.ensures.gives;
      beside = (given c.receive-outcome.new.self c.args.envelope.name c.args.envelope.order received.stands taken (received.sound.taken _ _ received.stands)
          (Fits g.J.Task.meaning) c.receive-outcome.result received.fits owes).1 _ c.give_if.ensures.gives;
      others = λ sender away. rest_keep c.args.self.now c.receive-outcome.new.self c.args.envelope next received.receives received.seat c.receive-outcome.result received.gives took.before taken took.takes sender
          (λ same. away (same ∙ sym (ap (λ name. name.from) took.takes.2)));
      outs = keeps_outs (desk_of c.args.self.now) (desk_of c.receive-outcome.new.self)
          (λ i. record { actor = received.seat.number i; cores = received.seat.cores i; cap = received.seat.cap i; burst = received.seat.burst i; journal = c.receive-outcome.new.self.journal; lanes = c.receive-outcome.new.self.lanes }) received.receives.lists.sent;
      seat = received.seat;
      lanes = received.lanes;
      sound = received.sound;
    }
