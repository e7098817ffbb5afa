use Rattle.core_core.proofs.Names.{refl, sym, ◌∙◌}
use Rattle.core_core.proofs.Closings.{exists_if_not_refused, open_if_not_refused}
use Rattle.core_core.proofs.one_core.Core.deliver_job.Goals as goal

pub count-requires : goal.count-requires
count-requires g c = c.requires.sender

pub returns-in-Some-clause-delivers : goal.returns-in-Some-clause-delivers
returns-in-Some-clause-delivers g c = (sym c.refusal.ensures ∙ c.in-Some.is, refl, c.count.ensures.counts, refl)

pub returns-in-Some-clause-bounded : goal.returns-in-Some-clause-bounded
returns-in-Some-clause-bounded g c = c.count.ensures.bounded

pub take_in-requires : goal.take_in-requires
take_in-requires g c =
    let none = sym c.refusal.ensures ∙ c.in-None.is in
    record {
      room = c.requires.room;
      sender = c.requires.sender;
      ready = c.requires.ready;
      exists = exists_if_not_refused c.args.self.now c.args.queue none;
      is_open = open_if_not_refused c.args.self.now c.args.queue none;
    }

pub returns-in-None-clause-delivers : goal.returns-in-None-clause-delivers
returns-in-None-clause-delivers g c = (sym c.refusal.ensures ∙ c.in-None.is, c.take_in.ensures.enters, refl)

pub returns-in-None-clause-bounded : goal.returns-in-None-clause-bounded
returns-in-None-clause-bounded g c = c.take_in.ensures.bounded
