use Rattle.core_core.proofs.Names.{sym, ◌∙◌}
use Rattle.core_core.proofs.one_core.Core.take_in.Goals as goal

pub has_work-requires : goal.has_work-requires
has_work-requires g c = c.requires.exists

pub join-requires : goal.join-requires
join-requires g c = record {
  room = c.requires.room;
  sender = c.requires.sender;
  ready = c.requires.ready;
  exists = c.requires.exists;
  is_open = c.requires.is_open;
  work = sym c.has_work.ensures ∙ c.if-has_work.true;
}

pub activate-requires : goal.activate-requires
activate-requires g c = record {
  room = c.requires.room;
  sender = c.requires.sender;
  ready = c.requires.ready;
  exists = c.requires.exists;
  is_open = c.requires.is_open;
  idle = sym c.has_work.ensures ∙ c.if-has_work.false;
}
