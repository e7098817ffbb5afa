use Rattle.std.proofs.Common.{[], ◌∷◌, refl, ap}
use Rattle.base_words.specs.declared.note.Note.TheVariants as writes
use Rattle.actor_core.proofs.OwedSteps.{quiet_keeps}
use Rattle.actor_core.specs.Whole.{StaysPut}
use Rattle.actor_core.proofs.KeptAround.{kept_around, none_behind_end}
use Rattle.actor_core.proofs.through.end_among.Goals as goal

pub end_turn-requires : goal.end_turn-requires
end_turn-requires g c = record { is_open = c.requires.is_open; rest = c.requires.rest.free; over = c.requires.over; room = c.requires.room }

pub returns-clause-ends : goal.returns-clause-ends
returns-clause-ends g c =
    let did = c.end_turn.ensures in
    let stays : StaysPut c.args.core.now c.end_turn.new.self = record { seat = did.seat; outs = did.outs; lanes = did.lanes } in
    record { time = c.end_turn.result; ends = did.ends; stays = stays; keeps = did.ins; after = record { recorded = did.sound; free = did.ends.out; beside = kept_around c.requires.rest.beside _ did.ins stays } }

pub returns-clause-no_turn : goal.returns-clause-no_turn
returns-clause-no_turn g c = none_behind_end c.end_turn.ensures.ends

pub returns-clause-owed : goal.returns-clause-owed
returns-clause-owed g c =
    let did = c.end_turn.ensures in
    quiet_keeps g.J.Task.meaning _ c.args.core.now c.end_turn.new.self did.seat did.ends.took (writes.Turned did.ends.queue c.end_turn.result ∷ []) (refl, tt) (ap (λ journal. journal.notes) did.ends.journal)
