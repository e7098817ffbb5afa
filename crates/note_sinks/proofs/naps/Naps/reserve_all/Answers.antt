use Rattle.std.proofs.Common.{◌∙◌, subst}
use Rattle.std.specs.Prelude.{All}
use Rattle.std.proofs.lemmas.List.{take_all}
use Rattle.note_sinks.specs.Naps.{HasPlace}
use Rattle.note_sinks.proofs.PlaceLemmas.{places_more}
use Rattle.note_sinks.proofs.naps.Naps.reserve_all.Goals as goal

pub loop-note-preserved : goal.loop-note-preserved
loop-note-preserved c = (
  λ name. c.reserve_for.ensures.naps name ∙ c.loop-note.invariant.0 name,
  places_more c.loop-note.self c.reserve_for.new.self c.args.notes.now c.loop-note.note-index c.note-item.result c.reserve_for.ensures.places c.loop-note-test.true c.loop-note.invariant.1
      (subst (HasPlace c.reserve_for.new.self) c.note-item.is c.in_ok-reserve_for.ensures.ok),
)

pub returns-clause-ok : goal.returns-clause-ok
returns-clause-ok c =
    subst (All (HasPlace c.loop-note.self)) (take_all c.loop-note.note-index c.args.notes.now c.loop-note-test.false) c.loop-note.invariant.1
