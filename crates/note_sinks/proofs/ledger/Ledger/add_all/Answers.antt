use Rattle.std.proofs.Common.{ℕ, List, sym, subst}
use Rattle.std.proofs.lemmas.List.{take_all}
use Rattle.std.proofs.lemmas.List.Elements.{All-get_or}
use Rattle.base_words.specs.declared.note.Note.{Note}
use Rattle.note_sinks.specs.Ledgers.{ReadsNotes}
use Rattle.note_sinks.specs.Naps.{HasPlace}
use Rattle.note_sinks.proofs.LedgerLemmas.{reads_more}
use Rattle.note_sinks.proofs.PlaceLemmas.{places_kept}
use Rattle.note_sinks.proofs.ledger.Ledger.add_all.Goals as goal

pub add-requires : goal.add-requires
add-requires c =
    subst (HasPlace c.loop-note.self.naps) (sym c.note-item.is)
    (All-get_or (HasPlace c.loop-note.self.naps) c.args.notes.now c.loop-note.note-index c.note-item.result c.loop-note-test.true
    (places_kept c.args.self.now.naps c.loop-note.self.naps c.args.notes.now c.loop-note.invariant.places c.requires))

pub loop-note-preserved : goal.loop-note-preserved
loop-note-preserved c = record {
  places = λ name place. c.add.ensures.places name (c.loop-note.invariant.places name place);
  reads =
      reads_more c.args.self.now c.loop-note.self c.add.new.self c.args.notes.now c.loop-note.note-index c.note-item.result c.loop-note-test.true c.note-item.is
      c.loop-note.invariant.reads c.add.ensures.known;
}

pub returns : goal.returns
returns c =
    subst (λ (notes : List (Note ℕ)). ReadsNotes c.args.self.now notes c.loop-note.self) (take_all c.loop-note.note-index c.args.notes.now c.loop-note-test.false)
    c.loop-note.invariant.reads
