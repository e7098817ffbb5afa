use Rattle.std.proofs.Common.{◌≡◌, ℕ, List, ◌++◌, ap, sym, subst, ◌∙◌, inr}
use Rattle.text_bytes.specs.Tries.{HasFailedSince}
use Rattle.text_journal.proofs.PageLemmas.{OnErr-any}
use Rattle.note_sinks.specs.Lines.{LinesView}
use Rattle.note_sinks.specs.Outlets.{Writes, notes_text}
use Rattle.note_sinks.proofs.WriteLemmas.{if_err, if_not_err, writes_put}
use Rattle.note_sinks.proofs.lines.LinesSink.take.Goals as goal

pub returns-clause-ok_writes : goal.returns-clause-ok_writes
returns-clause-ok_writes g c =
    let contents = g.W.ByteSink.contents in
    let View = LinesView g.row.W.Denot in
    let old = c.args.self.now in
    let room = c.make_room.new.self in
    let last = c.make_room-room.new.self in
    let text = notes_text old.actor c.args.notes.now in
    let put = if_not_err c.put.result c.put.ensures.ok (sym c.is_err-2.ensures.value ∙ c.if-is_err-2.false) in
    let actor : room.actor ≡ old.actor = ap (λ (view : View). view.actor) c.make_room.ensures.same in
    let pending : c.put.new.self.pending ≡ room.pending ++ text =
    ap (λ (view : View). view.pending) put ∙ ap (λ (its : ℕ). room.pending ++ notes_text its c.args.notes.now) actor in
    let writes = subst (λ (rest : List ℕ). Writes (contents c.put.new.self.writer) (contents last.writer) rest last.pending) pending c.make_room-room.ensures.writes in
    writes_put (contents old.writer) (contents room.writer) (contents last.writer) old.pending room.pending text last.pending c.make_room.ensures.writes
    (subst (λ (writer : g.row.W.Denot). Writes (contents writer) (contents last.writer) (room.pending ++ text) last.pending) (ap (λ (view : View). view.writer) put) writes)

pub returns-then-is_err-clause-why : goal.returns-then-is_err-clause-why
returns-then-is_err-clause-why g c =
    let View = LinesView g.row.W.Denot in
    let old = c.args.self.now in
    let failed = if_err c.make_room.result c.make_room.ensures.failed (sym c.is_err.ensures.value ∙ c.if-is_err.true) in
    let writer : c.refuse.new.self.writer ≡ c.make_room.new.self.writer = ap (λ (view : View). view.writer) c.refuse.ensures.same in
    let same : c.refuse.new.self.shortages ≡ old.shortages =
    ap (λ (view : View). view.shortages) c.refuse.ensures.same ∙ ap (λ (view : View). view.shortages) c.make_room.ensures.same in
    OnErr-any c.refuse.result
    (inr (same, subst (λ (last : g.row.W.Denot). HasFailedSince g.W.ByteSink.tries g.W.ByteSink.interrupts g.W.ByteSink.fails old.writer last) (sym writer) failed))
