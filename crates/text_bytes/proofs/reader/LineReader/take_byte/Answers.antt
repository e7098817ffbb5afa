use Rattle.std.proofs.Common.{◌≡◌, ℕ, ◌==◌, ◌≤◌, ap, List, ◌∷◌, length, Err, false, arith, rules}
use Rattle.std.proofs.lemmas.Bool.Decides.{nat_tests}
use Rattle.std.proofs.lemmas.Result.{on_ok_weaker}
use Rattle.text_bytes.specs.Readings.{at}
use Rattle.text_bytes.specs.Taking.{IsRefused}
use Rattle.text_bytes.specs.Texts.{text_from}
use Rattle.text_bytes.proofs.FaultLemmas.{IfErr_faulty, OnOk-both}
use Rattle.text_bytes.proofs.RoomLemmas.{room_less}
use Rattle.text_bytes.proofs.TextLemmas.{feed_taken, feed_refused, byte_refused}
use Rattle.text_bytes.proofs.reader.LineReader.take_byte.Goals as goal

pub returns-then-byte-eq-LINE_FEED-clause-ok : goal.returns-then-byte-eq-LINE_FEED-clause-ok
returns-then-byte-eq-LINE_FEED-clause-ok g c =
    let judge = g.D.LineDraft.judge in
    let old = at c.args.draft.now c.args.self.now.number c.args.self.now.line.items in
    let new = at c.end_line.new.draft c.end_line.new.self.number c.end_line.new.self.line.items in
    on_ok_weaker c.end_line.result (λ t rest. rw c.if-byte-eq-LINE_FEED.true (feed_taken judge old new c.requires.ready.feedless t rest)) c.end_line.ensures.ok

pub returns-then-byte-eq-LINE_FEED-clause-faulty : goal.returns-then-byte-eq-LINE_FEED-clause-faulty
returns-then-byte-eq-LINE_FEED-clause-faulty g c =
    let judge = g.D.LineDraft.judge in
    let old = at c.args.draft.now c.args.self.now.number c.args.self.now.line.items in
    IfErr_faulty c.end_line.result (IsRefused judge old) (λ fault. (rest : List ℕ) → text_from judge old (c.args.byte ∷ rest) ≡ Err fault)
    (λ fault r rest. rw c.if-byte-eq-LINE_FEED.true (feed_refused judge old fault c.requires.ready.feedless r rest)) c.end_line.ensures.faulty

pub returns-then-byte-eq-LINE_FEED-clause-room : goal.returns-then-byte-eq-LINE_FEED-clause-room
returns-then-byte-eq-LINE_FEED-clause-room g c =
    on_ok_weaker c.end_line.result
    (λ t.
    let short : length c.args.self.now.line.items ≤ g.D.LineDraft.LONGEST = omega (arith, c.requires.ready.short, c.requires.longest.same) in
    let less = room_less _ _ g.D.LineDraft.LONGEST (length c.args.self.now.line.items) t.1 short in
    omega (arith, less, ap length t.0.line))
    (OnOk-both _ _ c.end_line.result c.end_line.ensures.ok c.end_line.ensures.fewer)

pub returns-then-len-LONGEST-clause-faulty : goal.returns-then-len-LONGEST-clause-faulty
returns-then-len-LONGEST-clause-faulty g c =
    let judge = g.D.LineDraft.judge in
    let old = at c.args.draft.now c.args.self.now.number c.args.self.now.line.items in
    let other : (c.args.byte == 10) ≡ false = grind (arith, nat_tests) in
    byte_refused judge old c.args.byte c.too_long.result c.requires.ready.feedless other (search rules) c.too_long.ensures.ended c.too_long.ensures.cut
