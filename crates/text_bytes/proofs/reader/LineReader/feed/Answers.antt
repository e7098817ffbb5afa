use Rattle.std.proofs.Common.{sym, ap, ◌∙◌, ◌+◌, ◌++◌, drop, subst, arith}
use Rattle.std.proofs.lemmas.List.{take_more, drop_more}
use Rattle.text_bytes.specs.Readings.{at}
use Rattle.text_bytes.specs.Taking.{TakesAll}
use Rattle.text_bytes.specs.Texts.{text_from}
use Rattle.text_bytes.proofs.TakingLemmas.{takes_more}
use Rattle.text_bytes.proofs.reader.LineReader.feed.Goals as goal

pub loop-byte-preserved : goal.loop-byte-preserved
loop-byte-preserved g c =
    let judge = g.D.LineDraft.judge in
    let here = at c.loop-byte.draft c.loop-byte.self.number c.loop-byte.self.line.items in
    let old = at c.args.draft.now c.args.self.now.number c.args.self.now.line.items in
    let new = at c.take_byte.new.draft c.take_byte.new.self.number c.take_byte.new.self.line.items in
    record {
      ready = c.in_ok-take_byte.ensures.ready;
      same = λ rest. c.loop-byte.invariant.same rest
          ∙ ap (λ left. text_from judge here (left ++ rest)) (drop_more c.args.bytes.now c.loop-byte.byte-index 0 c.loop-byte-test.true)
          ∙ c.in_ok-take_byte.ensures.ok (drop (c.loop-byte.byte-index + 1) c.args.bytes.now ++ rest);
      room = omega (arith, c.loop-byte.invariant.room, c.in_ok-take_byte.ensures.room);
      taken = subst (λ bytes. TakesAll judge bytes old new) (sym (take_more c.args.bytes.now c.loop-byte.byte-index 0 c.loop-byte-test.true))
          (takes_more judge _ _ _ _ _ c.loop-byte.invariant.taken c.in_ok-take_byte.ensures.taken);
    }
