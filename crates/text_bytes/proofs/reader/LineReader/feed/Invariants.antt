-- What comes of the text from here on is what came of it at the start, and the bytes before are taken.
use Rattle.std.proofs.Common.{◌≡◌, ◌≤◌, ◌+◌, ◌++◌, ℕ, List, drop, take}
use Rattle.text_bytes.specs.Readings.{at, IsReady, room_left}
use Rattle.text_bytes.specs.Taking.{TakesAll}
use Rattle.text_bytes.specs.Texts.{text_from}
use Rattle.text_bytes.proofs.reader.LineReader.feed.Given as goal

abbrev pub invariant-loop-byte : goal.invariant-loop-byte
invariant-loop-byte g l =
    let old = at l.initial.draft l.initial.self.number l.initial.self.line.items in
    let new = at l.draft l.self.number l.self.line.items in
    record {
      ready : IsReady g.D.LineDraft.judge.longest g.D.LineDraft.fits g.D.LineDraft.lines_left new;
      same : (rest : List ℕ) → text_from g.D.LineDraft.judge old (l.bytes ++ rest) ≡ text_from g.D.LineDraft.judge new (drop l.byte-index l.bytes ++ rest);
      room : room_left g.D.LineDraft.lines_left g.D.LineDraft.LONGEST new + l.byte-index ≤ room_left g.D.LineDraft.lines_left g.D.LineDraft.LONGEST old;
      taken : TakesAll g.D.LineDraft.judge (take l.byte-index l.bytes) old new;
    }
