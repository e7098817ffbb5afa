-- What comes of the rest is what comes of the text, and each turn takes some of the room that a text has. What was read is taken.
use Rattle.std.proofs.Common.{◌≡◌, ℕ, List, [], length}
use Rattle.std.specs.Io.KnownBytes.{Consumes}
use Rattle.text_bytes.specs.Readings.{at, IsReady, room_left}
use Rattle.text_bytes.specs.Taking.{TakesAll}
use Rattle.text_bytes.specs.Tries.{IsNoFewer}
use Rattle.text_bytes.proofs.lines.read_lines.Given as goal

abbrev pub invariant-loop-count : goal.invariant-loop-count
invariant-loop-count g l =
    let here = at l.draft l.reader.number l.reader.line.items in
    record {
      room : length l.page ≡ 8192;
      ready : IsReady g.D.LineDraft.judge.longest g.D.LineDraft.fits g.D.LineDraft.lines_left here;
      seen : (text : List ℕ) × Consumes (g.S.Source.remaining l.initial.source) (g.S.Source.remaining l.source) text × TakesAll g.D.LineDraft.judge text (at l.fn.draft 1 []) here;
      tried : IsNoFewer (g.S.Source.tries l.initial.source) (g.S.Source.tries l.source);
    }

abbrev pub decreases-loop-count : goal.decreases-loop-count
decreases-loop-count g l = room_left g.D.LineDraft.lines_left g.D.LineDraft.LONGEST (at l.draft l.reader.number l.reader.line.items)
