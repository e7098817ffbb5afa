-- What was read is gathered, and each turn gathers some of what a vector has room for.
use Rattle.std.proofs.Common.{◌≡◌, ◌-◌, ◌^◌, length, vec_len}
use Rattle.std.specs.Io.KnownBytes.{Consumes}
use Rattle.text_bytes.specs.Tries.{IsNoFewer}
use Rattle.text_parts.proofs.whole.read_all.Given as goal

abbrev pub invariant-loop-page : goal.invariant-loop-page
invariant-loop-page g l = record {
  room : length l.page ≡ 8192;
  seen : Consumes (g.S.Source.remaining l.initial.source) (g.S.Source.remaining l.source) l.bytes.items;
  tried : IsNoFewer (g.S.Source.tries l.initial.source) (g.S.Source.tries l.source);
}

abbrev pub decreases-loop-page : goal.decreases-loop-page
decreases-loop-page g l = 2 ^ 64 - vec_len l.bytes
