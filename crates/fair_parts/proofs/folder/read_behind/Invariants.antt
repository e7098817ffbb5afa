-- What was read stands behind the bytes that were there, and each turn puts some of what a vector has room for.
use Rattle.std.proofs.Common.{◌≡◌, ◌-◌, ◌^◌, length, vec_len}
use Rattle.fair_parts.proofs.Joined.{ReadsMore}
use Rattle.fair_parts.proofs.folder.read_behind.Given as goal

abbrev pub invariant-loop-page : goal.invariant-loop-page
invariant-loop-page g l = record {
  room : length l.page ≡ 8192;
  read : ReadsMore (g.I.Source.remaining l.initial.source) (g.I.Source.remaining l.source) l.initial.bytes.items l.bytes.items;
}

abbrev pub decreases-loop-page : goal.decreases-loop-page
decreases-loop-page g l = 2 ^ 64 - vec_len l.bytes
