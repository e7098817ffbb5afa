-- The notes are those that the feed told, the oldest first.
use Rattle.std.proofs.Common.{◌≡◌, length}
use Rattle.std.specs.Prelude.{reverse}
use Rattle.std.specs.Io.KnownBytes.{Consumes}
use Rattle.text_feed.specs.Feeds.{IsTold}
use Rattle.judge_parts.proofs.front.front_of.Given as goal

abbrev pub invariant-loop-note : goal.invariant-loop-note
invariant-loop-note g l = record {
  notes : reverse l.notes.items ≡ l.feed.told;
  count : length l.notes.items ≡ l._note;
  actor : l.feed.actor ≡ l.fn.actor;
  reads : Consumes (g.S.Source.remaining l.fn.source) (g.S.Source.remaining l.feed.source) l.feed.got;
  told : IsTold l.feed;
}
