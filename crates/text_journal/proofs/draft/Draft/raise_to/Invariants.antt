-- With the actors that are left, the draft becomes what it is to be.
use Rattle.std.proofs.Common.{◌≡◌, ◌-◌, length}
use Rattle.text_journal.specs.Drafts.{raised, raised_to}
use Rattle.text_journal.proofs.draft.Draft.raise_to.Given as goal

abbrev pub invariant-loop-i : goal.invariant-loop-i
invariant-loop-i g l = record {
  same : raised (l.actor - l._i) l.self ≡ raised_to l.actor l.initial.self;
  place : length l.self.earlier ≡ l._i;
  cores : l.self.cores ≡ l.initial.self.cores;
  part : l.self.part ≡ l.initial.self.part;
}
