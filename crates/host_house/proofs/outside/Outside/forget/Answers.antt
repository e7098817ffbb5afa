use Rattle.std.proofs.Common.{◌≡◌, ◌+◌, ap, length, subst, sym, ◌∙◌}
use Rattle.host_text.specs.Pieces.{ForgetsKept}
use Rattle.host_house.specs.Outside.{CallerView}
use Rattle.host_house.specs.Passing.{Forgets, KeepsButJournal}
use Rattle.host_house.proofs.outside.Outside.forget.Goals as goal
use Rattle.host_house.proofs.outside.Outside.forget.Goals.{After-forget}

-- what the journal forgot
forgot : (c : goal.After-forget) → ForgetsKept c.self.inside.seat.desk.journal c.kept_count-count.result c.forget.new.seat.desk.journal
forgot c = record {
  count_is = subst (λ journal. length journal.passed + c.kept_count-count.result ≡ length journal.notes) c.journal.ensures c.kept_count-count.ensures.value;
  journal = ap (λ (view : CallerView). view.desk.journal) c.forget.ensures.rest;
}

keeps : (c : goal.After-forget) → KeepsButJournal c.self.inside.seat c.forget.new.seat
keeps c =
    subst (λ journal. c.forget.new.seat ≡ record c.self.inside.seat { desk = record c.self.inside.seat.desk { journal = journal } }) (sym (forgot c).journal) c.forget.ensures.rest

pub invariant_of-self : goal.invariant_of-self
invariant_of-self c = (c.self.invariant.0 ∙ ap (λ (view : CallerView). view.desk.cores) (sym c.forget.ensures.rest), c.forget.ensures.has)

pub returns : goal.returns
returns c =
    let after = (goal.at.returns c).After-forget in
    subst (λ (old : CallerView). Forgets old c.kept_count-count.result c.forget.new.seat) c.self.view_is (forgot after, keeps after)
