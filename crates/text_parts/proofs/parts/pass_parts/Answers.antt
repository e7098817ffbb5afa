use Rattle.std.proofs.Common.{[], subst}
use Rattle.text_journal.specs.Drafts.{Drafted}
use Rattle.text_parts.specs.Houses.{MakeDraft}
use Rattle.text_parts.proofs.HouseLemmas.{made_parts}
use Rattle.text_parts.proofs.parts.pass_parts.Goals as goal

pub returns-in-Ok-into_whole-clause-ok : goal.returns-in-Ok-into_whole-clause-ok
returns-in-Ok-into_whole-clause-ok g c =
    let numbers = c.in_ok-house.ensures.ok in
    let taken = c.in_ok-take_parts.ensures.ok in
    let rest = c.in_ok-house.rest.now in
    let draft = c.take_parts.new.draft in
    made_parts g.T.NoteTaker.makes c.in-Ok-into_whole.whole c.args.bytes.now draft
    (record {
      house = c.in_ok-house.house;
      behind = rest;
      numbers = numbers.0;
      limits = numbers.1;
      parts = taken.0;
      made = subst (λ (d : Drafted). MakeDraft taken.0 d rest draft []) c.in-Ok.ensures.ok taken.1;
    })
    c.in-Ok-into_whole.ensures.ok
