use Rattle.std.proofs.Common.{◌≡◌, sym, ◌∙◌, ap, subst}
use Rattle.std.specs.Prelude.{Some, unwrap_or}
use Rattle.std.proofs.lemmas.Bool.{true≢false}
use Rattle.base_words.specs.declared.names.JobId.{JobId}
use Rattle.note_facts.specs.Histories.{TellsOf}
use Rattle.note_facts.proofs.FactSteps.{redeems_nothing}
use Rattle.note_facts.proofs.histories.Fact.before.Goals as goal

pub returns-in-Some : goal.returns-in-Some
returns-in-Some c =
    λ before knows.
    record {
      told =
          λ name asked.
          let one : Some c.in-Some.name ≡ Some name = sym c.in-Some.is ∙ (c.name_asked.ensures ∙ asked) in
          subst (λ (it : JobId). TellsOf c.of.result it before) (ap (λ it. unwrap_or it c.in-Some.name) one) (c.of.ensures.told before knows);
      collected = (
        λ yes. c.is_collected.ensures.right before knows (sym c.of.ensures.collected ∙ yes),
        λ is. c.of.ensures.collected ∙ c.is_collected.ensures.only before knows is,
      );
    }

pub returns-in-None : goal.returns-in-None
returns-in-None c =
    λ before knows.
    let none = sym c.name_asked.ensures ∙ c.in-None.is in
    rw c.none.ensures
    (
    record {
      told = λ name asked. let nothing = sym asked ∙ none in cc;
      collected = (λ yes. absurd (true≢false (sym yes)), λ is. absurd (redeems_nothing c.args.note.now before none is));
    }
    )
