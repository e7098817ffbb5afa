use Rattle.std.proofs.Common.{ap, ◌∙◌}
use Rattle.std.specs.Prelude.{◌||◌}
use Rattle.base_words.specs.Clauses.{name_answered}
use Rattle.base_words.specs.Names.{is_name}
use Rattle.base_words.specs.Outstanding.{name_redeemed}
use Rattle.note_facts.proofs.FirstUnder.{next_collected}
use Rattle.note_facts.proofs.past.Past.add.Goals as goal

pub returns : goal.returns
returns c =
    λ before short knows.
    record {
      jobs = c.in_ok-add.ensures before short knows.jobs;
      answered =
          λ name.
          (rw c.name_answered.ensures at c.in_ok-add-2.ensures.added) name ∙
          ap (λ has. is_name name (name_answered c.args.note.now) || has) (knows.answered name);
      collected =
          next_collected c.args.note.now before _ _ (rw c.collected_told.ensures at c.in_ok-keep_first.ensures.set) knows.collected;
      redeemed =
          λ name.
          (rw c.name_redeemed.ensures at c.in_ok-add-3.ensures.added) name ∙
          ap (λ has. is_name name (name_redeemed c.args.note.now) || has) (knows.redeemed name);
    }
