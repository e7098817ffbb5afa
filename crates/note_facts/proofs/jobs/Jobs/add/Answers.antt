use Rattle.std.proofs.Common.{ap, ◌∙◌}
use Rattle.std.specs.Prelude.{◌||◌}
use Rattle.base_words.specs.Filters.{name_started, name_ended}
use Rattle.base_words.specs.Names.{is_name}
use Rattle.note_facts.proofs.jobs.Jobs.add.Goals as goal

pub returns : goal.returns
returns c =
    λ before short knows.
    record {
      parks = c.in_ok-add.ensures.knows before short knows.parks;
      stays = c.in_ok-add-2.ensures.knows before (c.wakes_parked-parked.ensures before knows) knows.stays;
      started =
          λ name.
          (rw c.name_started.ensures at c.in_ok-add-3.ensures.added) name ∙
          ap (λ has. is_name name (name_started c.args.note.now) || has) (knows.started name);
      ended =
          λ name.
          (rw c.name_ended.ensures at c.in_ok-add-4.ensures.added) name ∙ ap (λ has. is_name name (name_ended c.args.note.now) || has) (knows.ended name);
    }
