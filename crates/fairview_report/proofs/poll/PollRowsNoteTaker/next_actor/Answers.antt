use Rattle.std.proofs.Common.{◌∷◌, [], length, length-append, ◌∙◌, arith}
use Rattle.fairview_report.specs.PollTexts.{head_text}
use Rattle.fairview_report.proofs.RowLemmas.{rows_next}
use Rattle.fairview_report.proofs.poll.PollRowsNoteTaker.next_actor.Goals as goal

pub returns : goal.returns
returns c =
    λ handed within has.
    let actor = has.actor in
    let cores = has.cores in
    let few = has.few in
    record {
      cores = has.cores;
      few = has.few;
      actor = omega (arith, actor, cores, few, within, c.saturating_add-self.ensures, length-append handed.earlier (handed.notes ∷ []));
      walk = c.new.ensures;
      page = has.page ∙ rows_next head_text handed.earlier handed.notes handed.cores within;
    }
