use Rattle.std.proofs.Common.{[], get_or, refl, ap, subst, ◌∙◌, add-one, arith}
use Rattle.base_jobs.specs.Scripts.{CallsTo, step_of}
use Rattle.base_jobs.proofs.ScriptLemmas.{Does-early, Does-last, IsAnswer-script_polls, last_is_next}
use Rattle.base_jobs.proofs.script.ScriptJobJob.poll.Goals as goal

pub returns-then-place-yields-clause-owed : goal.returns-then-place-yields-clause-owed
returns-then-place-yields-clause-owed g c =
    let job = c.self.inside in
    rw (← c.self.view_is, add-one) (record {
      calls = [];
      owed = Does-last job.yields.items job.last_told job.answer job.polled (last_is_next job.yields.items job.last_told job.answer job.polled (rw (← c.self.view_is) at c.requires.open) c.self.invariant (omega arith));
      makes = refl;
    })

pub returns-then-place-yields-clause-answers : goal.returns-then-place-yields-clause-answers
returns-then-place-yields-clause-answers g c =
    rw (← c.self.view_is) (IsAnswer-script_polls c.self.inside.yields.items c.self.inside.last_told c.self.inside.answer)

pub returns-clause-owed : goal.returns-clause-owed
returns-clause-owed g c =
    let job = c.self.inside in
    let posts = c.post_as.ensures.posts in
    let yielding = c.index-deref-place.is ∙ ap (λ yields. get_or yields job.polled c.index-deref-place.result) c.deref.ensures.0 in
    rw (← c.self.view_is, add-one) (record {
      calls = posts.0;
      owed = Does-early job.yields.items job.last_told job.answer job.polled c.index-deref-place.result posts.0 c.step.result (omega arith)
          (subst (λ yielding. CallsTo yielding.does posts.0) yielding posts.1) (c.step.ensures ∙ ap (λ yielding. step_of yielding.does) yielding);
      makes = posts.2;
    })
