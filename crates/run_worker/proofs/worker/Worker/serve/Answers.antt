use Rattle.run_worker.proofs.Names.{ap, inl, inr, ShowsEnd, subst, WorkerView, ◌∙◌}
use Rattle.run_worker.proofs.worker.Worker.serve.Goals.{then-not-goes_on, else-not-goes_on}
use Rattle.run_worker.proofs.worker.Worker.serve.Goals as goal

pub returns : goal.returns
returns g c = (
  c.show_again.new.self,
  c.show_again.ensures,
  (
    c.if-not-goes_on.self,
    elim c.if-not-goes_on.branch [
      | then-not-goes_on w ↦ rw w.self-is (inr (c.goes_on.new.self, rw w.if-not-goes_on.true at c.goes_on.ensures, (w.show.new.self, w.show.ensures, (w.rests.result, w.rests.ensures))))
      | else-not-goes_on w ↦ rw w.self-is (inl (rw w.if-not-goes_on.false at c.goes_on.ensures))
    ],
    subst (λ was. ShowsEnd was c.if-not-goes_on.self c.show_end.new.self) (c.is_ending-was.ensures ∙ ap (λ (worker : WorkerView _ _ _ _ _). worker.ending) c.self.view_is) c.show_end.ensures,
  ),
)
