use Rattle.run_worker.proofs.Names.{false, inl, inr, is_some, IsSome, None, Option, refl, Some, subst, TimesNext, watch_view, WatchView, ℕ, ◌≡◌}
use Rattle.run_worker.proofs.stopwatch.StopwatchMeter.start.Goals as goal

none_kept : (last : Option ℕ) → is_some last ≡ false → last ≡ None
none_kept None told = refl
none_kept (Some last) told = cc

pub returns-then-is_none : goal.returns-then-is_none
returns-then-is_none g c time after ends =
    subst (λ (watch : WatchView _). TimesNext g.C.Clock.Reads watch time after) c.self.view_is
    (watch_view c.now-began.new.self (Some c.now-began.result) c.self.inside.taken, inr (none_kept c.self.inside.last c.if-is_none.ensures, (c.now-began.result, c.now-began.ensures, refl)), ends)

pub returns-else-is_none : goal.returns-else-is_none
returns-else-is_none g c time after ends = (c.args.self.now, inl (subst (λ (watch : WatchView _). IsSome watch.last) c.self.view_is c.if-is_none.ensures, refl), ends)
