use Rattle.std.proofs.Common.{inl, inr, refl}
use Rattle.fairexec_c.proofs.hosted.Hosted.wake_sleeper.Goals as goal

pub returns-then-not-is_parked : goal.returns-then-not-is_parked
returns-then-not-is_parked c =
    let due = c.in-Some.ensures.due in
    inr (c.in-Some.name, due, inl (c.is_parked.ensures.awake c.if-not-is_parked.true, refl, refl, c.forget.ensures.had (due.key, (due.time, due.had))))
