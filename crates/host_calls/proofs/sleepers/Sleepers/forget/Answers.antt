use Rattle.std.proofs.Common.{◌≡◌, inl, inr, subst}
use Rattle.std.specs.Prelude.{Bool, true, false}
use Rattle.std.specs.Bool.{OnTrue, OnFalse}
use Rattle.base_words.specs.declared.names.JobId.{JobId}
use Rattle.core_timers.specs.Timers.{Forgets, LacksName, Timers}
use Rattle.host_calls.specs.Sleepers.{IsSet, LosesTimer}
use Rattle.host_calls.proofs.sleepers.Sleepers.forget.Goals as goal

-- a timer that is there goes
goes : (found : Bool) (name : JobId) (old new : Timers) → OnTrue found (Forgets old name new) → OnFalse found (LacksName old name) → IsSet old name → Forgets old name new
goes true name old new forgot none is = forgot
goes false name old new forgot none is = absurd (none is.0 is.1)

loses : (found : Bool) (name : JobId) (old new : Timers) → OnTrue found (Forgets old name new) → OnFalse found (LacksName old name) → OnFalse found (new ≡ old) → LosesTimer name old new
loses true name old new forgot none same = inl forgot
loses false name old new forgot none same = inr (none, same)

pub returns-clause-loses : goal.returns-clause-loses
returns-clause-loses c =
    let does = c.forget-had.ensures in
    subst (λ old. LosesTimer c.args.name.now old c.forget-had.new.self) c.self.view_is (loses c.forget-had.result c.args.name.now _ _ does.forgot does.none does.unchanged)

pub returns-clause-had : goal.returns-clause-had
returns-clause-had c =
    let does = c.forget-had.ensures in
    subst (λ old. IsSet old c.args.name.now → Forgets old c.args.name.now c.forget-had.new.self) c.self.view_is (goes c.forget-had.result c.args.name.now _ _ does.forgot does.none)
