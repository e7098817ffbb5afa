use Rattle.model_world.proofs.LinkWords.{◌≡◌, ◌∙◌, arith, refl}
use Rattle.model_world.proofs.Opening.{AreFirstOpened-push}
use Rattle.model_world.proofs.cores.open_cores.Goals as goal

pub loop-core-preserved : goal.loop-core-preserved
loop-core-preserved g c = (
  omega (arith, c.loop-core.invariant.0, c.push_reserved.ensures.capacity),
  rw c.push_reserved.ensures.items (AreFirstOpened-push c.loop-core.core c.args.cores c.args.cap c.args.room c.args.burst _ _ c.loop-core.invariant.1 c.in_ok-opened.ensures.opened),
)

pub loop-core-init : goal.loop-core-init
loop-core-init g c = (
  omega (arith, c.in_ok-inside.ensures.capacity),
  rw c.in_ok-inside.ensures.items (record { cores_are = refl; each_opened = λ core below. absurd (omega (arith, below)) }),
)

pub returns : goal.returns
returns g c =
    let all : c.loop-core.core ≡ c.args.cores = omega (arith, c.loop-core-test.false, c.loop-core.auto.core-end) in
    record {
      cores_are = c.loop-core.invariant.1.cores_are ∙ all;
      each_opened = λ core below. c.loop-core.invariant.1.each_opened core (omega (arith, below, all));
    }
