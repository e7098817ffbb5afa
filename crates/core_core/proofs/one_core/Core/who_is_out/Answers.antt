use Rattle.core_core.proofs.Names.{ap, job_out, refl}
use Rattle.core_core.proofs.one_core.Core.who_is_out.Goals as goal

pub returns : goal.returns
returns g c =
    let out = c.in-Some.out in
    rw (← c.self.view_is) (record { name = out.name; queue = out.queue; woken = out.woken; job = out.job.value }, ap job_out c.in-Some.is, refl, refl)
