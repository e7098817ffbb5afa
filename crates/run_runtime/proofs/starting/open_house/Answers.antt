use Rattle.std.proofs.Common.{map, subst}
use Rattle.run_runtime.specs.Starting.{AreWired}
use Rattle.run_runtime.proofs.Started.{front_count, may_open, opened_house}
use Rattle.run_runtime.proofs.starting.open_house.Goals as goal

pub open_workers-requires-clause-each : goal.open_workers-requires-clause-each
open_workers-requires-clause-each g c =
    may_open c.args.config.now.cores c.args.config.now.cap c.args.config.now.burst c.args.config.now.room c.args.config.now.queues.items c.in-Ok.all.items c.pop.new.self.items c.in-Some.outside c.in-Some.ensures.items c.in-Ok.ensures.grid c.in-Ok.ensures.fresh
    _ _ c.requires.good

pub returns-clause-house : goal.returns-clause-house
returns-clause-house g c =
    opened_house c.args.config.now.cores c.args.config.now.cap c.args.config.now.burst c.args.config.now.room c.args.config.now.queues.items c.in-Ok.all.items c.pop.new.self.items c.in-Some.outside c.in-Some.ensures.items c.in-Ok.ensures.grid c.in-Ok.ensures.fresh
    (map (λ worker. worker.linked) c.in_ok-workers.workers.items) c.in_ok-workers.ensures.opened

pub returns-clause-wired : goal.returns-clause-wired
returns-clause-wired g c =
    subst (λ count. AreWired count c.args.clocks.items c.args.gates.items c.args.sinks.items c.in_ok-bells.bells.names c.in_ok-workers.workers.items)
    (front_count c.args.config.now.cores c.args.config.now.cap c.args.config.now.burst c.args.config.now.room c.args.config.now.queues.items c.in-Ok.all.items c.pop.new.self.items c.in-Some.outside c.in-Some.ensures.items c.in-Ok.ensures.grid c.in-Ok.ensures.fresh)
    c.in_ok-workers.ensures.wired
