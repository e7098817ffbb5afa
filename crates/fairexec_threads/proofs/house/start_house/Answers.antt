use Rattle.std.proofs.Common.{length, sym, subst}
use Rattle.run_config.specs.Configs.{IsGood}
use Rattle.fairexec_threads.proofs.Good.{config_good, never_bad}
use Rattle.fairexec_threads.proofs.house.start_house.Goals as goal

pub unreachable-requires : goal.unreachable-requires
unreachable-requires g c =
    let clocks = length c.in_ok-clocks.clocks.items in
    let gates = length c.in_ok-gates.gates.items in
    let good = config_good c.args.cores c.args.cap c.args.burst clocks gates c.args.queues.items c.requires.size c.requires.bursts c.requires.placed c.requires.few c.in_ok-clocks.ensures c.in_ok-gates.ensures in
    never_bad c.args.cores c.args.cap c.args.burst c.room_of.result clocks gates c.args.queues.items c.in-Err-BadConfig.field-0 c.in-Err-BadConfig.ensures c.in-Err-BadConfig.field-0-is
    (subst (λ room. IsGood c.args.cores c.args.cap c.args.burst room c.args.queues.items clocks gates) (sym c.room_of.ensures) good)
