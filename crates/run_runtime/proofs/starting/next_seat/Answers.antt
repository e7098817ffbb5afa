use Rattle.run_runtime.proofs.Dealt.{first_of}
use Rattle.run_runtime.proofs.starting.next_seat.Goals as goal

pub returns-clause-clocks : goal.returns-clause-clocks
returns-clause-clocks g c = first_of c.args.clocks.now.items c.remove-clock.new.self.items c.remove-clock.result c.requires.clocks c.remove-clock.ensures.value c.remove-clock.ensures.items

pub returns-clause-gates : goal.returns-clause-gates
returns-clause-gates g c = first_of c.args.gates.now.items c.remove-gate.new.self.items c.remove-gate.result c.requires.gates c.remove-gate.ensures.value c.remove-gate.ensures.items

pub returns-clause-sinks : goal.returns-clause-sinks
returns-clause-sinks g c = first_of c.args.sinks.now.items c.remove-sink.new.self.items c.remove-sink.result c.requires.sinks c.remove-sink.ensures.value c.remove-sink.ensures.items

pub returns-clause-locals : goal.returns-clause-locals
returns-clause-locals g c = first_of c.args.locals.now.items c.remove-local.new.self.items c.remove-local.result c.requires.locals c.remove-local.ensures.value c.remove-local.ensures.items
