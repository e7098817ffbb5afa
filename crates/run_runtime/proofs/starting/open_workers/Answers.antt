use Rattle.std.proofs.Common.{◌≡◌, [], ◌∙◌, length, map, sym, subst, ap}
use Rattle.std.proofs.lemmas.List.{length-map}
use Rattle.std.specs.Prelude.{All}
use Rattle.run_team.specs.Works.{Together}
use Rattle.run_runtime.specs.Starting.{AreOpening, IsOpenedWith}
use Rattle.run_runtime.proofs.Dealt.{all_of_map, if_ok, same_maps, same_of_each, together_maps}
use Rattle.run_runtime.proofs.starting.open_workers.Goals as goal

pub open_seats-requires-clause-each : goal.open_seats-requires-clause-each
open_seats-requires-clause-each g c =
    let opening = AreOpening c.args.config.now.cores c.args.config.now.cap c.args.config.now.burst c.args.config.now.room c.args.config.now.queues.items in
    all_of_map (λ seat. seat.ends) opening c.in_ok-seats.seats.items (subst (All opening) (sym c.in_ok-seats.ensures.ends) c.requires.each)

pub open_seats-requires-clause-empty : goal.open_seats-requires-clause-empty
open_seats-requires-clause-empty g c =
    let none : g.row.S.Denot → Type 0 = λ sink. g.S.Sink.has sink ≡ [] in
    all_of_map (λ seat. seat.sink) none c.in_ok-seats.seats.items (subst (All none) (sym c.in_ok-seats.ensures.sinks) c.requires.empty)

pub returns-clause-opened : goal.returns-clause-opened
returns-clause-opened g c =
    let opened_with = IsOpenedWith c.args.config.now.cores c.args.config.now.cap c.args.config.now.burst c.args.config.now.room c.args.config.now.queues.items in
    if_ok _ _ (λ opened both. subst (λ all. Together opened_with all (map (λ worker. worker.linked) opened.0.items)) c.in_ok-seats.ensures.ends
    (together_maps (λ seat. seat.ends) (λ worker. worker.linked) _ opened_with (λ seat worker wired. wired.linked) c.in_ok-seats.seats.items opened.0.items both))
    c.open_seats.result c.open_seats.ensures.workers

pub returns-clause-wired : goal.returns-clause-wired
returns-clause-wired g c =
    let names = c.args.bells.now.names in
    let seats = c.in_ok-seats.seats.items in
    let count : length seats ≡ length c.args.all.items = sym (length-map seats (λ seat. seat.ends)) ∙ ap length c.in_ok-seats.ensures.ends in
    if_ok _ _ (λ opened both. record {
      clocks_are = same_maps (λ seat. seat.clock) (λ worker. worker.clock) _ (λ seat worker wired. wired.clock_is) seats opened.0.items both ∙ c.in_ok-seats.ensures.clocks;
      gates_are = same_maps (λ seat. seat.gate) (λ worker. worker.gate) _ (λ seat worker wired. wired.gate_is) seats opened.0.items both ∙ c.in_ok-seats.ensures.gates;
      sinks_are = same_maps (λ seat. seat.sink) (λ worker. worker.sink) _ (λ seat worker wired. wired.sink_is) seats opened.0.items both ∙ c.in_ok-seats.ensures.sinks;
      bells_are = same_maps (λ seat. names) (λ worker. worker.bells) _ (λ seat worker wired. wired.bells_are) seats opened.0.items both ∙ same_of_each names seats (length c.args.all.items) count;
      tries_are = same_maps (λ seat. 1024) (λ worker. worker.tries) _ (λ seat worker wired. wired.tries_are) seats opened.0.items both ∙ same_of_each 1024 seats (length c.args.all.items) count;
    })
    c.open_seats.result c.open_seats.ensures.workers
