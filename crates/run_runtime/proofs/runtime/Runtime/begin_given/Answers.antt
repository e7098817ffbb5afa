use Rattle.std.proofs.Common.{◌≡◌, ℕ, ◌<◌, [], ◌∷◌, ◌++◌, false, rules, refl, ◌∙◌, ap, sym, subst, arith, length, map, replicate}
use denote.Param.{param}
use denote.Param.Send.{IsSend, arg_send, param_send}
use denote.Exit.{no}
use Rattle.run_runtime.proofs.Crosses.{worker_send, ended_send}
use Rattle.link_ends.specs.Fits.{Fits}
use Rattle.actor_desk.specs.Submissions.{opened_desk}
use Rattle.link_ring.specs.Ends.{AreFresh, out_at}
use Rattle.run_runtime.specs.Calls.{IsStarted}
use Rattle.run_runtime.specs.Starting.{HaveQueues, IsHouse, IsWatcherOf}
use Rattle.run_runtime.specs.WithSinks.{HasSinks}
use Rattle.std.proofs.lemmas.List.{length-map}
use Rattle.run_team.proofs.Lists.{together_length}
use Rattle.actor_seat.proofs.OutsideSeats.{seated_fresh}
use Rattle.actor_caller.specs.Watching.{IsUnseen}
use Rattle.run_runtime.proofs.AllPassed.{together_all}
use Rattle.run_runtime.proofs.Dealt.{made_with_last, same_maps}
use Rattle.run_runtime.proofs.Started.{holds_next, none_submitted, started}
use Rattle.run_runtime.proofs.runtime.Runtime.begin_given.Goals as goal

pub start-requires-send-W : goal.start-requires-send-W
start-requires-send-W g c κs within =
    let j : IsSend (param 0 g.row.J) = search rules parts 8 in
    let k : IsSend (param 1 g.row.C) = search rules parts 8 in
    let l : IsSend (param 2 g.row.G) = search rules parts 8 in
    let m : IsSend (param 3 g.row.S) = search rules parts 8 in
    let n : IsSend (param 4 g.row.J-Local) = search rules parts 8 in
    param_send 0 _ (arg_send _ no _ (worker_send g.row.J g.row.J-Local 4 g.J.Task g.J.Local.CoreState j n g.row.S g.S.Sink m g.row.C g.row.G k l))

pub start-requires-send-W-Ended : goal.start-requires-send-W-Ended
start-requires-send-W-Ended g c κs within =
    let j : IsSend (param 0 g.row.J) = search rules parts 8 in
    let m : IsSend (param 3 g.row.S) = search rules parts 8 in
    let n : IsSend (param 4 g.row.J-Local) = search rules parts 8 in
    param_send 1 _ (arg_send _ no _ (ended_send g.row.J g.row.J-Local 4 g.J.Task g.J.Local.CoreState j n g.row.S g.S.Sink m))

pub of-outside-requires : goal.of-outside-requires
of-outside-requires g c =
    seated_fresh c.args.config.now.cores c.args.config.now.cap c.args.config.now.burst c.args.config.now.room c.in-Ok-open_outside.desk c.in-Ok.ends c.in-Ok-open_outside.ensures.desk c.in-Ok-open_outside.ensures.written
    c.in-Ok.ensures.house.outs c.in-Ok.ensures.house.fresh (Fits g.J.Task.meaning)

-- there is room for what each worker and the caller give back
pub invariant_of-crew : goal.invariant_of-crew
invariant_of-crew g c =
    let count = ap (λ workers. length (map (λ worker. worker.linked) workers)) c.in-Ok-start.ensures.ok ∙ c.in-Ok.ensures.house.count in
    let many : length c.in-Ok-start.team ≡ c.args.config.now.cores = sym (length-map c.in-Ok-start.team (λ worker. worker.linked)) ∙ count in (
      (c.in-Ok-open_spares.ensures.ends.0, omega (arith, many, c.in-Ok-open_spares.ensures.ends.1)),
      (c.in-Ok-open_spares.ensures.actors.0, omega (arith, many, c.in-Ok-open_spares.ensures.actors.1)),
      (c.in-Ok-open_spares.ensures.journals.0, omega (arith, many, c.in-Ok-open_spares.ensures.journals.1)),
      (c.in-Ok-open_spares.ensures.locals.0, omega (arith, many, c.in-Ok-open_spares.ensures.locals.1)),
    )

-- each watcher is of the board of its worker
pub of-caller-requires-clause-watched : goal.of-caller-requires-clause-watched
of-caller-requires-clause-watched g c = record {
  boards_are = same_maps (λ worker. worker.shown.board) (λ watcher. watcher.board) IsWatcherOf (λ worker watcher is. is.board) c.in-Ok.workers.items c.in-Ok.watchers.items c.in-Ok.ensures.watchers
      ∙ ap (λ workers. map (λ worker. worker.shown.board) workers) (sym c.in-Ok-start.ensures.ok);
  boards = length-map c.in-Ok-start.team (λ worker. worker.shown.board) ∙ sym (length-map c.in-Ok-start.team (λ worker. worker.linked));
  marks = length-map c.in-Ok-start.team (λ worker. g.S.Sink.mark worker.sink) ∙ sym (length-map c.in-Ok-start.team (λ worker. worker.linked));
}

pub of-caller-requires-clause-held : goal.of-caller-requires-clause-held
of-caller-requires-clause-held g c =
    let desk : c.of-outside.result.desk ≡ opened_desk c.args.config.now.cores c.args.config.now.cores c.args.config.now.cap c.args.config.now.room c.args.config.now.burst =
    ap (λ outside. outside.desk) c.of-outside.ensures.is ∙ c.in-Ok-open_outside.ensures.desk in
    let workers = ap (λ workers. map (λ worker. worker.linked) workers) c.in-Ok-start.ensures.ok in
    let house = subst (λ ends. IsHouse c.args.config.now.cores c.args.config.now.cap c.args.config.now.burst c.args.config.now.room c.args.config.now.queues.items (map (λ worker. worker.linked) c.in-Ok.workers.items) ends)
    (sym (ap (λ outside. outside.ends) c.of-outside.ensures.is)) c.in-Ok.ensures.house in
    let empty : g.row.S.Denot → Type 0 = λ sink. g.S.Sink.has sink ≡ [] in
    let none = holds_next empty c.args.sinks.items c.pop.new.self.items (c.in-Some.sink ∷ []) [] c.in-Some.sink c.requires.empty c.in-Some.ensures.items refl in
    let numbers = c.requires.good.numbers in
    let first = c.requires.good.each 0 (omega (arith, numbers.some_core)) in
    record {
      runtime = started c.args.config.now.cores c.args.config.now.cap c.args.config.now.burst c.args.config.now.room c.args.config.now.queues.items (map (λ worker. worker.linked) c.in-Ok-start.team) c.of-outside.result c.of-outside.ensures.seated
          (subst (λ workers. IsHouse c.args.config.now.cores c.args.config.now.cap c.args.config.now.burst c.args.config.now.room c.args.config.now.queues.items workers c.of-outside.result.ends) (sym workers) house) desk (omega (arith, first.room_least))
          (record {
            some_core = omega (arith, numbers.some_core);
            few_cores = numbers.cores_most;
            some_place = omega (arith, numbers.some_place);
            few_places = numbers.places_most;
            some_poll = omega (arith, numbers.some_poll);
            few_polls = numbers.polls_most;
          })
          c.in-Ok-open_outside.closing.items c.in-Ok-open_outside.ensures.closing (record { names = c.in-Ok.bells.names; times = c.in-Ok.bells.rings; over = c.of-outside.result.ends }) c.in-Ok.ensures.bells _ false _ _ _ _;
      cores_are = sym (ap (λ desk. desk.cores) desk);
      cap_is = sym (ap (λ desk. desk.cap) desk);
      has_passed = none ∙ ap (λ desk. desk.journal.passed) (sym desk);
      refusal = λ yes. absurd cc;
    }

pub returns-in-Ok-start-clause-begins : goal.returns-in-Ok-start-clause-begins
returns-in-Ok-start-clause-begins g c =
    let view = sym c.of-caller.ensures in
    subst (λ view. IsStarted c.args.config.now.cores c.args.config.now.cap c.args.config.now.burst c.args.config.now.room c.args.config.now.queues.items view) view
    (record {
      desk = ap (λ outside. outside.desk) c.of-outside.ensures.is ∙ c.in-Ok-open_outside.ensures.desk;
      closing = c.in-Ok-open_outside.ensures.closing;
      rung = c.in-Ok.ensures.bells;
      bells = ap (λ workers. map (λ worker. worker.bells) workers) c.in-Ok-start.ensures.ok ∙ c.in-Ok.ensures.wired.bells_are;
      tries = ap (λ workers. map (λ worker. worker.tries) workers) c.in-Ok-start.ensures.ok ∙ c.in-Ok.ensures.wired.tries_are;
      room_is = refl;
      count = ap (λ workers. length (map (λ worker. worker.linked) workers)) c.in-Ok-start.ensures.ok ∙ c.in-Ok.ensures.house.count;
      ends = ap (λ outside. length outside.ends.outs) c.of-outside.ensures.is ∙ c.in-Ok.ensures.house.outs;
      fresh = subst (λ ends. AreFresh c.args.config.now.cap c.args.config.now.cores ends) (sym (ap (λ outside. outside.ends) c.of-outside.ensures.is)) c.in-Ok.ensures.house.fresh;
      none = subst (λ ends. (core : ℕ) → core < c.args.config.now.cores → (out_at core ends).out.sent ≡ []) (sym (ap (λ outside. outside.ends) c.of-outside.ensures.is))
          (none_submitted c.args.config.now.cores c.args.config.now.cap c.args.config.now.burst c.args.config.now.room c.args.config.now.queues.items (map (λ worker. worker.linked) c.in-Ok.workers.items) c.in-Ok.ends c.in-Ok.ensures.house);
      refused = refl;
      watched =
          sym (together_length IsWatcherOf c.in-Ok.workers.items c.in-Ok.watchers.items c.in-Ok.ensures.watchers)
          ∙ (sym (length-map c.in-Ok.workers.items (λ worker. worker.linked)) ∙ c.in-Ok.ensures.house.count);
      unseen = together_all IsWatcherOf IsUnseen (λ worker watcher is. is.unseen) c.in-Ok.workers.items c.in-Ok.watchers.items c.in-Ok.ensures.watchers;
      have_queues = subst (λ workers. HaveQueues c.args.config.now.cores c.args.config.now.queues.items (map (λ worker. worker.linked) workers)) (sym c.in-Ok-start.ensures.ok) c.in-Ok.ensures.house.have_queues;
    })

pub returns-in-Ok-start-clause-dealt : goal.returns-in-Ok-start-clause-dealt
returns-in-Ok-start-clause-dealt g c =
    subst (λ view. HasSinks g.S.Sink.asks g.S.Sink.mark c.args.sinks.items view) (sym c.of-caller.ensures)
    (record {
      marks_are =
          ap (λ workers. map (λ worker. g.S.Sink.mark worker.sink) workers ++ g.S.Sink.mark c.in-Some.sink ∷ []) c.in-Ok-start.ensures.ok
          ∙ made_with_last g.S.Sink.mark (λ worker. worker.sink) c.in-Ok.workers.items c.pop.new.self.items c.args.sinks.items c.in-Some.sink c.in-Ok.ensures.wired.sinks_are c.in-Some.ensures.items;
      front = c.pop.new.self.items;
      last = c.in-Some.sink;
      split = c.in-Some.ensures.items;
      asks_are = refl;
    })

-- the workers as the threads were given them
pub returns-in-Ok-start-clause-given : goal.returns-in-Ok-start-clause-given
returns-in-Ok-start-clause-given g c =
    let given = ap (λ vec. vec.items) (sym c.of-given.ensures) in
    let team = c.in-Ok-start.ensures.ok ∙ given in
    record {
      workers_are = ap (λ view. view.workers) c.of-caller.ensures ∙ ap (λ workers. map (λ worker. worker.linked) workers) team;
      bells_are = ap (λ view. view.bells) c.of-caller.ensures ∙ ap (λ workers. map (λ worker. worker.bells) workers) team;
      tries_are = ap (λ view. view.tries) c.of-caller.ensures ∙ ap (λ workers. map (λ worker. worker.tries) workers) team;
      clocks_are = ap (λ workers. map (λ worker. worker.clock) workers) (sym given) ∙ c.in-Ok.ensures.wired.clocks_are;
      gates_are = ap (λ workers. map (λ worker. worker.gate) workers) (sym given) ∙ c.in-Ok.ensures.wired.gates_are;
      last = c.in-Some.sink;
      sinks_are = c.in-Some.ensures.items ∙ ap (λ front. front ++ c.in-Some.sink ∷ []) (sym (ap (λ workers. map (λ worker. worker.sink) workers) (sym given) ∙ c.in-Ok.ensures.wired.sinks_are));
    }
