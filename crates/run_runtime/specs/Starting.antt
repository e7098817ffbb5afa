-- What is opened when a runtime is started.
use Rattle.std.specs.Prelude.{◌≡◌, ℕ, ◌+◌, ◌<◌, ◌≤◌, List, [], ◌∷◌, ◌++◌, length, map, replicate}
use Rattle.run_config.specs.Configs.{Entry, least_room, queues_of}
use Rattle.link_ring.specs.Ends.{EndsView, AreFresh}
use Rattle.link_ring.specs.Grid.{IsGrid}
use Rattle.actor_seat.specs.Linked.{LinkedView}
use Rattle.actor_seat.specs.Opening.{AreEndsOf, IsOpenedOver, IsWorkerOf}
use Rattle.run_worker.specs.Queues.{creations}
use Rattle.actor_seat.specs.Together.{worker_at}
use Rattle.run_worker.specs.Workers.{WorkerView}
use Rattle.run_watch.specs.declared.watcher.Watching.{Watching}
use Rattle.actor_caller.specs.State.{RuntimeView}
use Rattle.actor_caller.specs.Watching.{IsUnseen}

-- a journal has room for the queues that a core is to have, and for what a worker needs
abbrev pub IsRoomFor : ℕ → ℕ → ℕ → ℕ → List Entry → ℕ → Type 0
IsRoomFor cores cap burst room queues core = least_room cores cap burst + queues_of core queues ≤ room

module _ {J T : Type 0} where
  -- fresh ends of a core, for whose journal there is room
  pub record AreOpening (cores cap burst room : ℕ) (queues : List Entry) (ends : EndsView J T) : Type 0 where
    pub ends_of : AreEndsOf cores cap ends
    pub enough : IsRoomFor cores cap burst room queues ends.number

  -- a worker over these ends, whose journal tells of the queues of its core and of nothing else
  pub record IsOpenedWith (cores cap burst room : ℕ) (queues : List Entry) (ends : EndsView J T) (worker : LinkedView J T) : Type 0 where
    pub over : IsOpenedOver cores cap burst room ends worker
    pub queues_are : worker.recorded.journal.notes ≡ creations ends.number queues

  -- a worker of which this is so has this clock, this gate and this sink, rings the bells of these names, and tries 1024 times before it parks
  pub record IsWiredWith {C G S : Type 0} (opened : LinkedView J T → Type 0) (clock : C) (gate : G) (sink : S) (names : List ℕ) (worker : WorkerView J T C G S) : Type 0 where
    pub linked : opened worker.linked
    pub clock_is : worker.clock ≡ clock
    pub gate_is : worker.gate ≡ gate
    pub sink_is : worker.sink ≡ sink
    pub bells_are : worker.bells ≡ names
    pub tries_are : worker.tries ≡ 1024

  -- so many workers have these clocks, gates and sinks in their order, ring the bells of these names, and try 1024 times before they park
  pub record AreWired {C G S : Type 0} (count : ℕ) (clocks : List C) (gates : List G) (sinks : List S) (names : List ℕ) (workers : List (WorkerView J T C G S)) : Type 0 where
    pub clocks_are : map (λ worker. worker.clock) workers ≡ clocks
    pub gates_are : map (λ worker. worker.gate) workers ≡ gates
    pub sinks_are : map (λ worker. worker.sink) workers ≡ sinks
    pub bells_are : map (λ worker. worker.bells) workers ≡ replicate count names
    pub tries_are : map (λ worker. worker.tries) workers ≡ replicate count 1024

  -- The threads of this runtime were given these workers, which have these clocks and gates in their order. They have the sinks, too, and the last one is left.
  pub record AreGiven {C G S : Type 0} (view : RuntimeView J T) (clocks : List C) (gates : List G) (sinks : List S) (given : List (WorkerView J T C G S)) : Type 0 where
    pub workers_are : view.workers ≡ map (λ worker. worker.linked) given
    pub bells_are : view.bells ≡ map (λ worker. worker.bells) given
    pub tries_are : view.tries ≡ map (λ worker. worker.tries) given
    pub clocks_are : map (λ worker. worker.clock) given ≡ clocks
    pub gates_are : map (λ worker. worker.gate) given ≡ gates
    pub last : S
    pub sinks_are : sinks ≡ map (λ worker. worker.sink) given ++ last ∷ []

  -- the watcher of this worker's board, which saw nothing yet
  pub record IsWatcherOf {C G S : Type 0} (worker : WorkerView J T C G S) (watcher : Watching) : Type 0 where
    pub board : watcher.board ≡ worker.shown.board
    pub terms_are : watcher.terms ≡ worker.shown.terms
    pub unseen : IsUnseen watcher

  -- the journal of each worker tells of the queues of its core and of nothing else
  abbrev pub HaveQueues : ℕ → List Entry → List (LinkedView J T) → Type 0
  HaveQueues cores queues workers = (core : ℕ) → core < cores → (worker_at core workers).recorded.journal.notes ≡ creations core queues

  -- the workers of a house that was just opened, one for each core, and the outside actor's ends
  pub record IsHouse (cores cap burst room : ℕ) (queues : List Entry) (workers : List (LinkedView J T)) (outside : EndsView J T) : Type 0 where
    pub count : length workers ≡ cores
    pub each : (core : ℕ) → core < cores → IsWorkerOf core cores cap burst room (worker_at core workers)
    pub grid : IsGrid cores (map (λ worker. worker.ends) workers ++ outside ∷ [])
    pub outs : length outside.outs ≡ cores
    pub fresh : AreFresh cap cores outside
    pub have_queues : HaveQueues cores queues workers
