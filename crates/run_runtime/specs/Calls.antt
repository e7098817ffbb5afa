-- How a runtime starts and finishes.
use Rattle.std.specs.Prelude.{◌≡◌, All, ℕ, ◌+◌, ◌<◌, true, false, List, [], length, replicate, Result, Ok, Err}
use Rattle.base_words.specs.Assembly.{Assembly, journal_of}
use Rattle.base_words.specs.Closing.{IsDrained}
use Rattle.base_words.specs.Journal.{EachNote, Journal}
use Rattle.base_words.specs.Joining.{AreJoined}
use Rattle.base_words.specs.Sound.{IsSound}
use Rattle.base_words.specs.Spelled.{IsSpelled}
use Rattle.base_jobs.specs.Meanings.{Meaning}
use Rattle.link_ends.specs.Fits.{Fits}
use Rattle.actor_desk.specs.Submissions.{opened_desk}
use Rattle.link_ring.specs.Ends.{AreFresh}
use Rattle.actor_seat.specs.Queues.{opening_of}
use Rattle.run_worker.specs.Rooms.{MayAct, least_free}
use Rattle.actor_seat.specs.Together.{worker_at}
use Rattle.run_runtime.specs.declared.error.FinishError.{FinishError}
use Rattle.run_runtime.specs.declared.error.FinishError.TheVariants.{NotClosed}
use Rattle.run_runtime.specs.declared.error.StartError.{StartError}
use Rattle.run_runtime.specs.declared.error.StartError.TheVariants.{BadConfig, Memory, Thread}
use Rattle.run_config.specs.Configs.{Entry, IsGood}
use Rattle.run_runtime.specs.Outcomes.{AllFitTheirOrders, AllHaveOutcomes, AllPollsAreOwed, AreItsOrders, Orders, TellsOrders}
use Rattle.run_runtime.specs.Starting.{HaveQueues}
use Rattle.actor_caller.specs.Closings.{IsFirstOpen}
use Rattle.actor_caller.specs.State.{RuntimeView, closing_at, submitted}
use Rattle.actor_caller.specs.Watching.{IsUnseen, SawBeginnings}

module _ {J T : Type 0} where
  -- A runtime that was just started. There is a worker for each core, and the outside actor has a fresh end to each. Each core has the queues that
  -- the configuration names for it, in their order. Each worker rings the very bells that the caller has, and parks behind 1024 rounds in which nothing was
  -- done. Nothing was seen of a core yet.
  pub record IsStarted (cores cap burst room : ℕ) (queues : List Entry) (view : RuntimeView J T) : Type 0 where
    pub desk : view.desk ≡ opened_desk cores cores cap room burst
    pub closing : view.closing ≡ replicate cores false
    pub rung : view.rung.times ≡ replicate (cores + 1) 0
    pub bells : view.bells ≡ replicate cores view.rung.names
    pub tries : view.tries ≡ replicate cores 1024
    pub room_is : view.room ≡ room
    pub count : length view.workers ≡ cores
    pub ends : length view.ends.outs ≡ cores
    pub fresh : AreFresh cap cores view.ends
    pub none : (core : ℕ) → core < cores → submitted core view ≡ []
    pub have_queues : HaveQueues cores queues view.workers
    pub refused : view.refused ≡ false
    pub watched : length view.watched ≡ cores
    pub unseen : All IsUnseen view.watched

  -- a start with a good configuration
  abbrev pub Begins : ℕ → ℕ → ℕ → ℕ → List Entry → Result (RuntimeView J T) StartError → Type 0
  Begins cores cap burst room queues (Ok view) = IsStarted cores cap burst room queues view
  Begins cores cap burst room queues (Err BadConfig) = ⊥
  Begins cores cap burst room queues (Err _) = Unit {0}

  -- a start: the configuration is not good, or there was no memory or no thread, or nothing has happened yet
  abbrev pub Starts : ℕ → ℕ → ℕ → ℕ → List Entry → ℕ → ℕ → Result (RuntimeView J T) StartError → Type 0
  Starts cores cap burst room queues clocks gates (Ok view) = IsGood cores cap burst room queues clocks gates × IsStarted cores cap burst room queues view
  Starts cores cap burst room queues clocks gates (Err BadConfig) = IsGood cores cap burst room queues clocks gates → ⊥
  Starts cores cap burst room queues clocks gates (Err Memory) = IsGood cores cap burst room queues clocks gates
  Starts cores cap burst room queues clocks gates (Err Thread) = IsGood cores cap burst room queues clocks gates

module _ {J : Type 0} (meaning : Meaning J ℕ) (may : ℕ → Journal ℕ → Type 0) where
  -- The journals are joined, so they are sound, and they have a text. The outside journal is that of the caller's calls. Each core is drained.
  -- It closed by itself, and sent, redeemed and let go, only as it may. Its journal begins with what its worker began with. There is one order for each
  -- name, as it was sent: each has an outcome, what the journals tell of it is what it asks, and each of its polls is one that it owes. What the caller saw of
  -- a core while it ran are the numbers of a beginning of its journal.
  pub record HasFinishedBy (view : RuntimeView J ℕ) (assembly : Assembly ℕ) : Type 0 where
    pub closed : (core : ℕ) → core < view.desk.cores → closing_at core view ≡ true
    pub cores : assembly.cores ≡ view.desk.cores
    pub cap : assembly.cap ≡ view.desk.cap
    pub burst : assembly.burst ≡ view.desk.burst
    pub joined : AreJoined assembly
    pub sound : IsSound assembly
    pub spelled : IsSpelled assembly
    pub outside : journal_of view.desk.cores assembly ≡ view.desk.journal.notes
    pub drained : (core : ℕ) → core < view.desk.cores → IsDrained view.desk.cores (journal_of core assembly)
    pub acts : (core : ℕ) → core < view.desk.cores → may core (journal_of core assembly)
    pub openings : (core : ℕ) → core < view.desk.cores → opening_of (journal_of core assembly) ≡ opening_of (worker_at core view.workers).recorded.journal.notes
    pub orders : Orders J
    pub orders_are : AreItsOrders view assembly orders
    pub outcomes : AllHaveOutcomes view assembly orders
    pub fitting : AllFitTheirOrders view assembly orders (Fits meaning)
    pub polls : AllPollsAreOwed view assembly orders meaning
    pub watched : SawBeginnings view assembly

-- what it says of the orders
abbrev pub orders_told : {J : Type 0} {meaning : Meaning J ℕ} {may : ℕ → Journal ℕ → Type 0} {view : RuntimeView J ℕ} {assembly : Assembly ℕ} → HasFinishedBy meaning may view assembly → TellsOrders meaning view assembly
orders_told finished = record { orders = finished.orders; orders_are = finished.orders_are; outcomes = finished.outcomes; fitting = finished.fitting; polls = finished.polls }

module _ {J : Type 0} where
  -- a core closed by itself only where its whole journal was short, and it sent, redeemed and let go only while one of its jobs was polled
  abbrev pub MayActWhole : RuntimeView J ℕ → ℕ → Journal ℕ → Type 0
  MayActWhole view core notes = EachNote (MayAct (least_free view.desk.cores view.desk.cap view.desk.burst) view.room) notes

  -- the same of the journals of a runtime that passed nothing on
  abbrev pub HasFinished : Meaning J ℕ → RuntimeView J ℕ → Assembly ℕ → Type 0
  HasFinished meaning view assembly = HasFinishedBy meaning (MayActWhole view) view assembly

  -- a finish: a core is still open and the runtime comes back, or all workers have ended
  abbrev pub Finishes : Meaning J ℕ → RuntimeView J ℕ → Result (Assembly ℕ) (FinishError (RuntimeView J ℕ)) → Type 0
  Finishes meaning view (Ok assembly) = HasFinished meaning view assembly
  Finishes meaning view (Err (NotClosed core same)) = IsFirstOpen core view × (same ≡ view)
