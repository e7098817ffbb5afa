use Rattle.std.proofs.Common.{◌≡◌, ◌<◌, ◌∙◌, ℕ, List, ap, Some}
use Rattle.base_words.specs.Assembly.{Assembly, journal_of}
use Rattle.base_jobs.specs.ScriptMeaning.{script_meaning}
use Rattle.base_jobs.specs.Scripts.{Script}
use Rattle.run_runtime.specs.Calls.{IsStarted, HasFinished}
use Rattle.run_runtime.specs.State.{RuntimeView}
use Rattle.run_config.specs.Configs.{Entry}
use Rattle.fairexec_script.specs.Orders.{Told}
use Rattle.run_worker.proofs.Openings.{opening_creations}
use Rattle.actor_seat.specs.Linked.{LinkedView}
use Rattle.run_worker.specs.Queues.{creations}
use Rattle.actor_seat.specs.Queues.{opening_of}
use Rattle.actor_seat.specs.Together.{worker_at}
use Rattle.fairexec_threads.specs.Offers.{OffersAll}
use Rattle.fairexec_threads.specs.Accepted.{room_of}
use Rattle.fairexec_threads.proofs.Sending.{grows, offers_both, started_of}
use Rattle.fairexec_script.specs.ThreadsLimits.{AreTold, HasSpare}
use Rattle.fairexec_threads.proofs.Answered.{answered}
use Rattle.fairexec_threads.proofs.Polled.{polled}
use Rattle.fairexec_threads.proofs.Running.{own}
use Rattle.fairexec_threads.proofs.Walked.{heard}
use Rattle.fairexec_threads.proofs.run.run_orders.Goals as goal

opened : (cores cap burst : ℕ) (queues : List Entry) (orders : List Told) (started ended : RuntimeView Script ℕ) (assembly : Assembly ℕ) → IsStarted cores cap burst (room_of cores cap burst) queues started → OffersAll orders started ended → HasFinished script_meaning ended assembly →
    (core : ℕ) → core < cores → opening_of (journal_of core assembly) ≡ creations core queues
opened cores cap burst queues orders started ended assembly starts offers finishes core there =
    let more = grows orders started ended offers in
    let cores_now : ended.desk.cores ≡ cores = more.cores ∙ ap (λ desk. desk.cores) starts.desk in
    finishes.openings core (rw cores_now there)
    ∙ (ap (λ (workers : List (LinkedView Script ℕ)). opening_of (worker_at core workers).recorded.journal.notes) more.workers
    ∙ (ap opening_of (starts.have_queues core there) ∙ opening_creations core queues))

pub offer_all-requires : goal.offer_all-requires
offer_all-requires g c =
    let started = c.in_ok-house.ensures.ok in
    let script = c.args.script in
    let idle = started_of script.cores script.cap script.burst script.queues.items c.in_ok-house.house started script.sized in
    let cores = ap (λ desk. desk.cores) started.desk in
    let cap = ap (λ desk. desk.cap) started.desk in
    record {
      script = idle.0;
      none = idle.1;
      told = own (λ a b. AreTold (Some (a, b)) script.orders.items) script.cores script.cap _ _ cores cap script.told;
      spare = own (λ a b. HasSpare (Some (a, b)) script.orders.items) script.cores script.cap _ _ cores cap script.spare;
      short = script.short;
    }

pub close_all-requires-clause-cores : goal.close_all-requires-clause-cores
close_all-requires-clause-cores g c =
    let more = grows c.args.script.orders.items c.in_ok-house.house c.offer_all.new.house c.offer_all.ensures.offers in
    more.cores ∙ ap (λ desk. desk.cores) c.in_ok-house.ensures.ok.desk

pub returns-clause-ok : goal.returns-clause-ok
returns-clause-ok g c =
    let script = c.args.script in
    let offers = offers_both _ _ _ _ _ c.offer_all.ensures.offers c.close_all.ensures.offers in
    record {
      started = c.in_ok-house.house;
      ended = c.close_all.new.house;
      starts = c.in_ok-house.ensures.ok;
      offers = offers;
      finishes = c.in-Ok.ensures;
      opened = opened script.cores script.cap script.burst script.queues.items _ c.in_ok-house.house c.close_all.new.house _ c.in_ok-house.ensures.ok offers c.in-Ok.ensures;
      heard = heard script.cores script.cap script.burst script.queues.items _ c.in_ok-house.house c.close_all.new.house _ c.in_ok-house.ensures.ok offers c.in-Ok.ensures;
      answered = answered script.cores script.cap script.burst script.queues.items _ c.in_ok-house.house c.close_all.new.house _ c.in_ok-house.ensures.ok offers c.in-Ok.ensures;
      polled = polled script.cores script.cap script.burst script.queues.items _ c.in_ok-house.house c.close_all.new.house _ c.in_ok-house.ensures.ok offers c.in-Ok.ensures;
    }
