-- A script's configuration is good.
use Rattle.std.proofs.Common.{◌≡◌, ℕ, ◌+◌, ◌*◌, ◌≤◌, ◌<◌, ◌==◌, eqb, cond, true, false, Bool, List, [], ◌∷◌, Some, Err, refl, subst, arith}
use Rattle.std.proofs.Math.Nat.{mul-le-mul}
use Rattle.std.proofs.lemmas.Bool.Decides.{nat_tests}
use Rattle.std.proofs.lemmas.List.Elements.{All-head, All-tail}
use Rattle.std.proofs.lemmas.List.Sums.{sum_by-cons}
use Rattle.std.specs.Prelude.{All, nat_lt}
use Rattle.base_words.specs.Work.{number_if}
use Rattle.fairexec_script.specs.Drafts.{queue_lines}
use Rattle.fairexec_script.specs.Limits.{IsSize, IsBurst, ArePlaced, HasFewQueues}
use Rattle.run_config.specs.Configs.{Entry, queues_of, strays, least_room, IsGood}
use Rattle.base_jobs.specs.Scripts.{Script}
use Rattle.run_runtime.specs.declared.error.StartError.{StartError}
use Rattle.run_runtime.specs.declared.error.StartError.TheVariants.{BadConfig}
use Rattle.run_runtime.specs.Calls.{Starts}
use Rattle.fairexec_threads.specs.Accepted.{room_of}

number_of : (same : Bool) → number_if same ≡ cond same 1 0
number_of true = refl
number_of false = refl

-- as many queues as `queue` lines
counted : (core : ℕ) (queues : List Entry) → queues_of core queues ≡ queue_lines core queues
counted core [] = refl
counted core (queue ∷ rest) =
    let before = counted core rest in
    let one = number_of (eqb queue.0 core) in
    let more = sum_by-cons (λ q. cond (q.0 == core) 1 0) queue rest in
    omega (arith, before, one, more)

-- each queue is of a core
none_strays : (cores : ℕ) (queues : List Entry) → All (λ queue. queue.0 < cores) queues → strays cores queues ≡ 0
none_strays cores [] placed = refl
none_strays cores (queue ∷ rest) placed =
    let here = All-head (λ q. q.0 < cores) queue rest placed in
    let before = none_strays cores rest (All-tail (λ q. q.0 < cores) queue rest placed) in
    let there : nat_lt queue.0 cores ≡ true = grind (arith, nat_tests, here) in
    rw (there, before) refl

-- a journal of so many notes has room for the queues of each core
room_for_queues : (cores cap burst count : ℕ) → count ≤ 255 → least_room cores cap burst + count ≤ room_of cores cap burst
room_for_queues cores cap burst count few = omega (arith, few)

one_more : (n most : ℕ) → n ≤ most → n + 1 ≤ most + 1
one_more n most few = omega (arith, few)

-- the room is within the limit of a journal
room_within : (cores cap : ℕ) → cores ≤ 16 → cap ≤ 1024 → (cores + 1) * (cap + 1) ≤ 17425
room_within cores cap few small = let most = mul-le-mul (one_more cores 16 few) (one_more cap 1024 small) in omega (arith, most)

pub config_good : (cores cap burst clocks gates : ℕ) (queues : List Entry) → IsSize cores cap → IsBurst burst → ArePlaced (Some (cores, cap)) queues → HasFewQueues queues → clocks ≡ cores → gates ≡ cores →
    IsGood cores cap burst (room_of cores cap burst) queues clocks gates
config_good cores cap burst clocks gates queues size bursts placed few clocks_are gates_are = record {
  numbers = record {
    some_core = size.some_cores;
    cores_most = size.few_cores;
    some_place = size.some_cap;
    places_most = size.small_cap;
    some_poll = bursts.some_poll;
    polls_most = bursts.few_polls;
    room_most = let within = room_within cores cap size.few_cores size.small_cap in let few_polls = bursts.few_polls in omega (arith, within, few_polls);
  };
  named = none_strays cores queues placed;
  each =
      λ core there.
      let same = counted core queues in
      let few_lines = few core in
      record { queues_most = omega (arith, same, few_lines); room_least = rw same (room_for_queues cores cap burst (queue_lines core queues) few_lines) };
  clocks_are = clocks_are;
  gates_are = gates_are;
}

-- so it is never refused
pub never_bad : (cores cap burst room clocks gates : ℕ) (queues : List Entry) (error : StartError) → Starts {J = Script} {T = ℕ} cores cap burst room queues clocks gates (Err error) → error ≡ BadConfig →
    IsGood cores cap burst room queues clocks gates → ⊥
never_bad cores cap burst room clocks gates queues error starts bad good = subst (λ why. Starts {J = Script} {T = ℕ} cores cap burst room queues clocks gates (Err why)) bad starts good
