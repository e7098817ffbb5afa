-- Counting over a list from its front.
use Rattle.std.proofs.Common.{◌≡◌, ◌≢◌, ◌==◌, ℕ, ◌+◌, ◌<◌, ◌≤◌, Bool, if◌then◌else◌, nat_lt, List, length, drop, get_or, arith, ap, suc}
use Rattle.std.proofs.Math.Seq.{drop-cons}
use Rattle.std.proofs.lemmas.Bool.{eq-eqb, ne_eqb, le-ltb, lt-ltb}
use Rattle.std.proofs.lemmas.List.{drop_all}
use Rattle.base_words.specs.Work.{number_if}
use Rattle.run_config.specs.Configs.{Entry, queues_of, strays}

module _ (queues : List Entry) (index : ℕ) (none : Entry) (low : index < length queues) where
  first_of : (core : ℕ) → queues_of core (drop index queues) ≡ number_if ((get_or queues index none).0 == core) + queues_of core (drop (suc index) queues)
  first_of core = ap (queues_of core) (drop-cons queues index none low)

  first_stray : (cores : ℕ) → strays cores (drop index queues) ≡ (if nat_lt (get_or queues index none).0 cores then 0 else 1) + strays cores (drop (suc index) queues)
  first_stray cores = ap (strays cores) (drop-cons queues index none low)

  -- the next queue is of this core, or of another
  pub queues_here : (core : ℕ) → (get_or queues index none).0 ≡ core → queues_of core (drop index queues) ≡ 1 + queues_of core (drop (suc index) queues)
  queues_here core is =
      let one : number_if ((get_or queues index none).0 == core) ≡ 1 = ap number_if (eq-eqb (get_or queues index none).0 core is) in
      omega (arith, first_of core, one)

  pub queues_away : (core : ℕ) → (get_or queues index none).0 ≢ core → queues_of core (drop index queues) ≡ queues_of core (drop (suc index) queues)
  queues_away core other =
      let none_more : number_if ((get_or queues index none).0 == core) ≡ 0 = ap number_if (ne_eqb (get_or queues index none).0 core other) in
      omega (arith, first_of core, none_more)

  -- the next queue is of no core, or of one
  pub stray_here : (cores : ℕ) → cores ≤ (get_or queues index none).0 → strays cores (drop index queues) ≡ 1 + strays cores (drop (suc index) queues)
  stray_here cores none_such =
      let one : ◌≡◌ {A = ℕ} (if nat_lt (get_or queues index none).0 cores then 0 else 1) 1
      = ap {B = ℕ} (λ (test : Bool). if test then 0 else 1) (le-ltb (get_or queues index none).0 cores none_such) in
      omega (arith, first_stray cores, one)

  pub stray_away : (cores : ℕ) → (get_or queues index none).0 < cores → strays cores (drop index queues) ≡ strays cores (drop (suc index) queues)
  stray_away cores there =
      let none_more : ◌≡◌ {A = ℕ} (if nat_lt (get_or queues index none).0 cores then 0 else 1) 0
      = ap {B = ℕ} (λ (test : Bool). if test then 0 else 1) (lt-ltb (get_or queues index none).0 cores there) in
      omega (arith, first_stray cores, none_more)

-- nothing is left to count
pub queues_none : (core : ℕ) (queues : List Entry) (index : ℕ) → length queues ≤ index → queues_of core (drop index queues) ≡ 0
queues_none core queues index behind = ap (queues_of core) (drop_all index queues behind)

pub strays_none : (cores : ℕ) (queues : List Entry) (index : ℕ) → length queues ≤ index → strays cores (drop index queues) ≡ 0
strays_none cores queues index behind = ap (strays cores) (drop_all index queues behind)
