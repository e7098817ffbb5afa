-- A world with its queues, before the first event.
use Rattle.std.proofs.Common.{◌≡◌, ◌≤◌, ℕ, suc, ◌+◌, ◌*◌, List, [], ◌∷◌, length, refl, sym, ap, ◌∙◌, subst, arith, All, get_or}
use Rattle.base_words.specs.Commands.{created_count}
use Rattle.base_words.specs.Commands.{IsOpening}
use Rattle.base_words.specs.Journal.{Journal}
use Rattle.base_words.specs.declared.note.Note.TheVariants.{Created}
use Rattle.fairexec_run.specs.Counts.{sent_count, delivered_count, delivered_in}
use Rattle.fairexec_script.specs.declared.event.ScriptEvent.{ScriptEvent}
use Rattle.model_world.specs.Opening.{IsFresh}
use Rattle.model_world.specs.State.{journal_at}
use Rattle.fairexec_script.specs.Limits.{HasFewQueues, IsEventOf, IsSize, IsBurst}
use Rattle.fairexec_run.specs.Rooms.{MayMake, IsRoomy, IsOpened}
use Rattle.fairexec_run.specs.Transcripts.{ScriptWorld, script_room, with_queue, with_queues}

-- in a fresh world all queues of a script may be made
pub fresh_may_make : (cores cap burst room : ℕ) (queues : List (ℕ × ℕ)) (world : ScriptWorld) → IsFresh cores cap burst room world → HasFewQueues queues → MayMake queues world
fresh_may_make cores cap burst room queues world fresh few = record {
  unbegun = record { lists = fresh.lists; no_order = fresh.no_order; opening = λ actor. subst IsOpening (sym (fresh.no_note actor)) tt };
  notes = λ core. let none : length (journal_at core world) ≡ 0 = ap length (fresh.no_note core) in let most = few core in omega arith;
  last = λ core. let none : created_count (journal_at core world) ≡ 0 = ap created_count (fresh.no_note core) in let most = few core in omega arith;
}

-- before the first event no order was delivered, and none was sent
none_told : (journal : Journal ℕ) → IsOpening journal → delivered_count journal + sent_count journal ≤ 0
none_told [] opening = omega arith
none_told (Created queue weight ∷ before) opening = let none = none_told before opening in omega arith
none_told (_ ∷ before) opening = absurd opening

none_delivered : (journals : List (Journal ℕ)) → ((actor : ℕ) → IsOpening (get_or journals actor [])) → delivered_in journals ≤ 0
none_delivered [] opening = omega arith
none_delivered (journal ∷ journals) opening =
    let first = none_told journal (opening 0) in
    let later = none_delivered journals (λ actor. opening (suc actor)) in
    omega arith

-- queues are no part of a world's size
pub queues_cores : (queues : List (ℕ × ℕ)) (world : ScriptWorld) → (with_queues queues world).cores ≡ world.cores
queues_cores [] world = refl
queues_cores (queue ∷ queues) world = queues_cores queues (with_queue queue world)

pub queues_cap : (queues : List (ℕ × ℕ)) (world : ScriptWorld) → (with_queues queues world).cap ≡ world.cap
queues_cap [] world = refl
queues_cap (queue ∷ queues) world = queues_cap queues (with_queue queue world)

queues_burst : (queues : List (ℕ × ℕ)) (world : ScriptWorld) → (with_queues queues world).burst ≡ world.burst
queues_burst [] world = refl
queues_burst (queue ∷ queues) world = queues_burst queues (with_queue queue world)

queues_room : (queues : List (ℕ × ℕ)) (world : ScriptWorld) → (with_queues queues world).room ≡ world.room
queues_room [] world = refl
queues_room (queue ∷ queues) world = queues_room queues (with_queue queue world)

-- the same world, by what its events and its queues are
pub opened_as : (cores cap burst count events : ℕ) (made queues : List (ℕ × ℕ)) (world : ScriptWorld) → IsOpened cores cap burst count made world → count ≡ events → made ≡ queues → IsOpened cores cap burst events queues world
opened_as cores cap burst count events made queues world is counted same =
    subst (λ number. IsOpened cores cap burst number queues world) counted (subst (λ all. IsOpened cores cap burst count all world) same is)

module _ (cores cap burst events : ℕ) (queues : List (ℕ × ℕ)) (world : ScriptWorld) (is : IsOpened cores cap burst events queues world) where
  pub opened_cores : world.cores ≡ cores
  opened_cores = ap (λ w. w.cores) is.made ∙ queues_cores queues is.empty ∙ (is.fresh).cores_are

  pub opened_cap : world.cap ≡ cap
  opened_cap = ap (λ w. w.cap) is.made ∙ queues_cap queues is.empty ∙ (is.fresh).cap_is

  pub opened_burst : world.burst ≡ burst
  opened_burst = ap (λ w. w.burst) is.made ∙ queues_burst queues is.empty ∙ (is.fresh).burst_is

  opened_room : world.room ≡ script_room world.cores world.cap world.burst events
  opened_room =
      ap (λ w. w.room) is.made ∙ queues_room queues is.empty ∙ (is.fresh).room_is
      ∙ ap (λ size. script_room size cap burst events) (sym opened_cores) ∙ ap (λ size. script_room world.cores size burst events) (sym opened_cap)
      ∙ ap (λ size. script_room world.cores world.cap size events) (sym opened_burst)

  -- its journals have their notes alone
  pub opened_roomy : IsSize cores cap → IsBurst burst → IsRoomy world.cores world.cap world.burst events world
  opened_roomy size bursts = record {
    cores_are = refl;
    cap_is = refl;
    burst_is = refl;
    size = subst (λ count. IsSize count world.cap) (sym opened_cores) (subst (λ count. IsSize cores count) (sym opened_cap) size);
    bursts = subst IsBurst (sym opened_burst) bursts;
    short =
        λ form actor.
        let room : world.room ≡ 6 * events + 256 + 3 * world.cores * world.cap + 4 = rw form at opened_room in
        let few = (is.may).notes actor in
        let none = none_told (journal_at actor world) (((is.may).unbegun).opening actor) in
        omega arith;
    paid =
        λ form actor.
        let room : world.room ≡ (3 * world.burst + 4) * events + 256 + 5 * world.cores * world.cap + 2 * world.burst + 2 = rw form at opened_room in
        let few = (is.may).notes actor in
        let none = none_delivered world.journals (((is.may).unbegun).opening) in
        omega arith;
  }

  pub opened_events : (steps : List ScriptEvent) → All (IsEventOf cores) steps → All (IsEventOf world.cores) steps
  opened_events steps all = subst (λ size. All (IsEventOf size) steps) (sym opened_cores) all
