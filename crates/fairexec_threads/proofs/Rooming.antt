-- A script's orders have room in the outside journal and on their links.
use Rattle.std.proofs.Common.{◌≡◌, ℕ, zero, suc, ◌+◌, ◌-◌, ◌*◌, ◌≤◌, length, arith}
use Rattle.std.proofs.Math.Nat.{mul-le-mul}
use Rattle.std.proofs.lemmas.List.Sums.{count_by-le-length}
use Rattle.base_words.specs.Filters.{accepted_orders}
use Rattle.base_words.specs.Journal.{Journal}
use Rattle.base_words.specs.Outstanding.{is_outstanding, outstanding_count}
use Rattle.base_jobs.specs.Scripts.{Script}
use Rattle.note_journal.specs.Journals.{free_notes}
use Rattle.run_runtime.specs.Sends.{outstanding_upto, room_left}
use Rattle.run_runtime.specs.State.{RuntimeView}
use Rattle.fairexec_threads.specs.Counting.{HasPlace}
use Rattle.fairexec_threads.specs.Accepted.{room_of}
use Rattle.fairexec_script.specs.TextLimits.{most_lines}
use Rattle.base_words.specs.Limits.{most_cores}

-- no more submissions are outstanding than were sent
pub outstanding_few : (core : ℕ) (notes : Journal ℕ) → outstanding_count core notes ≤ length (accepted_orders core notes)
outstanding_few core notes = count_by-le-length (λ sent. is_outstanding sent.0 notes) (accepted_orders core notes)

-- on all links together there are at most as many as their capacities
upto_few : (count cap : ℕ) (notes : Journal ℕ) → ((core : ℕ) → length (accepted_orders core notes) ≤ cap) → outstanding_upto notes count ≤ count * cap
upto_few zero cap notes each = omega arith
upto_few (suc core) cap notes each =
    let before = upto_few core cap notes each in let here = outstanding_few core notes in let most = each core in
    omega (arith, before, here, most)

-- sixteen links of 1024 places
places_few : (cores cap sum : ℕ) → cores ≤ 16 → cap ≤ 1024 → sum ≤ cores * cap → sum ≤ 16384
places_few cores cap sum few small sum_few = let most = mul-le-mul few small in omega (arith, most, sum_few)

-- the journal is long enough
room_enough : (each cores cap burst notes outstanding room : ℕ) → each ≤ 3 → cores ≤ 16 → notes ≤ most_lines + most_cores - 1 → outstanding ≤ 16384 → room ≡ room_of cores cap burst → 3 * (outstanding + 1) + each * cores ≤ room - notes
room_enough each cores cap burst notes outstanding room some few short less is = let most = mul-le-mul some few in omega (arith, most, short, less, is)

pub has_room : (each core : ℕ) (view : RuntimeView Script ℕ) → each ≤ 3 → HasPlace core view → room_left each view ≤ free_notes view.desk.journal
has_room each core view some place =
    room_enough each view.desk.cores view.desk.cap view.desk.burst (length view.desk.journal.notes) (outstanding_upto view.desk.journal.notes view.desk.cores) view.desk.journal.room some place.of_script.few_cores place.notes
    (places_few view.desk.cores view.desk.cap _ place.of_script.few_cores place.of_script.small_cap (upto_few view.desk.cores view.desk.cap view.desk.journal.notes place.each))
    place.of_script.room
