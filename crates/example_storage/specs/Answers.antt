-- What the work of this program answers, and for how long it sleeps.
use Rattle.std.specs.Prelude.{◌≡◌, ◌≤◌, ℕ, ◌*◌, Bool, true, false, Option, Some, None}
use Rattle.example_storage.specs.declared.work.StoreJob.{StoreJob}
use Rattle.example_storage.specs.declared.work.StoreJob.TheVariants.{Read, Compact, Commit, Lease, GiveBack, Ended}

-- a read answers the value of its key, which is its square, a compaction how many blocks it merged, and a commit its key; a lease answers 0
-- or 1, and so does who gives it back, by what the table of the core has
abbrev pub MayAnswer : StoreJob → ℕ → Type 0
MayAnswer (Read key) out = out ≡ key * key
MayAnswer (Compact blocks left) out = out ≡ blocks
MayAnswer (Commit key is_written) out = out ≡ key
MayAnswer (Lease key time is_held) out = out ≤ 1
MayAnswer (GiveBack key) out = out ≤ 1
MayAnswer Ended out = ⊥

-- whether it has answered
abbrev pub is_ended : StoreJob → Bool
is_ended (Read key) = false
is_ended (Compact blocks left) = false
is_ended (Commit key is_written) = false
is_ended (Lease key time is_held) = false
is_ended (GiveBack key) = false
is_ended Ended = true

-- for how long it sleeps once it is parked, if it does
abbrev pub sleep_of : StoreJob → Option ℕ
sleep_of (Lease key time is_held) = Some time
sleep_of _ = None
