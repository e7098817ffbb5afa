-- The slip of a queue after its turn: in the timeline if a job waits in the queue, else with the queue.
use Rattle.std.specs.Prelude.{ℕ, Bool, true, false, List, slice_set}
use Rattle.base_words.specs.declared.names.Key.{Key}
use Rattle.core_timeline.specs.Rising.{inserted}
use Rattle.core_queues.specs.Slips.{SlippedView}

-- a queue in which a job waits is listed again, at this virtual runtime
abbrev pub keys_after : Bool → ℕ → ℕ → List Key → List Key
keys_after true vr queue keys = inserted (record { vr = vr; queue = queue }) keys
keys_after false vr queue keys = keys

-- its slip, which had come back, goes there
abbrev pub slips_after : Bool → ℕ → List Bool → List Bool
slips_after true queue slips = slice_set slips queue false
slips_after false queue slips = slips

abbrev pub relisted : {J : Type 0} → Bool → ℕ → SlippedView J → SlippedView J
relisted any queue view = record view { slips = slips_after any queue (slice_set view.slips queue true) }
