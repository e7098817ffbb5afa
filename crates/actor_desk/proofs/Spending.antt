-- Each note on a submission leaves fewer that can be made before the next outcome is collected.
use Rattle.actor_desk.proofs.Names.{◌≡◌, ℕ, ◌+◌, ◌*◌, ◌<◌, ◌≤◌, List, [], ◌∷◌, length, Some, refl, sym, ap}
use Rattle.actor_desk.proofs.Names.{subst, arith, set, get_or, slice_get, Ok, IsSome, sum_by, sum_by-set}
use Rattle.actor_desk.proofs.Names.{slice_get_within, get_or_from_slice_get, JobId, Order, Outcome, Outward, at}
use Rattle.actor_desk.proofs.Names.{tally, count_of, Adds, Removes, Lane, IsLaneOf, is_collected, is_detached}
use Rattle.actor_desk.proofs.Names.{Detaches, Keeps, Entry, DeskView, is_waiting, left_of, due_of, booked}
use Rattle.actor_desk.proofs.Names.{Spends, HoldsSome}
use Rattle.actor_desk.specs.declared.entry.Entry.TheVariants.{Pending, Collected}

module _ {J T : Type 0} where
  -- each entry waits, is detached or was collected
  pub all_three : (entries : List (ℕ × Entry J T)) → count_of entries ≡ tally entries is_waiting + tally entries is_detached + tally entries is_collected
  all_three [] = refl
  all_three (first ∷ rest) = grind (arith, all_three rest)

  pub within_room : {fits : Order J → Outcome J T → Type 0} (lane : Lane J T) (out : Outward J T) (credited : ℕ) → IsLaneOf fits lane out credited → count_of lane.entries ≤ lane.room
  within_room lane out credited is = omega (arith, is.outstanding, is.sound.room, is.room)

  pub left_within : {fits : Order J → Outcome J T → Type 0} (lane : Lane J T) (cap : ℕ) (out : Outward J T) (credited : ℕ) → IsLaneOf fits lane out credited → out.capacity ≡ cap → left_of lane ≤ 3 * cap
  left_within lane cap out credited is capacity = omega (arith, within_room lane out credited is, all_three lane.entries, is.room, capacity)

  module _ (lane later : Lane J T) (number : ℕ) where
    pub spent_sent : later.room ≡ lane.room → Adds lane.entries later.entries number Pending → count_of lane.entries < lane.room → left_of later < left_of lane
    spent_sent room adds free = omega (arith, free, room, all_three lane.entries, adds.tallies is_waiting, adds.tallies is_detached, adds.tallies is_collected)

    pub due_sent : Adds lane.entries later.entries number Pending → due_of later + 1 ≡ due_of lane + 3
    due_sent adds = omega (arith, adds.tallies is_waiting, adds.tallies is_detached, adds.tallies is_collected)

    pub spent_gone : later.room ≡ lane.room → (outcome : Outcome J T) → Removes lane.entries later.entries number (Collected outcome) → count_of lane.entries ≤ lane.room → left_of later < left_of lane
    spent_gone room outcome removes free = omega (arith, free, room, all_three lane.entries, removes.tallies is_waiting, removes.tallies is_detached, removes.tallies is_collected)

    pub due_gone : (outcome : Outcome J T) → Removes lane.entries later.entries number (Collected outcome) → due_of later + 1 ≡ due_of lane + 0
    due_gone outcome removes = omega (arith, removes.tallies is_waiting, removes.tallies is_detached, removes.tallies is_collected)

    -- an outcome is collected: it is kept, or dropped where the submission is detached
    pub due_collected : (outcome : Outcome J T) (credited after : ℕ) → Keeps lane.entries later.entries number outcome credited after → due_of later + 1 ≡ due_of lane
    due_collected outcome credited after keeps = grind arith

    -- it was outstanding
    pub held_gone : (outcome : Outcome J T) → Removes lane.entries later.entries number (Collected outcome) → IsSome (at lane.entries number)
    held_gone outcome removes = subst IsSome (sym removes.was) refl

  module _ (lane later : Lane J T) (number credited after : ℕ) (done : Unit {0}) (detaches : Detaches lane later number credited after (Ok done)) where
    pub spent_detached : count_of lane.entries ≤ lane.room → left_of later < left_of lane
    spent_detached free = grind (arith, all_three lane.entries)

    pub due_detached : due_of later + 1 ≡ due_of lane + 0
    due_detached = grind arith

    -- it was outstanding
    pub held_detached : IsSome (at lane.entries number)
    held_detached = grind arith

  -- there is room to note what becomes of a submission that is outstanding
  pub may_note : {desk now : DeskView J T} → desk ≡ now → {id name : JobId} → id ≡ name → (HoldsSome name now → length now.journal.notes < now.journal.room) → {lane : Lane J T} → slice_get desk.lanes id.to ≡ Some lane →
      IsSome (at lane.entries id.number) → length desk.journal.notes < desk.journal.room
  may_note {desk} {now} desk_is {id} {name} is room {lane} there held =
      subst (λ (desk : DeskView J T). HoldsSome name desk → length desk.journal.notes < desk.journal.room) (sym desk_is) room (subst (λ name. HoldsSome name desk) is (lane, there, held))

  -- what was noted of a submission that is outstanding was due
  pub booked_noted : (desk : DeskView J T) (core : ℕ) (lane later : Lane J T) → slice_get desk.lanes core ≡ Some lane → due_of later + 1 ≡ due_of lane →
      (now : DeskView J T) → length now.journal.notes ≡ length desk.journal.notes + 1 → now.lanes ≡ set desk.lanes core later → booked now ≡ booked desk
  booked_noted desk core lane later was due now noted lanes =
      let within : core < length desk.lanes = slice_get_within desk.lanes core lane was in
      let its : get_or desk.lanes core lane ≡ lane = get_or_from_slice_get desk.lanes core lane lane was in
      let swapped : sum_by due_of (set desk.lanes core later) + due_of (get_or desk.lanes core lane) ≡ sum_by due_of desk.lanes + due_of later = sum_by-set due_of desk.lanes core later lane within in
      omega (arith, noted, due, swapped, ap due_of its, ap (sum_by due_of) lanes)

  -- what a call knows of its own names, it ensures of its caller's
  pub carried_spends : (desk now new : DeskView J T) → desk ≡ now → (core to : ℕ) → core ≡ to → (lane later : Lane J T) → slice_get desk.lanes core ≡ Some lane → new.lanes ≡ set desk.lanes core later → left_of later < left_of lane →
      (more : ℕ) → due_of later + 1 ≡ due_of lane + more → Spends to more now new
  carried_spends desk now new desk_is core to core_is lane later was lanes fewer more due =
      subst (λ now. Spends to more now new) desk_is (subst (λ core. Spends core more desk new) core_is (record { lane = lane; later = later; was = was; lanes = lanes; fewer = fewer; due = due }))
