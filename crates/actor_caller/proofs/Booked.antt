-- The outside actor's journal has room for each note that is due of its submissions.
use Rattle.std.proofs.Common.{◌≡◌, ℕ, zero, suc, ◌+◌, ◌*◌, ◌<◌, ◌≤◌, List, [], ◌∷◌, length, Some, refl, sym, ap, arith, get_or}
use Rattle.std.specs.Prelude.{IfOk, IsSome, Result, Ok, Err, slice_get, sum_by}
use Rattle.std.proofs.lemmas.List.Sums.{get_or-le-sum_by, sum_by-cons, sum_by-set}
use Rattle.std.proofs.lemmas.Option.{slice_get_within, get_or_from_slice_get}
use Rattle.base_words.specs.declared.names.JobId.{JobId}
use Rattle.base_words.specs.declared.names.TicketError.{TicketError}
use Rattle.base_words.specs.declared.names.TicketError.TheVariants.{Unknown, Gone, Pending}
use Rattle.base_words.specs.declared.order.Order.{Order}
use Rattle.base_words.specs.declared.order.Outcome.{Outcome}
use Rattle.base_words.specs.declared.order.SendError.{SendError}
use Rattle.base_words.specs.declared.order.SendError.TheVariants.{Closed, Full, Spent, NoCore}
use Rattle.base_words.specs.Journal.{Journal}
use Rattle.base_words.specs.Outstanding.{outstanding_count}
use Rattle.note_journal.specs.Journals.{free_notes}
use Rattle.actor_desk.specs.Held.{at, count_of}
use Rattle.actor_desk.specs.Lanes.{Lane}
use Rattle.actor_desk.specs.declared.entry.Entry.{Entry}
use Rattle.actor_desk.specs.Submissions.{DeskView, Submits}
use Rattle.actor_desk.specs.Spending.{HoldsSome, Spends, booked, due_of}
use Rattle.actor_desk.specs.Tickets.{DetachesTicket, RedeemsTicket}
use Rattle.actor_desk.proofs.Spending.{all_three}
use Rattle.link_ring.proofs.SeatViews.{true-not_false}
use Rattle.link_ring.specs.Ends.{out_at}
use Rattle.actor_caller.specs.Sends.{outstanding_upto}
use Rattle.actor_caller.specs.State.{RuntimeView}
use Rattle.actor_caller.specs.Stored.{IsRuntime}

-- the first counts together
abbrev upto : (ℕ → ℕ) → ℕ → ℕ
upto count zero = 0
upto count (suc n) = upto count n + count n

upto_front : (count : ℕ → ℕ) (n : ℕ) → upto count (suc n) ≡ count 0 + upto (λ i. count (suc i)) n
upto_front count zero = omega arith
upto_front count (suc n) = omega (arith, upto_front count n)

upto_is : {T : Type 0} (notes : Journal T) (n : ℕ) → outstanding_upto notes n ≡ upto (λ core. outstanding_count core notes) n
upto_is notes zero = refl
upto_is notes (suc n) = omega (arith, upto_is notes n)

-- a sum of which each part is at most twice a count
sum_within : {X : Type 0} (f : X → ℕ) (count : ℕ → ℕ) (xs : List X) → ((i : ℕ) (x : X) → slice_get xs i ≡ Some x → f x ≤ 2 * count i) → sum_by f xs ≤ 2 * upto count (length xs)
sum_within f count [] each = omega arith
sum_within f count (x ∷ xs) each =
    let rest = sum_within f (λ i. count (suc i)) xs (λ i y is. each (suc i) y is) in
    omega (arith, sum_by-cons f x xs, each 0 x refl, rest, upto_front count (length xs))

one_more : {A : Type 0} (longer shorter : List A) (x : A) → longer ≡ x ∷ shorter → length longer ≡ length shorter + 1
one_more longer shorter x is = omega (arith, ap length is)

module _ {J T : Type 0} where
  holds_one : (entries : List (ℕ × Entry J T)) (number : ℕ) → IsSome (at entries number) → 0 < count_of entries
  holds_one [] number is = absurd (true-not_false (sym is))
  holds_one (first ∷ rest) number is = omega arith

  -- what is due of a lane is due of all
  due_one : (desk : DeskView J T) (core : ℕ) (lane : Lane J T) → slice_get desk.lanes core ≡ Some lane → due_of lane ≤ sum_by due_of desk.lanes
  due_one desk core lane is =
      omega (arith, get_or-le-sum_by due_of desk.lanes core lane (slice_get_within desk.lanes core lane is), ap due_of (get_or_from_slice_get desk.lanes core lane lane is))

  module _ {fits : Order J → Outcome J T → Type 0} (view : RuntimeView J T) (is : IsRuntime fits view) where
    -- there is room for what an end still shows
    pub room_to_collect : (core : ℕ) → core < view.desk.cores →
        length view.desk.journal.notes + length (out_at core view.ends).out.sent ≤ view.desk.journal.room + (out_at core view.ends).out.got
    room_to_collect core low =
        let has = is.lanes core low in
        omega (arith, is.room_is, due_one view.desk core has.lane has.is, all_three has.lane.entries, has.lane_of.outstanding, has.lane_of.kept)

    -- there is room for a note of what is outstanding
    pub room_held : (name : JobId) → HoldsSome name view.desk → length view.desk.journal.notes < view.desk.journal.room
    room_held name held =
        omega (arith, is.room_is, due_one view.desk name.to held.0 held.1, all_three held.0.entries, holds_one held.0.entries name.number held.2)

    due_few : (core : ℕ) (lane : Lane J T) → slice_get view.desk.lanes core ≡ Some lane → due_of lane ≤ 2 * outstanding_count core view.desk.journal.notes
    due_few core lane at_core =
        let low : core < view.desk.cores = omega (arith, slice_get_within view.desk.lanes core lane at_core, is.lanes_are) in
        let has = is.lanes core low in
        let same : get_or view.desk.lanes core lane ≡ has.lane = get_or_from_slice_get view.desk.lanes core has.lane lane has.is in
        let here : get_or view.desk.lanes core lane ≡ lane = get_or_from_slice_get view.desk.lanes core lane lane at_core in
        omega (arith, all_three has.lane.entries, has.lane_of.outstanding, (is.outside.outs core low).outstanding, ap due_of same, ap due_of here)

    -- no more than two notes are due of each submission that is outstanding
    pub due_all : sum_by due_of view.desk.lanes ≤ 2 * outstanding_upto view.desk.journal.notes view.desk.cores
    due_all =
        let all = sum_within due_of (λ core. outstanding_count core view.desk.journal.notes) view.desk.lanes due_few in
        omega (arith, all, upto_is view.desk.journal.notes view.desk.cores, ap (upto (λ core. outstanding_count core view.desk.journal.notes)) is.lanes_are)

    -- there is room for a send and for what will be due of it
    pub room_to_send : (each : ℕ) → 3 * (outstanding_upto view.desk.journal.notes view.desk.cores + 1) + each * view.desk.cores ≤ free_notes view.desk.journal → booked view.desk + 3 ≤ view.desk.journal.room
    room_to_send each enough = omega (arith, enough, due_all)

  -- a note was made, and so many more are booked with it
  books_more : (core more : ℕ) (old new : DeskView J T) → Spends core more old new → length new.journal.notes ≡ length old.journal.notes + 1 → booked new ≡ booked old + more
  books_more core more old new spends noted =
      let within : core < length old.lanes = slice_get_within old.lanes core spends.lane spends.was in
      let its : get_or old.lanes core spends.lane ≡ spends.lane = get_or_from_slice_get old.lanes core spends.lane spends.lane spends.was in
      omega (arith, noted, spends.due, sum_by-set due_of old.lanes core spends.later spends.lane within, ap due_of its, ap (sum_by due_of) spends.lanes)

  pub books_sent : (core : ℕ) (order : Order J) (old new : DeskView J T) (answer : Result JobId (SendError J)) → Submits core order old answer new → IfOk answer (λ name. Spends core 3 old new) → booked new ≤ booked old + 3
  books_sent core order old new (Ok name) submits spends = omega (arith, books_more core 3 old new spends (one_more new.journal.notes old.journal.notes _ (ap (λ journal. journal.notes) submits.2)))
  books_sent core order old new (Err (Closed back final)) submits spends = omega (arith, ap booked submits.2)
  books_sent core order old new (Err (Full back)) submits spends = omega (arith, ap booked submits.2)
  books_sent core order old new (Err (Spent back)) submits spends = omega (arith, ap booked submits.3)
  books_sent core order old new (Err (NoCore back)) submits spends = absurd submits

  pub books_redeemed : (name : JobId) (old new : DeskView J T) (answer : Result (Outcome J T) TicketError) → RedeemsTicket name old answer new → IfOk answer (λ outcome. Spends name.to 0 old new) → booked new ≡ booked old
  books_redeemed name old new (Ok outcome) redeems spends = omega (arith, books_more name.to 0 old new spends (one_more new.journal.notes old.journal.notes _ (ap (λ journal. journal.notes) redeems.2)))
  books_redeemed name old new (Err error) redeems spends = ap booked redeems.1

  pub books_detached : (name : JobId) (old new : DeskView J T) (answer : Result (Unit {0}) TicketError) → DetachesTicket name old answer new → IfOk answer (λ done. Spends name.to 0 old new) → booked new ≡ booked old
  books_detached name old new (Ok done) detaches spends = omega (arith, books_more name.to 0 old new spends (one_more new.journal.notes old.journal.notes _ (ap (λ journal. journal.notes) detaches.1)))
  books_detached name old new (Err Unknown) detaches spends = ap booked detaches.1
  books_detached name old new (Err Gone) detaches spends = ap booked detaches.1
  books_detached name old new (Err Pending) detaches spends = absurd detaches
