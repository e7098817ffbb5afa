-- A step of one core: what it is in its world.
use Rattle.model_world.proofs.Words.{◌≡◌, ◌≢◌, ℕ, ◌+◌, ◌<◌, ◌≤◌, List, [], ◌++◌, length, sym, ◌∙◌, ap, subst, arith, get_or, set, get_or-set_same}
use Rattle.model_world.proofs.Words.{get_or-set_other, length-set, get_or_default, set-get_or, noted, map, Note, Meaning, Whole, inward_of, RecordedView}
use Rattle.model_world.proofs.Words.{IsRecorded, desk_of, Fits, IsInOf, journal_at, link_at, Parts, core_at, desk_at, world_of, IsWorld, opened_beside}
use Rattle.model_world.proofs.Words.{with_notes, IsSameSeat, ChangesLink, notes_at, seat_of, WorldView}
use Rattle.actor_desk.specs.Ends.{KeepsOuts}
use Rattle.model_world.proofs.Desks.{desk_at-core, desks-core, journal_at-world, journals-noted}
use Rattle.model_world.proofs.LinkSteps.{OnlyReceived, OnlySent, IsSenderOn, sender_stays, received-same, sent-same, each_link, other_link}
use Rattle.model_world.proofs.WorldAfter.{IsStep, world_after, world_sender}

module _ {J T : Type 0} {meaning : Meaning J T} {old : Parts J T}
    (world : IsWorld meaning old) (core : ℕ) (there : core < old.cores) where
  within : core < length old.inside
  within = omega (arith, there, world.all_there.cores_are)

  -- the desk of the core says what the core does
  pub desk_is : desk_at core old ≡ desk_of (core_at core old)
  desk_is = desk_at-core old core within

  pub notes_are : notes_at core old ≡ (core_at core old).journal.notes
  notes_are = ap (λ desk. desk.journal.notes) desk_is

  pub journal_is : journal_at core (world_of old) ≡ (core_at core old).journal.notes
  journal_is = journal_at-world old core ∙ notes_are

  pub room_is : (core_at core old).journal.room ≡ old.room
  room_is = sym (ap (λ desk. desk.journal.room) desk_is) ∙ ap (λ desk. desk.journal.room) (world.all_there.seats_are core (omega (arith, there)))

  -- no note of it was passed on
  pub whole_is : (core_at core old).journal.passed ≡ []
  whole_is = sym (ap (λ desk. desk.journal.passed) desk_is) ∙ ap (λ desk. desk.journal.passed) (world.all_there.seats_are core (omega (arith, there)))

  pub core_cap : (core_at core old).cap ≡ old.cap
  core_cap = ap (λ desk. desk.cap) (sym desk_is ∙ world.all_there.seats_are core (omega (arith, there)))

  pub burst_is : (core_at core old).core.bursts.burst ≡ old.burst
  burst_is = ap (λ desk. desk.burst) (sym desk_is ∙ world.all_there.seats_are core (omega (arith, there)))

  pub cores_are : (core_at core old).core.cores ≡ old.cores
  cores_are = ap (λ desk. desk.cores) (sym desk_is ∙ world.all_there.seats_are core (omega (arith, there)))

  pub number_is : (core_at core old).core.core ≡ core
  number_is = ap (λ desk. desk.actor) (sym desk_is ∙ world.all_there.seats_are core (omega (arith, there)))

  -- the core that a call borrows is the one of this number
  pub viewed : {place : ℕ} (view : RecordedView J T) → place ≡ core → view ≡ get_or old.inside place view → view ≡ core_at core old
  viewed view is read = read ∙ (ap (λ at. get_or old.inside at view) is ∙ get_or_default old.inside core view (opened_beside 0 0 0 0 0) within)

  -- notes that have room in the world have room there
  pub free : {seen : WorldView J T} {view : RecordedView J T} → world_of old ≡ seen → view ≡ core_at core old → (more : ℕ) →
      length (journal_at core seen) + more ≤ seen.room → length view.journal.notes + more ≤ view.journal.room
  free world_is view_is more room =
      omega (
        arith,
        room,
        ap (λ world. length (journal_at core world)) world_is,
        ap (λ world. world.room) world_is,
        ap length journal_is,
        room_is,
        ap (λ view. length view.journal.notes) view_is,
        ap (λ view. view.journal.room) view_is,
      )

  -- the ends on which the core sends are beside what it says
  pub core_sender : (to : ℕ) → to < old.cores → IsSenderOn (Fits meaning) to (desk_of (core_at core old)) (link_at core to old.links)
  core_sender to known = subst (λ desk. IsSenderOn (Fits meaning) to desk (link_at core to old.links)) desk_is (world_sender world core to (omega (arith, there)) known)

  module _ (now : RecordedView J T) (links : List (List (Whole J T))) where
    abbrev pub parts_now : Parts J T
    parts_now = record old { inside = set old.inside core now; links = links }

    -- what the call says of the core afterwards, and of the links
    pub record DidStep : Type 0 where
      pub recorded : IsRecorded meaning now
      pub seat : IsSameSeat (core_at core old) now
      pub rows_are : length links ≡ length old.links
      pub links_are : (sender : ℕ) → length (get_or links sender []) ≡ length (get_or old.links sender [])
      pub received : (sender to : ℕ) → sender ≢ core → OnlyReceived (link_at sender to old.links) (link_at sender to links)
      pub sent : (sender to : ℕ) → to ≢ core → OnlySent (link_at sender to old.links) (link_at sender to links)
      pub senders : (to : ℕ) → to < old.cores → IsSenderOn (Fits meaning) to (desk_of now) (link_at core to links)
      pub ins : (sender : ℕ) → sender ≤ old.cores → IsInOf sender now (inward_of (link_at sender core links))

    core_now : core_at core parts_now ≡ now
    core_now = get_or-set_same old.inside core now (opened_beside 0 0 0 0 0) within

    seat_is : IsSameSeat (core_at core old) now → desk_of now ≡ seat_of core (desk_of now) old
    seat_is seat =
        let was = sym desk_is ∙ world.all_there.seats_are core (omega (arith, there)) in
        λ i. record {
          actor = (seat.number ∙ ap (λ desk. desk.actor) was) i;
          cores = (seat.cores ∙ ap (λ desk. desk.cores) was) i;
          cap = (seat.cap ∙ ap (λ desk. desk.cap) was) i;
          burst = (seat.burst ∙ ap (λ desk. desk.burst) was) i;
          journal = record { notes = now.journal.notes; passed = (seat.passed ∙ ap (λ desk. desk.journal.passed) was) i; room = (seat.room ∙ ap (λ desk. desk.journal.room) was) i };
          lanes = now.lanes;
        }

    step_of : DidStep → IsStep world core (set old.inside core now) old.outside links (desk_of now)
    step_of did = record {
      there = omega (arith, there);
      inside_are = length-set old.inside core now;
      rows_are = did.rows_are;
      links_are = did.links_are;
      desks_are = desks-core old core now within;
      seat = seat_is did.seat;
      other_cores = λ other away. get_or-set_other old.inside core other now (opened_beside 0 0 0 0 0) away;
      recorded = λ known. subst (IsRecorded meaning) (sym core_now) did.recorded;
      written = world.outside;
      received = did.received;
      sent = did.sent;
      senders = did.senders;
      ins = λ sender known core_known. subst (λ view. IsInOf sender view (inward_of (link_at sender core links))) (sym core_now) (did.ins sender known);
    }

    -- the world is one again
    pub rests : DidStep → IsWorld meaning parts_now
    rests did = world_after world core (set old.inside core now) old.outside links (desk_of now) (step_of did)

    -- what a call that sends nothing says: at most one link to the core changed, in what its receiver does
    pub record DidReceive : Type 0 where
      pub recorded : IsRecorded meaning now
      pub seat : IsSameSeat (core_at core old) now
      pub outs : KeepsOuts (desk_of (core_at core old)) (desk_of now)
      pub lanes : now.lanes ≡ (core_at core old).lanes
      pub sender : ℕ
      pub link : Whole J T
      pub changes : ChangesLink old.links links sender core link
      pub received : OnlyReceived (link_at sender core old.links) link
      pub ins : (from : ℕ) → from ≤ old.cores → IsInOf from now (inward_of (link_at from core links))

    pub receives : DidReceive → IsWorld meaning parts_now
    receives did = rests (record {
      recorded = did.recorded;
      seat = did.seat;
      rows_are = did.changes.same_rows;
      links_are = did.changes.same_cores;
      received = λ from to away. all from to;
      sent = λ from to away. other_link OnlySent sent-same old.links links did.sender core did.link did.changes from to (λ one two. away two);
      senders = λ to known. sender_stays did.lanes (all core to) (λ is. (did.outs to).each _ _ is) (core_sender to known);
      ins = did.ins;
    })
      where
        all : (from to : ℕ) → OnlyReceived (link_at from to old.links) (link_at from to links)
        all = each_link OnlyReceived received-same old.links links did.sender core did.link did.changes did.received

    -- its journal is longer by these notes
    pub journals_now : (notes : List (Note T)) → now.journal ≡ with_notes notes (core_at core old).journal →
        (world_of parts_now).journals ≡ set (world_of old).journals core (notes ++ journal_at core (world_of old))
    journals_now notes longer =
        ap (map (λ desk. desk.journal.notes)) (desks-core old core now within)
        ∙ journals-noted old core (desk_of now) notes (ap (λ journal. journal.notes) longer ∙ ap (λ before. notes ++ before) (sym notes_are))

    -- where no order was sent, its world is longer by these notes
    pub core_noted : (notes : List (Note T)) → now.journal ≡ with_notes notes (core_at core old).journal → (world_of parts_now).sent ≡ (world_of old).sent →
        world_of parts_now ≡ noted core notes (world_of old)
    core_noted notes longer same_lists = λ i. record { cores = old.cores; cap = old.cap; burst = old.burst; room = old.room; journals = journals_now notes longer i; sent = same_lists i }

    -- and where the core is as it was, so is its world
    pub core_unchanged : now ≡ core_at core old → (world_of parts_now).sent ≡ (world_of old).sent → world_of parts_now ≡ world_of old
    core_unchanged is same_lists =
        core_noted [] (ap (λ view. view.journal) is) same_lists
        ∙ (λ i. record (world_of old) { journals = set-get_or (world_of old).journals core [] i })
