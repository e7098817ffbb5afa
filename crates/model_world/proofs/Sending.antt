-- A world at rest stays one as the outside actor does something on the link to a core.
use Rattle.model_world.proofs.Words.{◌≡◌, ◌≢◌, ℕ, ◌+◌, ◌<◌, ◌≤◌, List, ◌++◌, length, refl, sym, ◌∙◌, ap, subst, arith, set, map, set-get_or, Note, Order}
use Rattle.model_world.proofs.Words.{Journal, Meaning, Whole, Fits, out_of, [], WorldView, journal_at, noted, link_at, Parts, desks, desk_at, world_of, IsWorld}
use Rattle.model_world.proofs.Words.{Outcome, DeskView, opened_desk, StaysBeside, ChangesLink, seat_of}
use Rattle.model_world.proofs.Desks.{desk_at-outside, desks-outside, journal_at-world, journals-noted}
use Rattle.model_world.proofs.Places.{by_place}
use Rattle.model_world.proofs.LinkRows.{with_link, same_sent, ChangesLink-with_link}
use Rattle.model_world.proofs.LinkSteps.{OnlyReceived, OnlySent, IsSenderOn, received-same, sent-same, each_link, other_link}
use Rattle.model_world.proofs.WorldAfter.{world_after, world_sender}

-- what a call on the sender's end says of its desk, and of the link
pub record IsDoneOn {J T : Type 0} (fits : Order J → Outcome J T → Type 0) (to : ℕ) (desk : DeskView J T) (link : Whole J T) (now : DeskView J T) (after : Whole J T) : Type 0 where
  pub only_sent : OnlySent link after
  pub stays : StaysBeside fits to desk now (out_of after) after.credited

-- a sender's desk and its link to a core, as their world has them
pub record IsActing {J T : Type 0} (old : Parts J T) (sender to : ℕ) (desk : DeskView J T) (link : Whole J T) : Type 0 where
  pub there : sender ≤ old.cores
  pub to_there : to < old.cores
  pub desk_is : desk ≡ desk_at sender old
  pub link_is : link ≡ link_at sender to old.links

module _ {J T : Type 0} {meaning : Meaning J T} {old : Parts J T}
    {sender to : ℕ} {desk : DeskView J T} {link : Whole J T} (world : IsWorld meaning old) (acting : IsActing old sender to desk link) where
  -- the link's end is beside the sender
  pub its_sender : IsSenderOn (Fits meaning) to desk link
  its_sender =
      subst (IsSenderOn (Fits meaning) to desk) (sym acting.link_is)
      (subst (λ at. IsSenderOn (Fits meaning) to at (link_at sender to old.links)) (sym acting.desk_is) (world_sender world sender to acting.there acting.to_there))

  pub its_seat : desk ≡ seat_of sender (desk_at sender old) old
  its_seat = acting.desk_is ∙ world.all_there.seats_are sender acting.there

  pub its_cap : desk.cap ≡ old.cap
  its_cap = ap (λ desk. desk.cap) its_seat

  pub its_notes : journal_at sender (world_of old) ≡ desk.journal.notes
  its_notes = journal_at-world old sender ∙ ap (λ desk. desk.journal.notes) (sym acting.desk_is)

  -- notes that have room in the world have room there
  pub its_room : {seen : WorldView J T} → world_of old ≡ seen → (more : ℕ) → length (journal_at sender seen) + more ≤ seen.room → length desk.journal.notes + more ≤ desk.journal.room
  its_room world_is more room =
      omega (arith, room, ap length its_notes, ap (λ world. length (journal_at sender world)) world_is, ap (λ world. world.room) world_is, ap (λ desk. desk.journal.room) its_seat)

  -- what its world sees where the sender's desk became `now` and its link `after`
  module _ (now : DeskView J T) (after : Whole J T) {journals : List (Journal T)}
      (journals_are : journals ≡ map (λ desk. desk.journal.notes) (set (desks old) sender now)) where
    abbrev pub later : WorldView J T
    later = record (world_of old) { journals = journals; sent = map (map (λ link. link.sent)) (with_link old.links sender to after) }

    pub journals_noted : (notes : List (Note T)) → now.journal.notes ≡ notes ++ desk.journal.notes → journals ≡ (noted sender notes (world_of old)).journals
    journals_noted notes longer =
        journals_are ∙ journals-noted old sender now notes (longer ∙ ap (λ desk. notes ++ desk.journal.notes) acting.desk_is)

    same_lists : after.sent ≡ link.sent → map (map (λ link. link.sent)) (with_link old.links sender to after) ≡ (world_of old).sent
    same_lists same_orders = same_sent old.links sender to after (same_orders ∙ ap (λ link. link.sent) acting.link_is)

    -- the sender's journal is longer by these notes
    pub noted_now : (notes : List (Note T)) → now.journal.notes ≡ notes ++ desk.journal.notes → after.sent ≡ link.sent → later ≡ noted sender notes (world_of old)
    noted_now notes longer same_orders = λ i. record (world_of old) { journals = journals_noted notes longer i; sent = same_lists same_orders i }

    -- nothing changed
    pub same_now : now ≡ desk → after.sent ≡ link.sent → later ≡ world_of old
    same_now is same_orders =
        let same_desks = ap (set (desks old) sender) (is ∙ acting.desk_is) ∙ set-get_or (desks old) sender (opened_desk 0 0 0 0 0) in
        let same_journals = journals_are ∙ ap (map (λ desk. desk.journal.notes)) same_desks in
        λ i. record (world_of old) { journals = same_journals i; sent = same_lists same_orders i }

  module _ {now : DeskView J T} {after : Whole J T} (did : IsDoneOn (Fits meaning) to desk link now after) where
    pub done_there : IsDoneOn (Fits meaning) to (desk_at sender old) (link_at sender to old.links) now after
    done_there =
        subst (λ at. IsDoneOn (Fits meaning) to at (link_at sender to old.links) now after) acting.desk_is
        (subst (λ at. IsDoneOn (Fits meaning) to desk at now after) acting.link_is did)

    abbrev pub links : List (List (Whole J T))
    links = with_link old.links sender to after

    pub changes : ChangesLink old.links links sender to after
    changes =
        ChangesLink-with_link old.links sender to after (omega (arith, world.all_there.rows_are, acting.there))
        (omega (arith, world.all_there.links_are sender acting.there, acting.to_there))

    pub all_sent : (r e : ℕ) → OnlySent (link_at r e old.links) (link_at r e links)
    all_sent = each_link OnlySent sent-same old.links links sender to after changes done_there.only_sent

    pub others_received : (r e : ℕ) → r ≢ sender → OnlyReceived (link_at r e old.links) (link_at r e links)
    others_received r e away = other_link OnlyReceived received-same old.links links sender to after changes r e (λ one two. away one)

    pub senders_sent : (e : ℕ) → e < old.cores → IsSenderOn (Fits meaning) e now (link_at sender e links)
    senders_sent =
        by_place (λ at. at < old.cores → IsSenderOn (Fits meaning) at now (link_at sender at links)) to
        (λ known. subst (IsSenderOn (Fits meaning) to now) (sym changes.changed) (record { out = done_there.stays.beside; lane = done_there.stays.lane }))
        (λ e away known.
        let has = world_sender world sender e acting.there known in
        subst (IsSenderOn (Fits meaning) e now) (sym (changes.others sender e (λ one two. away two))) (record {
          out = (done_there.stays.others e away).each _ _ has.out;
          lane = record { lane = has.lane.lane; is = done_there.stays.lanes e away ∙ has.lane.is; lane_of = has.lane.lane_of };
        }))

-- the outside actor's desk, and the room that it has
module _ {J T : Type 0} {meaning : Meaning J T} {old : Parts J T}
    (world : IsWorld meaning old) (sender : ℕ) (is_last : sender ≡ old.cores) where
  pub outside_desk : desk_at sender old ≡ old.outside
  outside_desk = desk_at-outside old sender (world.all_there.cores_are ∙ sym is_last)

  pub outside_notes : journal_at sender (world_of old) ≡ old.outside.journal.notes
  outside_notes = journal_at-world old sender ∙ ap (λ desk. desk.journal.notes) outside_desk

  pub outside_whole : old.outside.journal.passed ≡ []
  outside_whole = sym (ap (λ desk. desk.journal.passed) outside_desk) ∙ ap (λ desk. desk.journal.passed) (world.all_there.seats_are sender (omega (arith, is_last)))

  pub outside_room : old.outside.journal.room ≡ old.room
  outside_room = sym (ap (λ desk. desk.journal.room) outside_desk) ∙ ap (λ desk. desk.journal.room) (world.all_there.seats_are sender (omega (arith, is_last)))

-- the outside actor acts on a link that it was lent
pub outside_acting : {J T : Type 0} {meaning : Meaning J T} {old : Parts J T} {sender to : ℕ} {link : Whole J T}
    (world : IsWorld meaning old) → sender ≡ old.cores → to < old.cores → link ≡ link_at sender to old.links → IsActing old sender to old.outside link
outside_acting {sender = sender} world is_last to_there link_is =
    record { there = omega (arith, is_last); to_there = to_there; desk_is = sym (outside_desk world sender is_last); link_is = link_is }

module _ {J T : Type 0} {meaning : Meaning J T} {old : Parts J T}
    {sender to : ℕ} {link : Whole J T} {now : DeskView J T} {after : Whole J T} (world : IsWorld meaning old) (is_last : sender ≡ old.cores)
    (acting : IsActing old sender to old.outside link) (did : IsDoneOn (Fits meaning) to old.outside link now after) where
  abbrev pub outside_sent : Parts J T
  outside_sent = record old { outside = now; links = with_link old.links sender to after }

  outside_desks : desks outside_sent ≡ set (desks old) sender now
  outside_desks = desks-outside old sender now (world.all_there.cores_are ∙ sym is_last)

  pub outside_journals : map (λ desk. desk.journal.notes) (desks outside_sent) ≡ map (λ desk. desk.journal.notes) (set (desks old) sender now)
  outside_journals = ap (map (λ desk. desk.journal.notes)) outside_desks

  pub outside_rests : IsWorld meaning outside_sent
  outside_rests =
      world_after world sender old.inside now (with_link old.links sender to after) now (record {
        there = acting.there;
        inside_are = refl;
        rows_are = (changes world acting did).same_rows;
        links_are = (changes world acting did).same_cores;
        desks_are = outside_desks;
        seat =
            let was = its_seat world acting in
            did.stays.rest ∙ (λ i. record {
              actor = ap (λ desk. desk.actor) was i;
              cores = ap (λ desk. desk.cores) was i;
              cap = ap (λ desk. desk.cap) was i;
              burst = ap (λ desk. desk.burst) was i;
              journal = record { notes = now.journal.notes; passed = ap (λ desk. desk.journal.passed) was i; room = ap (λ desk. desk.journal.room) was i };
              lanes = now.lanes;
            });
        other_cores = λ core away. refl;
        recorded = λ known. absurd (omega (arith, known, is_last));
        written = did.stays.written;
        received = others_received world acting did;
        sent = λ from core away. all_sent world acting did from core;
        senders = senders_sent world acting did;
        ins = λ from known core_known. absurd (omega (arith, core_known, is_last));
      })
