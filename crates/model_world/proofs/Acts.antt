-- What an actor did on its link, as its world sees it: whatever it was, the link's sender did it, it is the step of its event, and the world stays one.
use Rattle.model_world.proofs.Words.{◌≡◌, ℕ, ◌+◌, ◌<◌, ◌≤◌, List, length, sym, ◌∙◌, ap, subst, arith, set, map, Journal, Meaning, Whole, Fits, Parts, Reply}
use Rattle.model_world.proofs.Words.{WorldView, journal_at, desks, world_of, IsWorld, DeskView, Act, IsActOf, IsActAt, Acts, HasActed, Collects, Redeems}
use Rattle.model_world.proofs.Words.{Detaches, Sends, RecordedView, desk_of, core_at, link_at, IsAtRest}
use Rattle.model_world.specs.declared.model.acts.Act.TheVariants.{Send, Collect, Redeem, Detach}
use Rattle.model_world.specs.Acts.{notes_for, HasCoreActed}
use Rattle.model_world.proofs.Desks.{desks-core}
use Rattle.model_world.proofs.Between.{none_open, not_open}
use Rattle.model_world.proofs.LinkRows.{with_link}
use Rattle.model_world.proofs.LinkSteps.{OnlySent, in_stays}
use Rattle.model_world.proofs.WorldAfter.{rest_after}
use Rattle.model_world.proofs.CoreSteps.{desk_is, parts_now, rests}
use Rattle.model_world.proofs.Sending.{IsDoneOn, IsActing, its_cap, its_room, later, changes, all_sent, others_received, senders_sent}
use Rattle.model_world.proofs.SentLinks.{IsSubmitted, only_sent, got_more, got_same, same_given}
use Rattle.model_world.proofs.WorldSends.{sends_now}
use Rattle.model_world.proofs.Ticketing.{collects_now, redeems_now, detaches_now}

-- notes that have room in the world have room there
pub its_notes_fit : {J : Type 0} {meaning : Meaning J ℕ} {old : Parts J ℕ} {sender core : ℕ} {desk : DeskView J ℕ} {link : Whole J ℕ}
    {seen : WorldView J ℕ} (world : IsWorld meaning old) → IsActing old sender core desk link → world_of old ≡ seen → (act : Act J) →
    length (journal_at sender seen) + notes_for seen.cap act ≤ seen.room → length desk.journal.notes + notes_for desk.cap act ≤ desk.journal.room
its_notes_fit {desk = desk} {seen = seen} world acting world_is act room =
    subst (λ cap. length desk.journal.notes + notes_for cap act ≤ desk.journal.room) (sym (its_cap world acting ∙ ap (λ world. world.cap) world_is))
    (its_room world acting world_is (notes_for seen.cap act) room)

module _ {J : Type 0} {meaning : Meaning J ℕ} {core : ℕ} {desk now : DeskView J ℕ} {link after : Whole J ℕ} {answer : Reply J} where
  -- what an order's sending says
  submitted : {order : _} (acted : HasActed meaning core (Send order) desk link answer now after) → IsSubmitted core order desk link acted.acts.0 now after
  submitted acted = record { submits = acted.acts.2; sends = acted.acts.3; credited = acted.acts.4; untouched = acted.untouched }

  pub acted_on : (act : Act J) → HasActed meaning core act desk link answer now after → IsDoneOn (Fits meaning) core desk link now after
  acted_on act acted = record { only_sent = by_act act acted; stays = acted.stays }
    where
      by_act : (act : Act J) → HasActed meaning core act desk link answer now after → OnlySent link after
      by_act (Send order) acted = only_sent core order desk link acted.acts.0 now after (submitted acted)
      by_act Collect acted = got_more link after acted.untouched acted.acts.3.1 acted.acts.3.0
      by_act (Redeem name) acted = got_same link after acted.untouched acted.acts.5
      by_act (Detach name) acted = got_same link after acted.untouched acted.acts.3

  module _ {old : Parts J ℕ} {sender : ℕ} {journals : List (Journal ℕ)} (world : IsWorld meaning old)
      (acting : IsActing old sender core desk link) (journals_are : journals ≡ map (λ desk. desk.journal.notes) (set (desks old) sender now)) where
    pub acts_now : (act : Act J) → IsActOf sender act → IsActAt core act → HasActed meaning core act desk link answer now after →
        Acts meaning sender core act (world_of old) (later world acting now after journals_are) answer
    acts_now (Send order) own at acted =
        subst (Sends sender core order (world_of old) (later world acting now after journals_are)) (sym acted.acts.1) (sends_now world acting (submitted acted) journals_are)
    acts_now Collect own at acted =
        subst (Collects sender core (world_of old) (later world acting now after journals_are)) (sym acted.acts.1)
        (collects_now world acting (acted_on Collect acted) journals_are (ap (λ out. out.sent) acted.acts.3.0) acted.acts.0 acted.acts.2 acted.acts.3
        (same_given link after acted.untouched acted.acts.3.1 acted.acts.3.0))
    acts_now (Redeem name) own at acted =
        subst (λ to. (acting : IsActing old sender to desk link) → Redeems meaning sender name (world_of old) (later world acting now after journals_are) answer) at
        (λ acting. subst (Redeems meaning sender name (world_of old) (later world acting now after journals_are)) (sym acted.acts.1)
        (redeems_now world name acting now after journals_are (ap (λ out. out.sent) acted.acts.5) own acted.acts.0 acted.acts.2 acted.acts.3 acted.acts.4)) acting
    acts_now (Detach name) own at acted =
        subst (λ to. (acting : IsActing old sender to desk link) → Detaches sender name (world_of old) (later world acting now after journals_are) answer) at
        (λ acting. subst (Detaches sender name (world_of old) (later world acting now after journals_are)) (sym acted.acts.1)
        (detaches_now world name acting now after journals_are (ap (λ out. out.sent) acted.acts.3) acted.acts.0 acted.acts.2)) acting

-- a core and its link to another, as their world has them
pub record IsCoreActing {J T : Type 0} (old : Parts J T) (sender to : ℕ) (actor : RecordedView J T) (link : Whole J T) : Type 0 where
  pub core : sender < old.cores
  pub actor_is : actor ≡ core_at sender old
  pub acting : IsActing old sender to (desk_of actor) link

-- a core acts on a link that it was lent
pub core_acting : {J T : Type 0} {meaning : Meaning J T} {old : Parts J T} {sender to : ℕ} {link : Whole J T} {actor : RecordedView J T}
    (world : IsWorld meaning old) → sender < old.cores → to < old.cores → actor ≡ core_at sender old → link ≡ link_at sender to old.links → IsCoreActing old sender to actor link
core_acting {sender = sender} world core to_there is link_is =
    record { core = core; actor_is = is; acting = record { there = omega (arith, core); to_there = to_there; desk_is = ap desk_of is ∙ sym (desk_is world sender core); link_is = link_is } }

-- a world at rest stays one as a core does something on its link to another
module _ {J : Type 0} {meaning : Meaning J ℕ} {old : Parts J ℕ} {sender to : ℕ}
    {act : Act J} {actor now : RecordedView J ℕ} {link after : Whole J ℕ} {answer : Reply J} (world : IsWorld meaning old)
    (by : IsCoreActing old sender to actor link) (did : HasCoreActed meaning to act actor link answer now after) where
  core_did : HasCoreActed meaning to act (core_at sender old) link answer now after
  core_did = subst (λ at. HasCoreActed meaning to act at link answer now after) by.actor_is did

  done : IsDoneOn (Fits meaning) to (desk_of actor) link (desk_of now) after
  done = acted_on act did.acted

  abbrev pub core_sent : Parts J ℕ
  core_sent = parts_now world sender by.core now (with_link old.links sender to after)

  pub core_journals : map (λ desk. desk.journal.notes) (desks core_sent) ≡ map (λ desk. desk.journal.notes) (set (desks old) sender (desk_of now))
  core_journals = ap (map (λ desk. desk.journal.notes)) (desks-core old sender now (omega (arith, by.core, world.all_there.cores_are)))

  pub core_at_rest : IsAtRest old → IsAtRest core_sent
  core_at_rest rest =
      let was = rest sender by.core in
      rest_after old sender now (with_link old.links sender to after) rest (record {
        nobody_out = ap (λ view. view.core.out) core_did.rest ∙ was.nobody_out;
        no_turn = none_open now core_did.sound (ap (λ view. view.core.bursts.open) core_did.rest ∙ not_open (world.recorded sender by.core) was.no_turn);
      })

  pub core_rests : IsWorld meaning core_sent
  core_rests =
      rests world sender by.core now (with_link old.links sender to after) (record {
        recorded = core_did.sound;
        seat = core_did.seat;
        rows_are = (changes world by.acting done).same_rows;
        links_are = (changes world by.acting done).same_cores;
        received = others_received world by.acting done;
        sent = λ from core away. all_sent world by.acting done from core;
        senders = senders_sent world by.acting done;
        ins = λ from known.
            in_stays from now _ _ (all_sent world by.acting done from sender)
            ((core_did.ins from).each _ (world.beside.ins from sender known by.core));
      })
