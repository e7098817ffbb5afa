-- A core does something on the link of a sender: it is the step of its event, and the world stays one.
use Rattle.model_world.proofs.Words.{◌≡◌, ℕ, ◌<◌, ◌≤◌, Bool, List, sym, ◌∙◌, ap, subst, Meaning, Whole, inward_of, RecordedView, IsInOf, WorldView, journal_at}
use Rattle.model_world.proofs.Words.{link_at, Parts, core_at, world_of, IsWorld, ◌+◌, true, false, [], ◌∷◌, length, arith, append-nil, slice_get, Reply, noted, None}
use Rattle.model_world.proofs.Words.{desk_at, IsAtRest, IsCoreAtRest, accepted_orders, ChangesLink, sent_at, Delivers, IsDelivery, next_place, HasReceived}
use Rattle.model_world.proofs.TakenLinks.{DidOnLink, on_link, took_on_link, seen_is, sent_is, only_received}
use Rattle.model_world.proofs.CoreSteps.{journal_is, number_is, parts_now, core_noted, core_unchanged, receives}
use Rattle.base_words.specs.declared.order.Envelope.{Envelope}
use Rattle.base_words.specs.Bursts.{queue_in_turn}
use Rattle.base_words.specs.Filters.{delivered_names}
use Rattle.actor_core.specs.Steps.{Delivers as DeliversTo, out_told}
use Rattle.actor_desk.proofs.NumberedOrders.{length-numbered}
use Rattle.base_words.specs.declared.note.Note.TheVariants as writes
use Rattle.model_world.specs.declared.model.receipts.Receipt.{Receipt}
use Rattle.model_world.specs.declared.model.receipts.Receipt.TheVariants.{Take, Shut}
use Rattle.model_world.specs.Deliveries.{taken_reply}
use Rattle.model_world.specs.Receipts.{ReceivesOn, Receives}
use Rattle.model_world.proofs.Places.{by_place}
use Rattle.model_world.proofs.Desks.{journal_at-world, sent_at-world}
use Rattle.model_world.proofs.LinkRows.{with_link, same_sent, ChangesLink-with_link}
use Rattle.model_world.proofs.StillTurns.{delivery_keeps}
use Rattle.model_world.proofs.WorldAfter.{rest_after}
use Rattle.std.proofs.lemmas.Option.{slice_get_past}

-- a core and the link of a sender to it, as their world has them
pub record IsReceiving {J T : Type 0} (old : Parts J T) (sender core : ℕ) (view : RecordedView J T) (link : Whole J T) : Type 0 where
  pub there : sender ≤ old.cores
  pub core_there : core < old.cores
  pub view_is : view ≡ core_at core old
  pub link_is : link ≡ link_at sender core old.links

module _ {J T : Type 0} {meaning : Meaning J T} {old : Parts J T}
    {sender core : ℕ} {view : RecordedView J T} {link : Whole J T} (world : IsWorld meaning old) (by : IsReceiving old sender core view link) where
  -- what is so of both is so in the world
  pub received_there : (Holds : RecordedView J T → Whole J T → Type 0) → Holds view link → Holds (core_at core old) (link_at sender core old.links)
  received_there Holds holds = subst (λ at. Holds at (link_at sender core old.links)) by.view_is (subst (Holds view) by.link_is holds)

  -- the end is beside the core that takes from it
  pub may_take : IsInOf sender view (inward_of link)
  may_take =
      subst (λ at. IsInOf sender view (inward_of at)) (sym by.link_is)
      (subst (λ at. IsInOf sender at (inward_of (link_at sender core old.links))) (sym by.view_is) (world.beside.ins sender core by.there by.core_there))

  pub receiver_notes : {seen : WorldView J T} → world_of old ≡ seen → view.journal.notes ≡ journal_at core seen
  receiver_notes world_is = ap (λ view. view.journal.notes) by.view_is ∙ (sym (journal_is world core by.core_there) ∙ ap (journal_at core) world_is)

module _ {J T : Type 0} {meaning : Meaning J T} {old : Parts J T} {sender core : ℕ} {what : Receipt}
    {its_view now : RecordedView J T} {its_link after : Whole J T} {answer : Reply J} (world : IsWorld meaning old)
    (by : IsReceiving old sender core its_view its_link) (it_did : HasReceived meaning sender what its_view its_link answer now after) where
  abbrev view : RecordedView J T
  view = core_at core old

  abbrev link : Whole J T
  link = link_at sender core old.links

  abbrev links : List (List (Whole J T))
  links = with_link old.links sender core after

  did : HasReceived meaning sender what view link answer now after
  did = received_there world by (λ view link. HasReceived meaning sender what view link answer now after) it_did

  -- where the core was at rest, it is
  abbrev StaysAtRest : Type 0
  StaysAtRest = IsCoreAtRest view → IsCoreAtRest now

  did_on_link : DidOnLink link after × StaysAtRest
  did_on_link = by_what what did.receives
    where
      by_found : (found : Bool) → DeliversTo view (inward_of link) now (inward_of after) found → DidOnLink link after × StaysAtRest
      by_found true delivers = (
        took_on_link link after delivers.1.0 delivers.0 delivers.1.1 delivers.1.2 delivers.1.3,
        λ rest. record {
          nobody_out = delivers.2.out ∙ ap (out_told now.journal.notes) rest.nobody_out;
          no_turn =
              (λ i. queue_in_turn (did.seat.burst i) (delivers.2.journal i).notes)
              ∙ (delivery_keeps view.core.bursts.burst view.journal.notes delivers.0.name delivers.0.order delivers.2.notes delivers.2.delivery ∙ rest.no_turn);
        },
      )
      by_found false delivers =
          (on_link delivers.0.0 delivers.0.1 ([], ap (λ end. end.given) delivers.0.0 ∙ sym (append-nil link.given)), λ rest. subst (λ view. IsCoreAtRest view) (sym delivers.1) rest)

      by_what : (what : Receipt) → ReceivesOn sender what view link answer now after → DidOnLink link after × StaysAtRest
      by_what Take receives = by_found receives.0 receives.2
      by_what Shut receives = (
        on_link receives.2.0 receives.2.1 ([], ap (λ end. end.given) receives.2.0 ∙ sym (append-nil link.given)),
        λ rest. record {
          nobody_out = receives.3.out ∙ rest.nobody_out;
          no_turn = (λ i. queue_in_turn (did.seat.burst i) (receives.3.journal i).notes) ∙ rest.no_turn;
        },
      )

  same_orders : after.sent ≡ link.sent
  same_orders = sent_is link after did_on_link.0.more did.untouched did_on_link.0.rest

  changes : ChangesLink old.links links sender core after
  changes =
      ChangesLink-with_link old.links sender core after (omega (arith, world.all_there.rows_are, by.there)) (omega (arith, world.all_there.links_are sender by.there, by.core_there))

  ins : (from : ℕ) → from ≤ old.cores → IsInOf from now (inward_of (link_at from core links))
  ins =
      by_place (λ from. from ≤ old.cores → IsInOf from now (inward_of (link_at from core links))) sender
      (λ known. subst (λ link. IsInOf sender now (inward_of link)) (sym changes.changed) did.beside)
      (λ from away known. subst (λ link. IsInOf from now (inward_of link)) (sym (changes.others from core (λ one two. away one))) ((did.others from away).each _ (world.beside.ins from core known by.core_there)))

  abbrev pub received : Parts J T
  received = parts_now world core by.core_there now links

  pub received_at_rest : IsAtRest old → IsAtRest received
  received_at_rest rest = rest_after old core now links rest (did_on_link.1 (rest core by.core_there))

  pub received_rests : IsWorld meaning received
  received_rests =
      receives world core by.core_there now links (record {
        recorded = did.sound;
        seat = did.seat;
        outs = did.outs;
        lanes = did.lanes;
        sender = sender;
        link = after;
        changes = changes;
        received = only_received link after did_on_link.0.more did.untouched did_on_link.0.rest did_on_link.0.given;
        ins = ins;
      })

  its_end : IsInOf sender view (inward_of link)
  its_end = world.beside.ins sender core by.there by.core_there

  same_lists : (world_of received).sent ≡ (world_of old).sent
  same_lists = same_sent old.links sender core after same_orders

  -- the next place is the one that the link says
  place_is : next_place sender core (world_of old) ≡ link.taken
  place_is = ap (λ journal. length (delivered_names sender journal)) (journal_is world core by.core_there) ∙ its_end.taken

  next_order : slice_get (sent_at sender core (world_of old)) (next_place sender core (world_of old)) ≡ slice_get link.sent link.taken
  next_order = ap (λ orders. slice_get orders (next_place sender core (world_of old))) (sent_at-world old sender core) ∙ ap (slice_get link.sent) place_is

  name_is : (envelope : Envelope J) → envelope.name ≡ record { from = link.from; to = link.to; number = link.base + link.taken + 1 } →
      envelope.name ≡ record { from = sender; to = core; number = next_place sender core (world_of old) + 1 }
  name_is envelope is = is ∙ (λ i. record { from = its_end.from i; to = (its_end.to ∙ number_is world core by.core_there) i; number = counts i })
    where
      counts : link.base + link.taken + 1 ≡ next_place sender core (world_of old) + 1
      counts = omega (arith, its_end.base, place_is)

  -- the delivery is the step of its event
  delivers_now : (found : Bool) → DeliversTo view (inward_of link) now (inward_of after) found → Delivers core sender (world_of old) (world_of received) (taken_reply found)
  delivers_now true delivers = (
    delivers.0.order,
    next_order ∙ (ap (λ orders. slice_get orders link.taken) (sym same_orders ∙ seen_is link after delivers.1.0 delivers.0 delivers.1.1 delivers.1.2 delivers.1.3) ∙ delivers.1.2.3),
    delivers.2.notes,
    subst (λ journal. IsDelivery (record { from = sender; to = core; number = next_place sender core (world_of old) + 1 }) delivers.0.order journal delivers.2.notes) (sym (journal_is world core by.core_there))
        (subst (λ name. IsDelivery name delivers.0.order view.journal.notes delivers.2.notes) (name_is delivers.0 delivers.1.2.2) delivers.2.delivery),
    core_noted world core by.core_there now links delivers.2.notes delivers.2.journal same_lists,
  )
  delivers_now false delivers = (
    next_order ∙ slice_get_past link.sent link.taken (omega (arith, ap length same_orders, delivers.0.2)),
    core_unchanged world core by.core_there now links delivers.1 same_lists,
  )

  -- a final count is the number of orders that were accepted
  counts : (count : ℕ) → count ≡ after.base + length after.sent → count ≡ length (accepted_orders core (journal_at sender (world_of old)))
  counts count is =
      let accepted =
      ap (λ notes. length (accepted_orders core notes)) (journal_at-world old sender)
      ∙ (ap length (world.beside.outs sender core by.there by.core_there).accepted ∙ length-numbered (desk_at sender old).actor core 0 link.sent) in
      omega (arith, is, ap (λ end. end.base) did_on_link.0.rest, its_end.base, ap length same_orders, accepted)

  -- and so is the shutting of a gate
  pub receives_now : Receives core sender what (world_of old) (world_of received) answer
  receives_now = by_what what did.receives
    where
      by_what : (what : Receipt) → ReceivesOn sender what view link answer now after → Receives core sender what (world_of old) (world_of received) answer
      by_what Take receives = subst (Delivers core sender (world_of old) (world_of received)) (sym receives.1) (delivers_now receives.0 receives.2)
      by_what Shut receives = (
        receives.1,
        core_noted world core by.core_there now links (writes.Shut sender receives.0 ∷ []) receives.3.journal same_lists
            ∙ ap (λ count. noted core (writes.Shut sender count ∷ []) (world_of old)) (counts receives.0 receives.2.2),
      )
