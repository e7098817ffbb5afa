-- A world as it opens: nothing was noted, and it is at rest.
use Rattle.model_world.proofs.Words.{◌≡◌, ℕ, ◌<◌, ◌≤◌, List, [], refl, sym, ◌∙◌, ap, subst, ⊎_elim, arith, cases_lt, Meaning, Whole, inward_of, RecordedView}
use Rattle.model_world.proofs.Words.{IsRecorded, desk_of, Fits, IsInOf, journal_at, link_at, Parts, core_at, desk_at, world_of, HasAllLists, IsWorld, IsAtRest, IsCoreAtRest}
use Rattle.model_world.proofs.Words.{DeskView, IsWritten, opened_desk, terms_of_desk, sent_at, IsFresh}
use Rattle.base_words.specs.Bursts.{has_bursts}
use Rattle.base_words.proofs.OpenTurns.{none_either}
use Rattle.link_ends.specs.Whole.{fresh}
use Rattle.actor_core.proofs.Opened.{recorded-opened}
use Rattle.model_world.specs.Links.{AreFresh}
use Rattle.model_world.specs.Cores.{AreOpened}
use Rattle.model_world.proofs.Desks.{desk_at-core, desk_at-outside, journal_at-world, sent_at-world, world_lists}
use Rattle.model_world.proofs.FreshLinks.{in_of-opened, fresh_sender}
use Rattle.model_world.proofs.LinkSteps.{IsSenderOn}
use Rattle.model_world.proofs.Places.{none_anywhere, none_in_table}

module _ {J T : Type 0} (meaning : Meaning J T) (cores cap burst room : ℕ)
    (inside : List (RecordedView J T)) (outside : DeskView J T) (links : List (List (Whole J T)))
    (cores_open : AreOpened cores cap room burst inside) (outside_open : outside ≡ opened_desk cores cores cap room burst)
    (written : IsWritten (terms_of_desk outside) outside.journal.notes) (links_open : AreFresh cores cap links) where
  abbrev parts : Parts J T
  parts = record { cores = cores; cap = cap; burst = burst; room = room; inside = inside; outside = outside; links = links }

  desk_is : (actor : ℕ) → actor ≤ cores → desk_at actor parts ≡ opened_desk actor cores cap room burst
  desk_is actor known =
      ⊎_elim
      (λ below. desk_at-core parts actor (omega (arith, below, cores_open.cores_are)) ∙ ap desk_of (cores_open.each_opened actor below))
      (λ past.
      let last : cores ≡ actor = omega (arith, past, known) in
      desk_at-outside parts actor (cores_open.cores_are ∙ last) ∙ (outside_open ∙ ap (λ number. opened_desk number cores cap room burst) last))
      (cases_lt actor cores)

  senders : (sender core : ℕ) → sender ≤ cores → core < cores → IsSenderOn (Fits meaning) core (desk_at sender parts) (link_at sender core links)
  senders sender core known core_known =
      subst (IsSenderOn (Fits meaning) core (desk_at sender parts)) (sym (links_open.each_fresh sender core known core_known))
      (subst (λ desk. IsSenderOn (Fits meaning) core desk (fresh sender core cap 0)) (sym (desk_is sender known)) (fresh_sender (Fits meaning) sender core cores cap room burst core_known))

  -- the parts that were just opened make a world at rest
  pub world_at_opening : IsWorld meaning parts
  world_at_opening = record {
    all_there = record {
      cores_are = cores_open.cores_are;
      rows_are = links_open.rows_are;
      links_are = links_open.cores_are;
      seats_are = λ actor known. desk_is actor known ∙ ap (λ desk. record { actor = actor; cores = cores; cap = cap; burst = burst; journal = record { notes = desk.journal.notes; passed = []; room = room }; lanes = desk.lanes }) (sym (desk_is actor known));
    };
    recorded = λ core known. subst (IsRecorded meaning) (sym (cores_open.each_opened core known)) (recorded-opened meaning core cores cap room burst known);
    outside = written;
    beside = record {
      outs = λ sender core known core_known. (senders sender core known core_known).out;
      lanes = λ sender core known core_known. (senders sender core known core_known).lane;
      ins = λ sender core known core_known.
          subst (λ link. IsInOf sender (core_at core parts) (inward_of link)) (sym (links_open.each_fresh sender core known core_known))
          (subst (λ view. IsInOf sender view (inward_of (fresh sender core cap 0))) (sym (cores_open.each_opened core core_known)) (in_of-opened sender core cores cap room burst known));
    };
  }

  pub rest_at_opening : IsAtRest parts
  rest_at_opening core known =
      subst (λ view. IsCoreAtRest view) (sym (cores_open.each_opened core known)) (record { nobody_out = refl; no_turn = none_either (has_bursts burst) })

  lists : HasAllLists (world_of parts)
  lists = world_lists parts world_at_opening

  no_note : (actor : ℕ) → journal_at actor (world_of parts) ≡ []
  no_note = none_anywhere (world_of parts).journals (λ actor there. journal_at-world parts actor ∙ ap (λ desk. desk.journal.notes) (desk_is actor (omega (arith, there, lists.journals_are))))

  no_order : (sender core : ℕ) → sent_at sender core (world_of parts) ≡ []
  no_order = none_in_table (world_of parts).sent (λ sender core there core_there.
      let known : sender ≤ cores = omega (arith, there, lists.senders_are) in
      sent_at-world parts sender core ∙ ap (λ link. link.sent) (links_open.each_fresh sender core known (omega (arith, core_there, lists.links_are sender known))))

  -- nothing has happened in it
  pub fresh_at_opening : IsFresh cores cap burst room (world_of parts)
  fresh_at_opening = record { cores_are = refl; cap_is = refl; burst_is = refl; room_is = refl; lists = lists; no_note = no_note; no_order = no_order }
