-- A world stays one where one actor makes a step.
use Rattle.model_world.proofs.Words.{◌≡◌, ◌≢◌, ℕ, ◌<◌, ◌≤◌, List, length, refl, sym, ◌∙◌, ap, subst, arith, get_or, set, get_or-set_same, get_or-set_other}
use Rattle.model_world.proofs.Words.{IsCoreAtRest, Meaning, Whole, inward_of, RecordedView, IsRecorded, Fits, IsInOf, row_of, link_at, Parts, core_at, desks, desk_at}
use Rattle.model_world.proofs.Words.{IsWorld, IsAtRest, DeskView, IsWritten, terms_of_desk, opened_desk, opened_beside, seat_of}
use Rattle.model_world.proofs.Desks.{desk_count}
use Rattle.model_world.proofs.Places.{set_each, by_place}
use Rattle.model_world.proofs.LinkSteps.{OnlyReceived, OnlySent, IsSenderOn, sender_stays, in_stays}

-- each core is at rest, where the one that made a step is
pub rest_after : {J T : Type 0} (old : Parts J T) (core : ℕ) (now : RecordedView J T) (links : List (List (Whole J T))) → IsAtRest old → IsCoreAtRest now →
    IsAtRest (record old { inside = set old.inside core now; links = links })
rest_after old core now links rest its other there = set_each old.inside core now other (opened_beside 0 0 0 0 0) (λ view. IsCoreAtRest view) its (rest other there)

-- a sender's end of each link is beside it
pub world_sender : {J T : Type 0} {meaning : Meaning J T} {old : Parts J T} → IsWorld meaning old →
    (sender core : ℕ) → sender ≤ old.cores → core < old.cores → IsSenderOn (Fits meaning) core (desk_at sender old) (link_at sender core old.links)
world_sender world sender core known core_known = record { out = world.beside.outs sender core known core_known; lane = world.beside.lanes sender core known core_known }

module _ {J T : Type 0} {meaning : Meaning J T} {old : Parts J T}
    (world : IsWorld meaning old) (actor : ℕ) (inside : List (RecordedView J T)) (outside : DeskView J T) (links : List (List (Whole J T))) (desk : DeskView J T) where
  abbrev pub new : Parts J T
  new = record old { inside = inside; outside = outside; links = links }

  -- one actor made a step: the others and the links that aren't its own stay, and all is beside it as it should be
  pub record IsStep : Type 0 where
    pub there : actor ≤ old.cores
    pub inside_are : length inside ≡ length old.inside
    pub rows_are : length links ≡ length old.links
    pub links_are : (sender : ℕ) → length (row_of sender links) ≡ length (row_of sender old.links)
    pub desks_are : desks new ≡ set (desks old) actor desk
    pub seat : desk ≡ seat_of actor desk old
    pub other_cores : (core : ℕ) → core ≢ actor → core_at core new ≡ core_at core old
    pub recorded : actor < old.cores → IsRecorded meaning (core_at actor new)
    pub written : IsWritten (terms_of_desk outside) outside.journal.notes
    pub received : (sender core : ℕ) → sender ≢ actor → OnlyReceived (link_at sender core old.links) (link_at sender core links)
    pub sent : (sender core : ℕ) → core ≢ actor → OnlySent (link_at sender core old.links) (link_at sender core links)
    pub senders : (core : ℕ) → core < old.cores → IsSenderOn (Fits meaning) core desk (link_at actor core links)
    pub ins : (sender : ℕ) → sender ≤ old.cores → actor < old.cores → IsInOf sender (core_at actor new) (inward_of (link_at sender actor links))

  module _ (step : IsStep) where
    desk_now : desk_at actor new ≡ desk
    desk_now =
        ap (λ all. get_or all actor (opened_desk 0 0 0 0 0)) step.desks_are
        ∙ get_or-set_same (desks old) actor desk (opened_desk 0 0 0 0 0) (omega (arith, desk_count old, world.all_there.cores_are, step.there))

    desk_elsewhere : (other : ℕ) → other ≢ actor → desk_at other new ≡ desk_at other old
    desk_elsewhere other away =
        ap (λ all. get_or all other (opened_desk 0 0 0 0 0)) step.desks_are ∙ get_or-set_other (desks old) actor other desk (opened_desk 0 0 0 0 0) away

    seats_now : (other : ℕ) → other ≤ old.cores → desk_at other new ≡ seat_of other (desk_at other new) new
    seats_now =
        by_place (λ at. at ≤ old.cores → desk_at at new ≡ seat_of at (desk_at at new) new) actor (λ known. desk_now ∙ (step.seat ∙ ap (λ now. seat_of actor now old) (sym desk_now)))
        (λ other away known. desk_elsewhere other away ∙ (world.all_there.seats_are other known ∙ ap (λ now. seat_of other now old) (sym (desk_elsewhere other away))))

    recorded_now : (core : ℕ) → core < old.cores → IsRecorded meaning (core_at core new)
    recorded_now =
        by_place (λ at. at < old.cores → IsRecorded meaning (core_at at new)) actor step.recorded
        (λ core away known. subst (IsRecorded meaning) (sym (step.other_cores core away)) (world.recorded core known))

    senders_now : (sender core : ℕ) → sender ≤ old.cores → core < old.cores → IsSenderOn (Fits meaning) core (desk_at sender new) (link_at sender core links)
    senders_now sender core known core_known =
        by_place (λ at. at ≤ old.cores → IsSenderOn (Fits meaning) core (desk_at at new) (link_at at core links)) actor
        (λ known. subst (λ now. IsSenderOn (Fits meaning) core now (link_at actor core links)) (sym desk_now) (step.senders core core_known))
        (λ other away known. subst (λ now. IsSenderOn (Fits meaning) core now (link_at other core links)) (sym (desk_elsewhere other away))
        (sender_stays refl (step.received other core away) (λ is. is) (world_sender world other core known core_known)))
        sender known

    ins_now : (sender core : ℕ) → sender ≤ old.cores → core < old.cores → IsInOf sender (core_at core new) (inward_of (link_at sender core links))
    ins_now sender core known =
        by_place (λ at. at < old.cores → IsInOf sender (core_at at new) (inward_of (link_at sender at links))) actor (step.ins sender known)
        (λ other away core_known. subst (λ now. IsInOf sender now (inward_of (link_at sender other links))) (sym (step.other_cores other away))
        (in_stays sender (core_at other old) (link_at sender other old.links) (link_at sender other links) (step.sent sender other away) (world.beside.ins sender other known core_known)))
        core

    -- each actor and each end is as it should be again
    pub world_after : IsWorld meaning new
    world_after = record {
      all_there = record {
        cores_are = step.inside_are ∙ world.all_there.cores_are;
        rows_are = step.rows_are ∙ world.all_there.rows_are;
        links_are = λ sender known. step.links_are sender ∙ world.all_there.links_are sender known;
        seats_are = seats_now;
      };
      recorded = recorded_now;
      outside = step.written;
      beside = record {
        outs = λ sender core known core_known. (senders_now sender core known core_known).out;
        lanes = λ sender core known core_known. (senders_now sender core known core_known).lane;
        ins = ins_now;
      };
    }
