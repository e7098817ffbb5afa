-- What a job's calls of its post do in the world, while its core polls it.
use Rattle.model_world.proofs.Words.{◌≡◌, ℕ, ◌<◌, ◌≤◌, List, [], ◌∷◌, refl, sym, ◌∙◌, ap, subst, inl, inr, arith, get_or, set, get_or-set_same, set-set}
use Rattle.model_world.proofs.Words.{length-set, get_or_from_slice_get, JobId, Reply, Meaning, Whole, Fits, out_of, RecordedView, IsRecorded, desk_of, no_link}
use Rattle.model_world.proofs.Words.{row_of, link_at, Parts, core_at, desk_at, world_of, IsWorld, journal_at, Unknown, Call, Makes, Submit, Redeem, Detach}
use Rattle.model_world.proofs.Words.{kept_by_sender, KeepsIn, opened_beside, RefusesTicket, Act, IsActOf, IsActAt, Acts, HasActed, CallsAt, Redeems, Detaches}
use Rattle.model_world.proofs.Words.{redeemed_reply, detached_reply, sent_reply}
use Rattle.actor_desk.specs.Calls.{Does, LendsEnd}
use Rattle.actor_desk.specs.Posts.{PostView}
use Rattle.actor_core.proofs.SentNotes.{SaysNoMore, recorded_silent, ins_silent, submitted_silent, redeemed_silent, detached_silent}
use Rattle.model_world.specs.declared.model.acts.Act.TheVariants as acts
use Rattle.model_world.specs.declared.model.acts.Act.TheVariants.{Send}
use Rattle.model_world.specs.Acts.{ActsOn, HasCoreActed}
use Rattle.model_world.proofs.CoreSteps.{cores_are, desk_is, journal_is}
use Rattle.model_world.proofs.Acts.{IsCoreActing, core_sent, core_journals, core_rests, acts_now}

-- a core's desk and the links on which it sends
abbrev pub Post : Type 0 → Type 0
Post J = PostView J ℕ (Whole J ℕ)

module _ {J : Type 0} (base : Parts J ℕ) (number : ℕ) (picked : RecordedView J ℕ) where
  -- the core and the world, where the post stands so
  abbrev pub view_at : Post J → RecordedView J ℕ
  view_at post = record picked { journal = post.desk.journal; lanes = post.desk.lanes }

  abbrev pub parts_at : Post J → Parts J ℕ
  parts_at post = record base { inside = set base.inside number (view_at post); links = set base.links number post.ends }

module _ {J : Type 0} (meaning : Meaning J ℕ) (base : Parts J ℕ) (number : ℕ) (picked : RecordedView J ℕ) where
  -- each actor and each end is as it should be there, and the post is the core's own
  pub record IsAt (post : Post J) : Type 0 where
    pub world : IsWorld meaning (parts_at base number picked post)
    pub desk : post.desk ≡ desk_of (view_at base number picked post)

module _ {J : Type 0} (meaning : Meaning J ℕ) (base : Parts J ℕ) (number : ℕ) (there : number < base.cores) (picked : RecordedView J ℕ) where
  abbrev Here : Post J → Type 0
  Here = IsAt meaning base number picked

  abbrev view : Post J → RecordedView J ℕ
  view = view_at base number picked

  abbrev parts : Post J → Parts J ℕ
  parts = parts_at base number picked

  module _ (post : Post J) (at : Here post) where
    core_is : core_at number (parts post) ≡ view post
    core_is = get_or-set_same base.inside number (view post) (opened_beside 0 0 0 0 0) (omega (arith, there, at.world.all_there.cores_are, length-set base.inside number (view post)))

    row_is : row_of number (parts post).links ≡ post.ends
    row_is = get_or-set_same base.links number post.ends [] (omega (arith, there, at.world.all_there.rows_are, length-set base.links number post.ends))

    its_desk : desk_at number (parts post) ≡ post.desk
    its_desk = desk_is at.world number there ∙ (ap desk_of core_is ∙ sym at.desk)

    its_notes : journal_at number (world_of (parts post)) ≡ post.desk.journal.notes
    its_notes = journal_is at.world number there ∙ ap (λ view. view.journal.notes) core_is

    its_cores : post.desk.cores ≡ base.cores
    its_cores = ap (λ desk. desk.cores) at.desk ∙ (ap (λ view. view.core.cores) (sym core_is) ∙ cores_are at.world number there)

    its_number : post.desk.actor ≡ number
    its_number = sym (ap (λ desk. desk.actor) its_desk) ∙ ap (λ desk. desk.actor) (at.world.all_there.seats_are number (omega (arith, there)))

    -- a call on one link
    module _ (to : ℕ) (next : Post J) (lent : LendsEnd (Fits meaning) out_of (λ link. link.credited) kept_by_sender to post next) where
      rest_is : next.desk ≡ record post.desk { journal = record post.desk.journal { notes = next.desk.journal.notes }; lanes = next.desk.lanes }
      rest_is = lent.stays.rest

      pub to_there : to < base.cores
      to_there = omega (arith, lent.stays.beside.known, ap (λ desk. desk.cores) rest_is, its_cores)

      pub link_is : lent.end ≡ link_at number to (parts post).links
      link_is = sym (ap (λ row. get_or row to (no_link number to)) row_is ∙ get_or_from_slice_get post.ends to lent.end (no_link number to) lent.is)

      next_desk : next.desk ≡ desk_of (view next)
      next_desk = λ i. record {
        actor = (ap (λ desk. desk.actor) rest_is ∙ ap (λ desk. desk.actor) at.desk) i;
        cores = (ap (λ desk. desk.cores) rest_is ∙ ap (λ desk. desk.cores) at.desk) i;
        cap = (ap (λ desk. desk.cap) rest_is ∙ ap (λ desk. desk.cap) at.desk) i;
        burst = (ap (λ desk. desk.burst) rest_is ∙ ap (λ desk. desk.burst) at.desk) i;
        journal = next.desk.journal;
        lanes = next.desk.lanes;
      }

      view_is : view next ≡ record (view post) { journal = record post.desk.journal { notes = next.desk.journal.notes }; lanes = next.desk.lanes }
      view_is = λ i. record picked { journal = ap (λ desk. desk.journal) rest_is i; lanes = next.desk.lanes }

      by : IsCoreActing (parts post) number to (view post) lent.end
      by = record {
        core = there;
        actor_is = sym core_is;
        acting = record { there = omega (arith, there); to_there = to_there; desk_is = ap desk_of (sym core_is) ∙ sym (desk_is at.world number there); link_is = link_is };
      }

      -- a call on one link is an act there
      module _ (act : Act J) (answer : Reply J) (own : IsActOf number act) (here : IsActAt to act) (silent : SaysNoMore post.desk.journal.notes next.desk.journal.notes)
          (acts : ActsOn meaning to act post.desk lent.end answer next.desk lent.later) where
        acted : HasActed meaning to act (desk_of (view post)) lent.end answer (desk_of (view next)) lent.later
        acted = subst (λ desk. HasActed meaning to act desk lent.end answer (desk_of (view next)) lent.later) at.desk
            (subst (λ desk. HasActed meaning to act post.desk lent.end answer desk lent.later) next_desk (record { acts = acts; stays = lent.stays; untouched = lent.untouched }))

        did : HasCoreActed meaning to act (view post) lent.end answer (view next) lent.later
        did =
            let recorded = subst (IsRecorded meaning) core_is (at.world.recorded number there) in
            record {
              acted = acted;
              rest = refl;
              seat = record { number = refl; cores = refl; cap = refl; burst = refl; room = ap (λ desk. desk.journal.room) rest_is; passed = ap (λ desk. desk.journal.passed) rest_is };
              ins = λ from. subst (KeepsIn from (view post)) (sym view_is) (ins_silent (view post) next.desk.journal.notes next.desk.lanes silent from);
              sound = subst (IsRecorded meaning) (sym view_is) (recorded_silent (view post) next.desk.journal.notes next.desk.lanes silent recorded acted.stays.written);
            }

        -- the world after it is the one where the post stands as it does then
        sent_is : core_sent at.world by did ≡ parts next
        sent_is = λ i. record base {
          inside = set-set base.inside number (view post) (view next) i;
          links = (set-set base.links number post.ends (set (row_of number (parts post).links) to lent.later) ∙ ap (set base.links number) (ap (λ row. set row to lent.later) row_is ∙ sym lent.ends)) i;
        }

        act_now : Here next × Acts meaning number to act (world_of (parts post)) (world_of (parts next)) answer
        act_now = (
          record { world = subst (IsWorld meaning) sent_is (core_rests at.world by did); desk = next_desk },
          subst (λ then. Acts meaning number to act (world_of (parts post)) (world_of then) answer) sent_is (acts_now at.world by.acting (core_journals at.world by did) act own here acted),
        )

    abbrev Now : Call J ℕ → Post J → Type 0
    Now call next = Here next × CallsAt meaning number (world_of (parts post)) call (world_of (parts next))

    -- nothing changed
    same_at : (next : Post J) → next ≡ post → Here next
    same_at next is = subst Here (sym is) at

    same_world : (next : Post J) → next ≡ post → world_of (parts next) ≡ world_of (parts post)
    same_world next is = ap (λ post. world_of (parts post)) is

    unknown : (name : JobId) → RefusesTicket name Unknown post.desk.journal.notes → RefusesTicket name Unknown (journal_at number (world_of (parts post)))
    unknown name refuses = subst (RefusesTicket name Unknown) (sym its_notes) refuses

    -- each call does in the world what the event of its name does
    pub call_now : (call : Call J ℕ) (next : Post J) → Does (Fits meaning) out_of (λ link. link.credited) kept_by_sender post call next → Now call next
    call_now (Submit to order answer) next (inl none) = (same_at next none.2, inl (subst (λ cores. cores ≤ to) its_cores none.0, none.1, same_world next none.2))
    call_now (Submit to order answer) next (inr on) =
        let done = act_now to next on.lent (Send order) (sent_reply answer) tt tt (submitted_silent post.desk next.desk to order answer on.submits) (answer, refl, on.submits, on.sends, on.credited) in
        (done.0, inr (to_there to next on.lent, done.1))
    call_now (Redeem name answer) next (inl none) =
        (same_at next none.3, subst (λ answer. Redeems meaning number name (world_of (parts post)) (world_of (parts next)) (redeemed_reply answer)) (sym none.1) (unknown name none.2, same_world next none.3))
    call_now (Redeem name answer) next (inr on) =
        act_now name.to next on.lent (acts.Redeem name) (redeemed_reply answer) (on.knows.0 ∙ its_number) refl (redeemed_silent post.desk next.desk name answer on.redeems)
        (answer, refl, on.redeems, on.given, on.fits, on.out)
    call_now (Detach name answer) next (inl none) =
        (same_at next none.3, subst (λ answer. Detaches number name (world_of (parts post)) (world_of (parts next)) (detached_reply answer)) (sym none.1) (unknown name none.2, same_world next none.3))
    call_now (Detach name answer) next (inr on) =
        act_now name.to next on.lent (acts.Detach name) (detached_reply answer) (on.knows.0 ∙ its_number) refl (detached_silent post.desk next.desk name answer on.detaches)
        (answer, refl, on.detaches, on.out)

  -- and so do all of them, one after another
  pub calls_now : (calls : List (Call J ℕ)) (post later : Post J) → Here post → Makes (Does (Fits meaning) out_of (λ link. link.credited) kept_by_sender) calls post later →
      Here later × Makes (CallsAt meaning number) calls (world_of (parts post)) (world_of (parts later))
  calls_now [] post later at makes = (same_at post at later makes, same_world post at later makes)
  calls_now (call ∷ calls) post later at makes =
      let first = call_now post at call makes.0 makes.1 in
      let rest = calls_now calls makes.0 later first.0 makes.2 in
      (rest.0, (world_of (parts makes.0), first.1, rest.1))
