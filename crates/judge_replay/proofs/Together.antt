-- The actors of a house of which all was read are recorded together.
use Rattle.std.proofs.Common.{◌≡◌, ◌≢◌, ℕ, ◌<◌, ◌≤◌, [], ◌∷◌, ◌++◌, None, length, map, get_or, refl, sym, ap, ◌∙◌, subst, ⊎_elim, arith}
use Rattle.std.proofs.lemmas.Bool.{cases_eq}
use Rattle.std.proofs.lemmas.Option.{slice_get-get_or}
use Rattle.base_words.specs.Assembly.{Assembly}
use Rattle.base_words.specs.Bursts.{queue_in_turn}
use Rattle.actor_desk.specs.Ends.{IsOutOf}
use Rattle.actor_desk.specs.Submissions.{DeskView, IsWritten, terms_of_desk}
use Rattle.actor_core.specs.Recorded.{desk_of}
use Rattle.actor_core.specs.Together.{AreTogether, IsAssemblyOf}
use Rattle.link_ring.specs.Ends.{in_at, no_out, out_at}
use Rattle.link_ring.specs.Grid.{ends_at, no_ends}
use Rattle.host_core.specs.Hosted.{HostedView}
use Rattle.host_core.specs.Jobs.{host_meaning}
use Rattle.host_core.specs.declared.job.HostJob.{HostJob}
use Rattle.judge_replay.specs.Reads.{CoreRead, core_read, outside_read}
use Rattle.judge_replay.specs.Houses.{HasRead, HouseRead, IsWhole, all_ends, core_at, no_core, read_at}
use Rattle.judge_replay.proofs.Houses.{at_last, before_last}

-- what an actor says of its submissions
abbrev pub desk_at : HouseRead → ℕ → DeskView HostJob ℕ
desk_at house actor = get_or (map (λ (core : CoreRead). desk_of core.linked.recorded) house.cores ++ house.outside.caller.desk ∷ []) actor house.outside.caller.desk

module _ (house : HouseRead) (whole : IsWhole house) where
  abbrev its : ℕ → HostedView
  its core = (core_at core house).linked

  placed : (core : ℕ) → core < house.count → core < length house.cores
  placed core low = omega (arith, low, whole.house_is.many)

  desk_here : (core : ℕ) → core < house.count → desk_at house core ≡ desk_of (its core).recorded
  desk_here core low = before_last (λ (core : CoreRead). desk_of core.linked.recorded) house.cores house.outside.caller.desk house.outside.caller.desk no_core core (placed core low)

  desk_outside : desk_at house house.count ≡ house.outside.caller.desk
  desk_outside = at_last (λ (core : CoreRead). desk_of core.linked.recorded) house.cores house.outside.caller.desk house.outside.caller.desk no_core house.count whole.house_is.many

  ends_here : (core : ℕ) → core < house.count → ends_at core (all_ends house) ≡ (its core).ends
  ends_here core low = before_last (λ (core : CoreRead). core.linked.ends) house.cores house.outside.caller.ends no_ends no_core core (placed core low)

  ends_outside : ends_at house.count (all_ends house) ≡ house.outside.caller.ends
  ends_outside = at_last (λ (core : CoreRead). core.linked.ends) house.cores house.outside.caller.ends no_ends no_core house.count whole.house_is.many

  cores_here : (core : ℕ) → core < house.count → (its core).recorded.core.cores ≡ house.count
  cores_here core low = ap (λ terms. terms.cores) (whole.house_is.each core low)

  -- the end on which a core sends
  sends_here : (sender number : ℕ) → sender < house.count → number < house.count →
      IsOutOf number (desk_of (its sender).recorded) (out_at number (its sender).ends).out (out_at number (its sender).ends).credited
  sends_here sender number here low =
      let outs = (whole.cores_are sender here).hosted.beside.outs in
      outs.beside number (out_at number (its sender).ends) (slice_get-get_or (its sender).ends.outs number no_out (omega (arith, low, outs.count, cores_here sender here)))

  sends : (sender number : ℕ) → sender ≤ house.count → number < house.count →
      IsOutOf number (desk_at house sender) (out_at number (ends_at sender (all_ends house))).out (out_at number (ends_at sender (all_ends house))).credited
  sends sender number known low =
      ⊎_elim
      (λ (is : sender ≡ house.count).
      rw is (rw desk_outside (rw ends_outside (whole.seen.outside.outs number (omega (arith, low, ap (λ terms. terms.cores) whole.house_is.outside_is))))))
      (λ (away : sender ≢ house.count).
      let here : sender < house.count = omega (arith, known, away) in
      rw (desk_here sender here) (rw (ends_here sender here) (sends_here sender number here low)))
      (cases_eq sender house.count)

  terms_are : (actor : ℕ) → actor ≤ house.count → terms_of_desk (desk_at house actor) ≡ record { actor = actor; cores = house.count; cap = house.cap; burst = house.burst }
  terms_are actor known =
      ⊎_elim
      (λ (is : actor ≡ house.count). rw is (rw desk_outside whole.house_is.outside_is))
      (λ (away : actor ≢ house.count). let here : actor < house.count = omega (arith, known, away) in rw (desk_here actor here) (whole.house_is.each actor here))
      (cases_eq actor house.count)

  pub read_together :
      AreTogether host_meaning house.count house.cap house.burst (desk_at house) (λ core. (its core).recorded)
      (λ sender core. (out_at core (ends_at sender (all_ends house))).out)
      (λ sender core. (out_at core (ends_at sender (all_ends house))).credited)
      (λ sender core. (in_at sender (ends_at core (all_ends house))).inward)
  read_together = record {
    actors = terms_are;
    desks = desk_here;
    recorded = λ core low. (whole.cores_are core low).hosted.recorded;
    at_rest = λ core low. ((whole.cores_are core low).rest refl).nobody_out;
    no_turn = λ core low.
        subst (λ burst. queue_in_turn burst (its core).recorded.journal.notes ≡ None) (ap (λ terms. terms.burst) (whole.house_is.each core low)) ((whole.cores_are core low).rest refl).no_turn;
    outside = subst (λ desk. IsWritten (terms_of_desk desk) desk.journal.notes) (sym desk_outside) whole.seen.outside.written;
    outs = sends;
    ins = λ sender core known low. rw (ends_here core low) ((whole.cores_are core low).hosted.beside.ins sender (omega (arith, known, cores_here core low)));
    joined = λ sender core known low. (whole.reunited sender core known low).joined;
  }

  -- all notes of an actor were read
  all_read : (actor : ℕ) → actor ≤ house.count → read_at actor house ≡ (desk_at house actor).journal.notes
  all_read actor known =
      ⊎_elim
      (λ (is : actor ≡ house.count).
      rw is (at_last core_read house.cores (outside_read house.outside) [] no_core house.count whole.house_is.many ∙ whole.outside_read_is ∙ sym (ap (λ desk. desk.journal.notes) desk_outside)))
      (λ (away : actor ≢ house.count).
      let here : actor < house.count = omega (arith, known, away) in
      before_last core_read house.cores (outside_read house.outside) [] no_core actor (placed actor here)
      ∙ (whole.cores_are actor here).read refl
      ∙ sym (ap (λ desk. desk.journal.notes) (desk_here actor here)))
      (cases_eq actor house.count)

  pub read_assembly : (assembly : Assembly ℕ) → HasRead house assembly → IsAssemblyOf house.count house.cap house.burst (desk_at house) (record assembly { cap = house.cap })
  read_assembly assembly has = record {
    cores_are = has.cores_are;
    cap_is = refl;
    burst_is = has.burst_is;
    count = has.many;
    each = λ actor known. has.each actor known ∙ all_read actor known;
  }
