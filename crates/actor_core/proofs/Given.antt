-- A core among its ends, where an outcome was given on one of them.
use Rattle.actor_core.proofs.TurnWords.{◌≡◌, ◌≢◌, ℕ, ◌≤◌, List, get_or, refl, sym, ◌∙◌, ap, subst, arith, ⊎_elim, cases_eq, slice_get-get_or, slice_get_within, option_map, Option, Some, slice_get, JobId, OutcomeNote, Order, Outcome, outcome_note}
use Rattle.actor_core.proofs.TurnWords.{Meaning, IsOutOf, AreOutsOf, DeskView, RecordedView, desk_of, IsInOf, IsInOwing, told_under, seen_by, Gave, IsAround, Reach, SeeGiven, Sides, AreAround, PollsAsOwed, none_owed, owed_under}
use Rattle.std.proofs.Common.{cond}
use Rattle.std.proofs.lemmas.Bool.{eq-eqb}
use Rattle.std.specs.Prelude.{None}
use Rattle.base_words.proofs.Prefixes.{IsPrefix-self}
use Rattle.base_words.specs.Assembly.{IsPrefix}
use Rattle.link_ends.specs.declared.ends.Outward.{Outward}
use Rattle.actor_desk.specs.Ends.{ShowsMore}
use Rattle.actor_desk.specs.Tickets.{HasLane}
use Rattle.actor_desk.proofs.LaneEnds.{sees_more_lane}
use Rattle.actor_desk.proofs.OutEnds.{sees_more_out}
use Rattle.actor_core.specs.Ends.{Gives}
use Rattle.actor_core.specs.RightAnswers.{SeesNoLess}
use Rattle.actor_core.proofs.DeliveredEnds.{told_elsewhere}
use Rattle.actor_core.proofs.OwedSteps.{sees_more_owed}
use Rattle.actor_core.proofs.SeenEnds.{seen_each}

-- what is so of one place, and of each other, is so of each
pub by_place : (Holds : ℕ → Type 0) (at : ℕ) → Holds at → ((place : ℕ) → place ≢ at → Holds place) → (place : ℕ) → Holds place
by_place Holds at here away place = ⊎_elim (λ one. subst Holds (sym one) here) (away place) (cases_eq place at)

module _ {J T A O I : Type 0} (reach : Reach J T A O I) (old new : List O) (sees : SeeGiven reach old new) where
  -- the end that stood where an end stands
  abbrev stood : ℕ → O → O
  stood core end = get_or old core end

  was_there : (core : ℕ) (end : O) → slice_get new core ≡ Some end → slice_get old core ≡ Some (stood core end)
  was_there core end there = slice_get-get_or old core end (omega (arith, slice_get_within new core end there, sees.count))

  shows_more : (core : ℕ) (end : O) → slice_get new core ≡ Some end → ShowsMore (reach.sides.out (stood core end)) (reach.sides.out end)
  shows_more core end there =
      let more = sees.each core (stood core end) end (was_there core end there) there in
      record { rest = more.0 ∙ (λ i. record (reach.sides.out (stood core end)) { seen = (reach.sides.out end).seen; closed = sym (ap (λ (out : Outward J T). out.closed) more.0) i }); seen = more.1 }

  -- ends that see more outcomes stay beside their desk
  module _ {fits : Order J → Outcome J T → Type 0} where
    pub outs_see_given : (desk : DeskView J T) → AreOutsOf fits reach.sides.out reach.sides.credited desk old → AreOutsOf fits reach.sides.out reach.sides.credited desk new
    outs_see_given desk are = record {
      count = sees.count ∙ are.count;
      beside = λ core end there.
          let was = was_there core end there in
          subst (IsOutOf core desk (reach.sides.out end)) (sym (sees.each core (stood core end) end was there).2)
          (sees_more_out core desk (reach.sides.out (stood core end)) (reach.sides.out end) (reach.sides.credited (stood core end)) (shows_more core end there) (are.beside core (stood core end) was));
      lanes = λ core end there.
          let was = was_there core end there in
          subst (HasLane fits core desk (reach.sides.out end)) (sym (sees.each core (stood core end) end was there).2)
          (sees_more_lane fits core desk (reach.sides.out (stood core end)) (reach.sides.out end) (reach.sides.credited (stood core end)) (shows_more core end there) (are.lanes core (stood core end) was));
    }

  -- and know no less of their links
  pub know_given : SeesNoLess (seen_by reach.sides.out old) (seen_by reach.sides.out new)
  know_given = seen_each reach.sides.out old new (λ core was at.
      let end : O = get_or new core was in
      let there : slice_get new core ≡ Some end = slice_get-get_or new core was (omega (arith, slice_get_within old core was at, sees.count)) in
      let more = sees.each core was end at there in (
        end,
        there,
        (λ shut. (ap (λ (out : Outward J T). out.closed) more.0 ∙ shut, ap (λ (out : Outward J T). out.sent) more.0)),
        subst (λ sent. IsPrefix (reach.sides.out was).sent sent) (sym (ap (λ (out : Outward J T). out.sent) more.0)) (IsPrefix-self (reach.sides.out was).sent),
        ap (λ (out : Outward J T). out.base) more.0,
      ))

-- an outcome is owed under a name, if there is one, and no other is
module _ {J T A O I : Type 0} {meaning : Meaning J T} {reach : Reach J T A O I} (laws : IsAround reach) {own : ℕ} {view : RecordedView J T} {around : A} (name : JobId) (outcome : Option (Outcome J T))
    (owing : AreAround meaning reach own (owed_under name outcome) view around) (known : name.from ≤ view.core.cores) where
  -- the end of its sender is beside the core, except for that outcome
  pub end_owing : (end : I) → end ≡ reach.in_at own name.from around → IsInOwing name.from (told_under name (option_map outcome_note outcome) name.from) view (reach.sides.inward end)
  end_owing end is = subst (λ end. IsInOwing name.from (told_under name (option_map outcome_note outcome) name.from) view (reach.sides.inward end)) (sym is) (owing.ins name.from known)

  here : reach.HasIn own name.from around
  here = owing.has_ins name.from known

  -- and is given there: then none is owed
  module _ (end : I) (gave : Gave reach name.number outcome (reach.in_at own name.from around) end) where
    sees : SeeGiven reach (reach.outs own around) (reach.outs own (reach.with_in own name.from end around))
    sees = laws.outs_see own name.from name.number outcome end around here owing.has_outs gave

    pub given_around : IsInOf name.from view (reach.sides.inward end) → AreAround meaning reach own none_owed view (reach.with_in own name.from end around)
    given_around beside = record {
      has_outs = laws.outs_stay own name.from end around here owing.has_outs;
      has_ins = λ sender there. laws.in_there own name.from sender end around here (owing.has_ins sender there);
      outs = outs_see_given reach _ _ sees (desk_of view) owing.outs;
      ins =
          by_place (λ at. at ≤ view.core.cores → IsInOf at view (reach.sides.inward (reach.in_at own at (reach.with_in own name.from end around)))) name.from
          (λ there. subst (λ one. IsInOf name.from view (reach.sides.inward one)) (sym (laws.in_put own name.from end around here)) beside)
          (λ sender away there. subst (λ one. IsInOf sender view (reach.sides.inward one)) (sym (laws.in_others own name.from sender end around here away))
          (subst (λ owed. IsInOwing sender owed view (reach.sides.inward (reach.in_at own sender around))) (told_elsewhere name (option_map outcome_note outcome) sender away) (owing.ins sender there)));
    }

    -- each poll stays owed
    pub given_owed : PollsAsOwed meaning reach own view around → PollsAsOwed meaning reach own view (reach.with_in own name.from end around)
    given_owed owed = sees_more_owed meaning _ _ (know_given reach _ _ sees) view owed

-- the same in the words of the kind of end that was lent
module _ {J T A O I : Type 0} (reach : Reach J T A O I) {sides : Sides J T O I} (same : reach.sides ≡ sides) where
  pub end_lent : {sender : ℕ} {owed : Option (JobId × OutcomeNote T)} {view : RecordedView J T} {end : I} → IsInOwing sender owed view (reach.sides.inward end) → IsInOwing sender owed view (sides.inward end)
  end_lent {sender} {owed} {view} {end} is = subst (λ (sides : Sides J T O I). IsInOwing sender owed view (sides.inward end)) same is

  pub end_back : {sender : ℕ} {view : RecordedView J T} {end : I} → IsInOf sender view (sides.inward end) → IsInOf sender view (reach.sides.inward end)
  end_back {sender} {view} {end} is = subst (λ (sides : Sides J T O I). IsInOf sender view (sides.inward end)) (sym same) is

  pub gave_on : (number : ℕ) (outcome : Option (Outcome J T)) (was before end : I) → before ≡ was → Gives (sides.inward before) number outcome (sides.inward end) → sides.held end ≡ sides.held before →
      Gave reach number outcome was end
  gave_on number outcome was before end is gives held =
      subst (λ was. Gave reach number outcome was end) is
      (record {
        gives = subst (λ (sides : Sides J T O I). Gives (sides.inward before) number outcome (sides.inward end)) (sym same) gives;
        held = subst (λ (sides : Sides J T O I). sides.held end ≡ sides.held before) (sym same) held;
      })

-- what is owed under a name is owed to its sender
pub owed_here : {T : Type 0} (name : JobId) (what : OutcomeNote T) → told_under name (Some what) name.from ≡ Some (name, what)
owed_here name what = ap (λ test. cond test (Some (name, what)) None) (eq-eqb name.from name.from refl)
