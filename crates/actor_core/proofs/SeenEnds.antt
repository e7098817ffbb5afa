-- Ends of which each knows no less than the one that stood in its place.
use Rattle.actor_core.proofs.Names.{◌≡◌, ℕ, ◌+◌, ◌<◌, true, List, [], ◌∷◌, ◌++◌, length, Some, refl, sym, ◌∙◌, ap, subst, arith, inl, inr, slice_get, slice_get_within, Outward, PostView, HasPosted}
use Rattle.std.proofs.Common.{set, get_or, get_or-set_same}
use Rattle.std.proofs.Math.Seq.{get_or-append_seam}
use Rattle.std.proofs.lemmas.List.{length-set, length-append, get_or_append_left, get_or-set_other}
use Rattle.std.proofs.lemmas.Option.{slice_get-get_or, get_or_from_slice_get}
use Rattle.actor_desk.specs.Posts.{SendsMore}
use Rattle.actor_desk.specs.Tickets.{GetsAll}
use Rattle.base_words.proofs.Prefixes.{IsPrefix-self}
use Rattle.base_words.specs.Assembly.{IsPrefix}
use Rattle.std.proofs.lemmas.Bool.Decides.{eqb_tells}
use Rattle.actor_core.specs.RightAnswers.{SeesNoLess}
use Rattle.actor_core.specs.OwedPolls.{seen_by}

-- an item stays at its place where the list grows
pub at_front : {A : Type 0} (items more : List A) (place : ℕ) (item : A) → slice_get items place ≡ Some item → slice_get (items ++ more) place ≡ Some item
at_front items more place item there =
    let within : place < length items = slice_get_within items place item there in
    slice_get-get_or (items ++ more) place item (omega (arith, within, length-append items more))
    ∙ ap Some (get_or_append_left items more item place within ∙ get_or_from_slice_get items place item item there)

-- the item that comes last stands behind the others
pub at_end : {A : Type 0} (items : List A) (item : A) → slice_get (items ++ item ∷ []) (length items) ≡ Some item
at_end items item =
    slice_get-get_or (items ++ item ∷ []) (length items) item (omega (arith, length-append items (item ∷ []))) ∙ ap Some (get_or-append_seam items item [] item)

-- ends of which each knows no less than the one that stood in its place
module _ {J T E : Type 0} (out : E → Outward J T) (old new : List E) where
  abbrev pub EachKnowsNoLess : Type 0
  EachKnowsNoLess = (core : ℕ) (was : E) → slice_get old core ≡ Some was →
      (end : E) × (slice_get new core ≡ Some end) × ((out was).closed ≡ true → ((out end).closed ≡ true) × ((out end).sent ≡ (out was).sent)) × IsPrefix (out was).sent (out end).sent × ((out end).base ≡ (out was).base)

  pub seen_each : EachKnowsNoLess → SeesNoLess (seen_by out old) (seen_by out new)
  seen_each each = record {
    shut = λ core final saw.
        let now = each core saw.0 saw.1 in
        (now.0, now.1, (now.2 saw.2).0, saw.3 ∙ sym (λ i. now.4 i + length ((now.2 saw.2).1 i)));
    sent = λ name order saw.
        let now = each name.to saw.0 saw.1 in (
          now.0,
          now.1,
          (
            saw.2.0,
            saw.2.1 ∙ sym (ap (λ base. base + saw.2.0 + 1) now.4),
            ap (λ sent. slice_get sent saw.2.0) now.3.1 ∙ at_front (out saw.0).sent now.3.0 saw.2.0 order saw.2.2,
          ),
        );
  }

module _ {J T E : Type 0} {out : E → Outward J T} {untouched : E → List ℕ} (old new : PostView J T E) (posted : HasPosted out untouched old new) where
  -- ends that posted know no less
  pub seen_posted : SeesNoLess (seen_by out old.ends) (seen_by out new.ends)
  seen_posted = seen_each out old.ends new.ends (λ core was at.
      let end : E = get_or new.ends core was in
      let there : slice_get new.ends core ≡ Some end = slice_get-get_or new.ends core was (omega (arith, slice_get_within old.ends core was at, posted.count)) in
      let sent : SendsMore (out was) (out end) = (posted.ends core was end at there).1 in
      (end, there, (λ shut. (ap (λ (end : Outward J T). end.closed) (sent.2 shut) ∙ shut, ap (λ (end : Outward J T). end.sent) (sent.2 shut))), sent.1, ap (λ (end : Outward J T). end.base) sent.0))

-- ends of which one collected know no less
pub seen_got : {J T E : Type 0} (out : E → Outward J T) (ends : List E) (core : ℕ) (was end : E) → slice_get ends core ≡ Some was → GetsAll (out was) (out end) →
    SeesNoLess (seen_by out ends) (seen_by out (set ends core end))
seen_got {J} {T} {E} out ends core was end there gets = seen_each out ends (set ends core end) (λ other its at. elim (eqb_tells other core) [
  | inl one ↦
      let same : was ≡ its = let e : slice_get ends core ≡ Some its = ap (slice_get ends) (sym one.1) ∙ at in cc in
      let knows = subst (λ (its : E). ((out its).closed ≡ true → ((out end).closed ≡ true) × ((out end).sent ≡ (out its).sent)) × IsPrefix (out its).sent (out end).sent × ((out end).base ≡ (out its).base)) same
      ((λ shut. (ap (λ (end : Outward J T). end.closed) gets.0 ∙ shut, ap (λ (end : Outward J T). end.sent) gets.0)), subst (λ sent. IsPrefix (out was).sent sent) (sym (ap (λ (end : Outward J T). end.sent) gets.0)) (IsPrefix-self (out was).sent), ap (λ (end : Outward J T). end.base) gets.0) in
      let within : core < length (set ends core end) = omega (arith, length-set ends core end, slice_get_within ends core was there) in
      let stands : slice_get (set ends core end) other ≡ Some end =
      ap (slice_get (set ends core end)) one.1
      ∙ (slice_get-get_or (set ends core end) core end within ∙ ap Some (get_or-set_same ends core end end (slice_get_within ends core was there))) in
      (end, stands, knows.0, knows.1, knows.2)
  | inr away ↦
      let within : other < length (set ends core end) = omega (arith, length-set ends core end, slice_get_within ends other its at) in
      let stands : slice_get (set ends core end) other ≡ Some its =
      slice_get-get_or (set ends core end) other its within
      ∙ ap Some (get_or-set_other ends core other end its away.1 ∙ get_or_from_slice_get ends other its its at) in
      (its, stands, (λ shut. (shut, refl)), IsPrefix-self (out its).sent, refl)
])
