-- One outcome after another: what a lane is after all of them.
use Rattle.std.proofs.Common.{◌≡◌, ◌≢◌, inl, inr, ℕ, ◌+◌, ◌<◌, ◌≤◌, Bool, true, false, List, [], ◌∷◌, ◌++◌, length, take, get_or, Option, Some, None, refl, sym, ap, subst, ◌∙◌, arith, append_assoc, append-nil, length-append}
use Rattle.std.specs.Prelude.{slice_get, is_some, All, Contains}
use Rattle.std.proofs.lemmas.List.{take_more, get_or-take, length-take-le, length-take}
use Rattle.std.proofs.lemmas.List.Elements.{All-nil, All-push, All-pop, Contains-append_right, Contains-get_or}
use Rattle.std.proofs.lemmas.Option.{slice_get_within, slice_get-get_or, get_or_from_slice_get}
use Rattle.base_words.specs.declared.order.Order.{Order}
use Rattle.base_words.specs.declared.order.Outcome.{Outcome}
use Rattle.link_ends.specs.declared.ends.Outward.{Outward}
use Rattle.link_ends.specs.Ends.{AreDistinct}
use Rattle.base_words.proofs.Prefixes.{IsPrefix-self, IsPrefix-along}
use Rattle.link_ends.proofs.Lists.{slice_get-starts, take-starts}
use Rattle.actor_desk.specs.Held.{at, tally}
use Rattle.actor_desk.specs.Lanes.{Lane, is_detached, IsLaneOf}
use Rattle.actor_desk.specs.Steps.{Keeps, CollectsNext, Settles, CollectsThese, CollectsMany, CollectsAll}
use Rattle.actor_desk.specs.declared.entry.Entry.{Entry}
use Rattle.actor_desk.proofs.Taken.{taken-get}

-- one more
take-next : {A : Type 0} (items : List A) (n : ℕ) (found : A) → slice_get items n ≡ Some found → take (n + 1) items ≡ take n items ++ found ∷ []
take-next items n found is = take_more items n found (slice_get_within items n found is) ∙ ap (λ a. take n items ++ a ∷ []) (get_or_from_slice_get items n found found is)

-- what is in the beginning stands at a low place
placed : {A : Type 0} (items : List A) (n : ℕ) (found : A) → n ≤ length items → Contains (take n items) found → (k : ℕ) × (k < n) × (slice_get items k ≡ Some found)
placed items n found low contains =
    let k : ℕ = contains.0 in
    let short : length (take n items) ≡ n = length-take-le n items low in
    let within : k < length (take n items) = contains.1 in
    let under : k < n = omega arith in
    (k, under, slice_get-get_or items k found (omega arith) ∙ ap Some (sym (get_or-take n items k found under) ∙ contains.2))

module _ {J T : Type 0} where
  -- what becomes of the other entries, of the one whose outcome is taken in, and of those that are detached
  module _ (mid new : List (ℕ × Entry J T)) (number : ℕ) (outcome : Outcome J T) (between after : ℕ) where
    Keeps-others : Keeps mid new number outcome between after → (n : ℕ) → n ≢ number → at new n ≡ at mid n
    Keeps-others (inl kept) n other = kept.0.others n other
    Keeps-others (inr dropped) n other = dropped.0.others n other

    Keeps-settles : Keeps mid new number outcome between after → Settles (at mid number) outcome (at new number)
    Keeps-settles (inl kept) = subst (λ before. Settles before outcome (at new number)) (sym kept.0.was) kept.0.here
    Keeps-settles (inr dropped) = subst (λ before. Settles before outcome (at new number)) (sym dropped.0.was) dropped.0.gone

    Keeps-freed : Keeps mid new number outcome between after → after + tally new is_detached ≡ between + tally mid is_detached
    Keeps-freed (inl kept) = omega (arith, kept.1, kept.0.tallies is_detached)
    Keeps-freed (inr dropped) = omega (arith, dropped.1, dropped.0.tallies is_detached)

  -- nothing is collected yet
  pub CollectsMany-none : (lane : Lane J T) (out : Outward J T) (credited : ℕ) → CollectsMany lane lane out out credited credited 0
  CollectsMany-none lane out credited = (
    [],
    record {
      end = refl;
      longer = IsPrefix-self out.seen;
      in_order = sym (append-nil (take out.got out.seen));
      settled = All-nil (λ found. Settles (at lane.entries found.0) found.1 (at lane.entries found.0));
      others = λ number _. refl;
      freed = refl;
      rest = refl;
    },
    refl,
  )

  -- no more were collected than the end has got
  pub CollectsMany-low : (old new : Lane J T) (out later : Outward J T) (credited after count : ℕ) → CollectsMany old new out later credited after count → count ≤ later.got
  CollectsMany-low old new out later credited after count many =
      let whole : length (take later.got later.seen) ≡ length (take out.got out.seen) + length many.0 = ap length many.1.in_order ∙ length-append (take out.got out.seen) many.0 in
      omega (arith, length-take later.got later.seen, many.2)

  module _ (fits : Order J → Outcome J T → Type 0) (old mid new : Lane J T) (out shown later : Outward J T) (credited between after : ℕ) where
    -- the end sees more, and has got as much as before
    CollectsThese-seen : IsLaneOf fits mid shown between → (outcomes : List (ℕ × Outcome J T)) → CollectsThese old mid out shown credited between outcomes
        → CollectsNext mid new shown later between after None → CollectsThese old new out later credited after outcomes
    CollectsThese-seen l outcomes these next =
        let got : later.got ≡ shown.got = ap (λ (o : Outward J T). o.got) next.0.0 in
        let behind : shown.got ≤ length shown.seen = l.sound.behind in
        let whole : take later.got later.seen ≡ take out.got out.seen ++ outcomes =
        ap (λ n. take n later.seen) got ∙ (take-starts later.seen shown.seen shown.got next.0.1 behind ∙ these.in_order) in
        let end_is : later ≡ record out { seen = later.seen; got = later.got } =
        subst (λ n. later ≡ record shown { seen = later.seen; got = n }) (sym got) next.0.0 ∙ ap (λ (o : Outward J T). record o { seen = later.seen; got = later.got }) these.end in
        subst (λ n. CollectsThese old n out later credited after outcomes) (sym next.1)
        (subst (λ n. CollectsThese old mid out later credited n outcomes) (sym next.2)
        record {
          end = end_is;
          longer = IsPrefix-along out.seen shown.seen later.seen these.longer next.0.1;
          in_order = whole;
          settled = these.settled;
          others = these.others;
          freed = these.freed;
          rest = these.rest;
        })

    -- one more outcome
    module _ (l : IsLaneOf fits mid shown between) (distinct : AreDistinct (take later.got later.seen)) (outcomes : List (ℕ × Outcome J T)) (these : CollectsThese old mid out shown credited between outcomes)
        (found : ℕ × Outcome J T) (next : CollectsNext mid new shown later between after (Some found)) where
      behind : shown.got ≤ length shown.seen
      behind = l.sound.behind

      got : later.got ≡ shown.got + 1
      got = ap (λ (o : Outward J T). o.got) next.0.0

      -- its number is none of those before
      apart : (other : ℕ × Outcome J T) → Contains outcomes other → other.0 ≢ found.0
      apart other contains same =
          let low = placed shown.seen shown.got other behind (subst (λ xs. Contains xs other) (sym these.in_order) (Contains-append_right (take out.got out.seen) outcomes other contains)) in
          let here : slice_get later.seen low.0 ≡ Some other = slice_get-starts later.seen shown.seen low.0 next.0.1 (slice_get_within shown.seen low.0 other low.2) ∙ low.2 in
          let below : low.0 < shown.got = low.1 in
          let equal : low.0 ≡ shown.got = distinct low.0 shown.got other found (taken-get later.got later.seen low.0 other (omega (arith, got)) here) (taken-get later.got later.seen shown.got found (omega (arith, got)) next.0.2) same in omega arith

      all_apart : All (λ (other : ℕ × Outcome J T). other.0 ≢ found.0) outcomes
      all_apart k d low = apart (get_or outcomes k d) (Contains-get_or outcomes k d low)

      settled_before : All (λ (other : ℕ × Outcome J T). Settles (at old.entries other.0) other.1 (at new.entries other.0)) outcomes
      settled_before k d low =
          let other : ℕ × Outcome J T = get_or outcomes k d in
          subst (λ entry. Settles (at old.entries (get_or outcomes k d).0) (get_or outcomes k d).1 entry)
          (sym (Keeps-others mid.entries new.entries found.0 found.1 between after next.2 (get_or outcomes k d).0 (all_apart k d low))) (these.settled k d low)

      settled_now : Settles (at old.entries found.0) found.1 (at new.entries found.0)
      settled_now =
          subst (λ entry. Settles entry found.1 (at new.entries found.0)) (these.others found.0 all_apart)
          (Keeps-settles mid.entries new.entries found.0 found.1 between after next.2)

      others_now : (number : ℕ) → All (λ (other : ℕ × Outcome J T). other.0 ≢ number) (outcomes ++ found ∷ []) → at new.entries number ≡ at old.entries number
      others_now number away =
          let split = All-pop (λ (other : ℕ × Outcome J T). other.0 ≢ number) (outcomes ++ found ∷ []) outcomes (Some found) refl away in
          Keeps-others mid.entries new.entries found.0 found.1 between after next.2 number (λ e. split.1 (sym e)) ∙ these.others number split.0

      pub CollectsThese-next : CollectsThese old new out later credited after (outcomes ++ found ∷ [])
      CollectsThese-next = record {
        end = subst (λ n. later ≡ record shown { seen = later.seen; got = n }) (sym got) next.0.0 ∙ ap (λ (o : Outward J T). record o { seen = later.seen; got = later.got }) these.end;
        longer = IsPrefix-along out.seen shown.seen later.seen these.longer next.0.1;
        in_order =
            ap (λ n. take n later.seen) got
            ∙ (take-next later.seen shown.got found next.0.2
            ∙ (ap (λ xs. xs ++ found ∷ []) (take-starts later.seen shown.seen shown.got next.0.1 behind ∙ these.in_order)
            ∙ append_assoc (take out.got out.seen) outcomes (found ∷ [])));
        settled = All-push (λ (other : ℕ × Outcome J T). Settles (at old.entries other.0) other.1 (at new.entries other.0)) outcomes found settled_before settled_now;
        others = others_now;
        freed = Keeps-freed mid.entries new.entries found.0 found.1 between after next.2 ∙ these.freed;
        rest = next.1 ∙ ap (λ (lane : Lane J T). record lane { entries = new.entries }) these.rest;
      }

    -- a collection that finds one
    pub CollectsMany-next : IsLaneOf fits mid shown between → IsLaneOf fits new later after → (count : ℕ) → CollectsMany old mid out shown credited between count
        → (result : Bool) → result ≡ true → (found : Option (ℕ × Outcome J T)) → result ≡ is_some found → CollectsNext mid new shown later between after found
        → CollectsMany old new out later credited after (count + 1)
    CollectsMany-next l last count many result found_one None is next = absurd cc
    CollectsMany-next l last count many result found_one (Some found) is next = (
      many.0 ++ found ∷ [],
      CollectsThese-next l last.named.1 many.0 many.1 found next,
      length-append many.0 (found ∷ []) ∙ ap (λ n. n + 1) many.2,
    )

    -- one that finds none
    pub CollectsAll-end : IsLaneOf fits mid shown between → (count : ℕ) → CollectsMany old mid out shown credited between count
        → (result : Bool) → result ≡ false → (found : Option (ℕ × Outcome J T)) → result ≡ is_some found → CollectsNext mid new shown later between after found
        → CollectsAll old new out later credited after count
    CollectsAll-end l count many result found_none None is next =
        ((many.0, CollectsThese-seen l many.0 many.1 next, many.2), ap (λ (o : Outward J T). o.got) next.0.0 ∙ sym next.0.2)
    CollectsAll-end l count many result found_none (Some found) is next = absurd cc
