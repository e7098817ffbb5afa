-- Bells in their places, and rings one after another.
use Rattle.actor_seat.proofs.Names.{ap, AreApart, AreInPlace, arith, bells_view, BellView, cases_eq, drop, drop-append_seam, get_or, get_or-append_seam, get_or-map, get_or-set_other, get_or-set_same, get_or_append_left, get_or_default}
use Rattle.actor_seat.proofs.Names.{Grows, HasRung, IsNamedFor, Journal, length, length-map, length-reverse, length-set, List, map, map-append, map-set, map-set_same, no_bell, Note, once_more, refl, replicate, replicate-append-replicate}
use Rattle.actor_seat.proofs.Names.{reverse, reverse-append, rung_at, rung_at_some, rung_for, set, subst, sym, take, take_more, told_by, ℕ, [], ⊎_elim, ◌*◌, ◌++◌, ◌+◌, ◌<◌, ◌∙◌, ◌∷◌, ◌≡◌, ◌≢◌, ◌≤◌}
use Rattle.std.proofs.Common.{length-append}

-- one more bell behind the others
pub one_more_in_place : (bells : List BellView) (bell : BellView) → AreInPlace bells → IsNamedFor (length bells) bell → AreInPlace (bells ++ bell ∷ [])
one_more_in_place bells bell are is core low =
    ⊎_elim
    (λ (one : core ≡ length bells).
    subst (λ place. IsNamedFor place (get_or (bells ++ bell ∷ []) place no_bell)) (sym one) (subst (IsNamedFor (length bells)) (sym (get_or-append_seam bells bell [] no_bell)) is))
    (λ (away : core ≢ length bells).
    let before : core < length bells = omega (arith, low, away, length-append bells (bell ∷ [])) in
    subst (IsNamedFor core) (sym (get_or_append_left bells (bell ∷ []) no_bell core before)) (are core before))
    (cases_eq core (length bells))

-- bells in their places have names apart, where no house has more
pub names_apart : (bells : List BellView) → length bells ≤ 256 → AreInPlace bells → AreApart (map (λ bell. bell.name) bells)
names_apart bells few are one other low there same =
    let count : length (map (λ (bell : BellView). bell.name) bells) ≡ length bells = length-map bells (λ (bell : BellView). bell.name) in
    let one_low : one < length bells = omega (arith, low, count) in
    let other_low : other < length bells = omega (arith, there, count) in
    let first : get_or (map (λ (bell : BellView). bell.name) bells) one 0 ≡ 256 * (are one one_low).1.0 + one = get_or-map (λ (bell : BellView). bell.name) bells one no_bell 0 one_low ∙ (are one one_low).1.1 in
    let second : get_or (map (λ (bell : BellView). bell.name) bells) other 0 ≡ 256 * (are other other_low).1.0 + other = get_or-map (λ (bell : BellView). bell.name) bells other no_bell 0 other_low ∙ (are other other_low).1.1 in
    omega (arith, first, second, same, one_low, other_low, few)

-- none of them was rung
pub one_more_unrung : (bells : List BellView) (bell : BellView) (count : ℕ) → map (λ bell. bell.rings) bells ≡ replicate count 0 → bell.rings ≡ 0 → map (λ bell. bell.rings) (bells ++ bell ∷ []) ≡ replicate (count + 1) 0
one_more_unrung bells bell count are is =
    map-append (λ (bell : BellView). bell.rings) bells (bell ∷ []) ∙ (ap (λ rung. rung ++ bell.rings ∷ []) are ∙ (ap (λ rings. replicate count 0 ++ rings ∷ []) is ∙ replicate-append-replicate count 1 0))

-- one more bell that has the name of the one in its place
pub one_more_named : (bells all : List BellView) (bell : BellView) (place : ℕ) → map (λ bell. bell.name) bells ≡ take place (map (λ bell. bell.name) all) → place < length all → bell.name ≡ (get_or all place no_bell).name →
    map (λ bell. bell.name) (bells ++ bell ∷ []) ≡ take (place + 1) (map (λ bell. bell.name) all)
one_more_named bells all bell place are low is =
    map-append (λ (bell : BellView). bell.name) bells (bell ∷ [])
    ∙ (ap (λ names. names ++ bell.name ∷ []) are
    ∙ (ap (λ name. take place (map (λ (bell : BellView). bell.name) all) ++ name ∷ []) (is ∙ sym (get_or-map (λ (bell : BellView). bell.name) all place no_bell 0 low))
    ∙ sym (take_more (map (λ (bell : BellView). bell.name) all) place 0 (subst (λ count. place < count) (sym (length-map all (λ (bell : BellView). bell.name))) low))))

-- the bell in a place is had again, behind those before it
pub one_more_again : (all bells new : List BellView) (place : ℕ) (seen bell : BellView) → AreInPlace all → place < length all → seen ≡ get_or all place seen → bell ≡ record seen { rings = 0 } → new ≡ bells ++ bell ∷ [] → length bells ≡ place →
    map (λ bell. bell.rings) bells ≡ replicate place 0 → map (λ bell. bell.name) bells ≡ take place (map (λ bell. bell.name) all) → AreInPlace bells →
    (length new ≡ place + 1) × (map (λ bell. bell.rings) new ≡ replicate (place + 1) 0) × (map (λ bell. bell.name) new ≡ take (place + 1) (map (λ bell. bell.name) all)) × AreInPlace new
one_more_again all bells new place seen bell are low seen_is is new_is count unrung named in_place =
    let here : seen ≡ get_or all place no_bell = seen_is ∙ get_or_default all place seen no_bell low in
    let its_own : IsNamedFor (length bells) bell = subst (λ actor. IsNamedFor actor bell) (sym count) (subst (IsNamedFor place) (sym is) (subst (IsNamedFor place) (sym here) (are place low))) in (
      (let longer : length new ≡ length bells + length (bell ∷ []) = ap length new_is ∙ length-append bells (bell ∷ []) in omega (arith, longer, count)),
      ap (map (λ (bell : BellView). bell.rings)) new_is ∙ one_more_unrung bells bell place unrung (ap (λ (bell : BellView). bell.rings) is),
      ap (map (λ (bell : BellView). bell.name)) new_is ∙ one_more_named bells all bell place named low (ap (λ (bell : BellView). bell.name) is ∙ ap (λ (bell : BellView). bell.name) here),
      subst AreInPlace (sym new_is) (one_more_in_place bells bell in_place its_own),
    )

module _ (bells : List BellView) (core : ℕ) (bell new : BellView) (low : core < length bells) (is : bell ≡ get_or bells core bell) (rung : new ≡ record bell { rings = once_more bell.rings }) where
  its_bell : bell ≡ get_or bells core no_bell
  its_bell = is ∙ get_or_default bells core bell no_bell low

  -- the bell of a core is rung
  pub bell_rung : map (λ bell. bell.rings) (set bells core new) ≡ rung_at core (map (λ bell. bell.rings) bells)
  bell_rung =
      map-set (λ (bell : BellView). bell.rings) bells core new
      ∙ ap (set (map (λ (bell : BellView). bell.rings) bells) core)
      (ap (λ (bell : BellView). bell.rings) rung ∙ (ap (λ (bell : BellView). once_more bell.rings) its_bell ∙ ap once_more (sym (get_or-map (λ (bell : BellView). bell.rings) bells core no_bell 0 low))))

  pub bell_view_rung : bells_view (set bells core new) ≡ record (bells_view bells) { rings = rung_at core (bells_view bells).rings }
  bell_view_rung =
      ap (λ names. record { names = names; rings = map (λ (bell : BellView). bell.rings) (set bells core new) })
      (map-set_same (λ (bell : BellView). bell.name) bells core new no_bell (ap (λ (bell : BellView). bell.name) rung ∙ ap (λ (bell : BellView). bell.name) its_bell))
      ∙ ap (λ rings. record { names = map (λ (bell : BellView). bell.name) bells; rings = rings }) bell_rung

  pub still_in_place : AreInPlace bells → AreInPlace (set bells core new)
  still_in_place are other there =
      ⊎_elim
      (λ (one : other ≡ core).
      subst (λ place. IsNamedFor place (get_or (set bells core new) place no_bell)) (sym one)
      (subst (IsNamedFor core) (sym (get_or-set_same bells core new no_bell low ∙ rung)) (subst (IsNamedFor core) (sym its_bell) (are core low))))
      (λ (away : other ≢ core).
      subst (IsNamedFor other) (sym (get_or-set_other bells core other new no_bell away)) (are other (omega (arith, there, length-set bells core new))))
      (cases_eq other core)

module _ {T : Type 0} where
  -- rings for some notes, and then for others
  pub rung_along : (notes later : List (Note T)) (rung : List ℕ) → rung_for (notes ++ later) rung ≡ rung_for later (rung_for notes rung)
  rung_along [] later rung = refl
  rung_along (note ∷ notes) later rung = rung_along notes later (rung_at_some (told_by note) rung)

  -- a journal that has grown, after the rings for its new notes
  pub rung_since : (cores : ℕ) (old newer new : Journal T) (before after : List ℕ) → HasRung cores old before → new ≡ newer ++ old → after ≡ rung_for (reverse newer) before → HasRung cores new after
  rung_since cores old newer new before after has grew rings =
      rings
      ∙ (ap (rung_for (reverse newer)) has
      ∙ (sym (rung_along (reverse old) (reverse newer) (replicate (cores + 1) 0)) ∙ ap (λ notes. rung_for notes (replicate (cores + 1) 0)) (sym (ap reverse grew ∙ reverse-append newer old))))

  -- the same, where the rings are for the notes behind the old ones
  pub rung_behind : (cores : ℕ) (old new : Journal T) (before after : List ℕ) → HasRung cores old before → Grows old new → after ≡ rung_for (drop (length old) (reverse new)) before → HasRung cores new after
  rung_behind cores old new before after has grows rings =
      let split : drop (length old) (reverse old ++ reverse grows.0) ≡ reverse grows.0 = ap (λ count. drop count (reverse old ++ reverse grows.0)) (sym (length-reverse old)) ∙ drop-append_seam (reverse old) (reverse grows.0) in
      rung_since cores old grows.0 new before after has grows.1
      (rings ∙ ap (λ notes. rung_for notes before) (ap (λ notes. drop (length old) (reverse notes)) grows.1 ∙ (ap (drop (length old)) (reverse-append grows.0 old) ∙ split)))
