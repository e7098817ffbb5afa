-- Rising keys around a middle one.
use Rattle.std.proofs.Common.{◌≡◌, Bool, true, false, not, ◌||◌, List, [], ◌∷◌, ◌++◌, refl, ap, ◌∙◌, inl, inr, arith}
use Rattle.std.proofs.lemmas.Bool.{cond-true, cond-false, cases_Bool, or_from}
use Rattle.std.proofs.lemmas.List.Folds.{list_any-append}
use Rattle.std.proofs.lemmas.List.Elements.{filter-append}
use Rattle.base_words.specs.declared.names.Key.{Key}
use Rattle.core_timeline.specs.Rising.{StandsBefore, stands_before, same_key, EachKey, IsRising, has_key, inserted, removed}
use Rattle.core_timeline.proofs.Before.{Decides-stands_before, Decides-same_key, StandsBefore-trans, not_before_earlier, same_key-before, same_key-behind, same_key-between}

pub EachKey-front : (P : Key → Type 0) (front back : List Key) → EachKey P (front ++ back) → EachKey P front
EachKey-front P [] back all = tt
EachKey-front P (key ∷ later) back all = (all.0, EachKey-front P later back all.1)

pub EachKey-back : (P : Key → Type 0) (front back : List Key) → EachKey P (front ++ back) → EachKey P back
EachKey-back P [] back all = all
EachKey-back P (key ∷ later) back all = EachKey-back P later back all.1

pub EachKey-append : (P : Key → Type 0) (front back : List Key) → EachKey P front → EachKey P back → EachKey P (front ++ back)
EachKey-append P [] back first second = second
EachKey-append P (key ∷ later) back first second = (first.0, EachKey-append P later back first.1 second)

pub EachKey-weaker : (P Q : Key → Type 0) → ((key : Key) → P key → Q key) → (keys : List Key) → EachKey P keys → EachKey Q keys
EachKey-weaker P Q weaker [] all = tt
EachKey-weaker P Q weaker (key ∷ later) all = (weaker key all.0, EachKey-weaker P Q weaker later all.1)

pub IsRising-front : (front back : List Key) → IsRising (front ++ back) → IsRising front
IsRising-front [] back rising = tt
IsRising-front (key ∷ later) back rising = (EachKey-front (StandsBefore key) later back rising.0, IsRising-front later back rising.1)

pub IsRising-back : (front : List Key) (middle : Key) (back : List Key) → IsRising (front ++ middle ∷ back) → IsRising back
IsRising-back [] middle back rising = rising.1
IsRising-back (key ∷ later) middle back rising = IsRising-back later middle back rising.1

-- each key of the front is before the middle one
pub front_before : (front : List Key) (middle : Key) (back : List Key) → IsRising (front ++ middle ∷ back) → EachKey (λ key. StandsBefore key middle) front
front_before [] middle back rising = tt
front_before (key ∷ later) middle back rising = ((EachKey-back (StandsBefore key) later (middle ∷ back) rising.0).0, front_before later middle back rising.1)

-- each key of the back is behind the middle one
behind_middle : (front : List Key) (middle : Key) (back : List Key) → IsRising (front ++ middle ∷ back) → EachKey (StandsBefore middle) back
behind_middle [] middle back rising = rising.0
behind_middle (key ∷ later) middle back rising = behind_middle later middle back rising.1

or_false : (b : Bool) → (b || false) ≡ b
or_false true = refl
or_false false = refl

or_true : (b : Bool) → (b || true) ≡ true
or_true true = refl
or_true false = refl

pub inserted-before : (key next : Key) (later : List Key) → stands_before key next ≡ true → inserted key (next ∷ later) ≡ key ∷ next ∷ later
inserted-before key next later early = cond-true _ _ _ early

pub inserted-behind : (key next : Key) (later : List Key) → stands_before key next ≡ false → inserted key (next ∷ later) ≡ next ∷ inserted key later
inserted-behind key next later late = cond-false _ _ _ late

pub inserted-left : (key : Key) (front : List Key) (middle : Key) (back : List Key) → stands_before key middle ≡ true → inserted key (front ++ middle ∷ back) ≡ inserted key front ++ middle ∷ back
inserted-left key [] middle back early = inserted-before key middle back early
inserted-left key (next ∷ later) middle back early =
    elim (cases_Bool (stands_before key next)) [
      | inl sooner ↦ rw sooner refl
      | inr later_on ↦ rw later_on (ap (λ keys. next ∷ keys) (inserted-left key later middle back early))
    ]

pub inserted-right : (key : Key) (front : List Key) (middle : Key) (back : List Key) → stands_before key middle ≡ false → IsRising (front ++ middle ∷ back) → inserted key (front ++ middle ∷ back) ≡ front ++ middle ∷ inserted key back
inserted-right key [] middle back late rising = inserted-behind key middle back late
inserted-right key (next ∷ later) middle back late rising =
    let early = front_before (next ∷ later) middle back rising in
    inserted-behind key next (later ++ middle ∷ back) (not_before_earlier key middle next late early.0)
    ∙ ap (λ keys. next ∷ keys) (inserted-right key later middle back late rising.1)

-- what is asked for is none of these keys
abbrev pub AreOthers : Key → List Key → Type 0
AreOthers key keys = EachKey (λ other. same_key key other ≡ false) keys

pub others_behind : (key middle : Key) (back : List Key) → StandsBefore key middle → EachKey (StandsBefore middle) back → AreOthers key back
others_behind key middle back before later =
    EachKey-weaker _ _ (λ other behind. same_key-before key other (StandsBefore-trans key middle other before behind)) back later

others_in_front : (key middle : Key) (front : List Key) → StandsBefore middle key → EachKey (λ other. StandsBefore other middle) front → AreOthers key front
others_in_front key middle front behind earlier =
    EachKey-weaker _ _ (λ other ahead. same_key-behind key other (StandsBefore-trans other middle key ahead behind)) front earlier

has_key-others : (key : Key) (keys : List Key) → AreOthers key keys → has_key key keys ≡ false
has_key-others key [] others = refl
has_key-others key (next ∷ later) others = or_from _ _ others.0 (has_key-others key later others.1)

pub removed-others : (key : Key) (keys : List Key) → AreOthers key keys → removed key keys ≡ keys
removed-others key [] others = refl
removed-others key (next ∷ later) others = rw others.0 (ap (λ keys. next ∷ keys) (removed-others key later others.1))

-- the rest of the keys from a middle one on, where the key stands before that
others_from : (key : Key) (front : List Key) (middle : Key) (back : List Key) → stands_before key middle ≡ true → IsRising (front ++ middle ∷ back) → AreOthers key (middle ∷ back)
others_from key front middle back early rising =
    let before = (Decides-stands_before key middle).0 early in
    (same_key-before key middle before, others_behind key middle back before (behind_middle front middle back rising))

others_up_to : (key : Key) (front : List Key) (middle : Key) (back : List Key) → stands_before middle key ≡ true → IsRising (front ++ middle ∷ back) → AreOthers key front × (same_key key middle ≡ false)
others_up_to key front middle back late rising =
    let behind = (Decides-stands_before middle key).0 late in
    (others_in_front key middle front behind (front_before front middle back rising), same_key-behind key middle behind)

-- the keys on both sides of this one are others
others_around : (key : Key) (front : List Key) (middle : Key) (back : List Key) → same_key key middle ≡ true → IsRising (front ++ middle ∷ back) → AreOthers key front × AreOthers key back
others_around key front middle back same rising =
    let parts = (Decides-same_key key middle).0 same in (
      EachKey-weaker _ _ (λ other ahead. same_key-behind key other (grind arith)) front (front_before front middle back rising),
      EachKey-weaker _ _ (λ other behind. same_key-before key other (grind arith)) back (behind_middle front middle back rising),
    )

pub has_key-left : (key : Key) (front : List Key) (middle : Key) (back : List Key) → stands_before key middle ≡ true → IsRising (front ++ middle ∷ back) → has_key key (front ++ middle ∷ back) ≡ has_key key front
has_key-left key front middle back early rising =
    let others = others_from key front middle back early rising in
    list_any-append (same_key key) front (middle ∷ back) ∙ rw (has_key-others key (middle ∷ back) others) (or_false (has_key key front))

pub has_key-right : (key : Key) (front : List Key) (middle : Key) (back : List Key) → stands_before middle key ≡ true → IsRising (front ++ middle ∷ back) → has_key key (front ++ middle ∷ back) ≡ has_key key back
has_key-right key front middle back late rising =
    let others = others_up_to key front middle back late rising in
    list_any-append (same_key key) front (middle ∷ back) ∙ rw (has_key-others key front others.0, others.1) refl

pub has_key-middle : (key : Key) (front : List Key) (middle : Key) (back : List Key) → same_key key middle ≡ true → has_key key (front ++ middle ∷ back) ≡ true
has_key-middle key front middle back same = list_any-append (same_key key) front (middle ∷ back) ∙ rw same (or_true (has_key key front))

pub removed-left : (key : Key) (front : List Key) (middle : Key) (back : List Key) → stands_before key middle ≡ true → IsRising (front ++ middle ∷ back) → removed key (front ++ middle ∷ back) ≡ removed key front ++ middle ∷ back
removed-left key front middle back early rising =
    filter-append (λ other. not (same_key key other)) front (middle ∷ back)
    ∙ ap (λ keys. removed key front ++ keys) (removed-others key (middle ∷ back) (others_from key front middle back early rising))

pub removed-right : (key : Key) (front : List Key) (middle : Key) (back : List Key) → stands_before middle key ≡ true → IsRising (front ++ middle ∷ back) → removed key (front ++ middle ∷ back) ≡ front ++ middle ∷ removed key back
removed-right key front middle back late rising =
    let others = others_up_to key front middle back late rising in
    filter-append (λ other. not (same_key key other)) front (middle ∷ back)
    ∙ rw (removed-others key front others.0, others.1) refl

pub removed-middle : (key : Key) (front : List Key) (middle : Key) (back : List Key) → same_key key middle ≡ true → IsRising (front ++ middle ∷ back) → removed key (front ++ middle ∷ back) ≡ front ++ back
removed-middle key front middle back same rising =
    let others = others_around key front middle back same rising in
    filter-append (λ other. not (same_key key other)) front (middle ∷ back)
    ∙ rw (removed-others key front others.0, same) (ap (λ keys. front ++ keys) (removed-others key back others.1))

pub removed-same : (key middle : Key) (back : List Key) → same_key key middle ≡ true → IsRising (middle ∷ back) → removed key (middle ∷ back) ≡ back
removed-same key middle back same rising = removed-middle key [] middle back same rising

-- what a step down a tree asks of the keys around the top node's
pub ruleset around = (IsRising-front, IsRising-back, inserted-left, inserted-right, has_key-left, has_key-right, has_key-middle, removed-left, removed-right, removed-middle, same_key-between)
