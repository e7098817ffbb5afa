-- The keys of the front before those of the tree.
use Rattle.std.proofs.Common.{◌≡◌, ◌≢◌, ℕ, zero, suc, ◌+◌, ◌*◌, ◌<◌, ◌≤◌, ◌^◌, true, false, not, ◌||◌, ◌==◌, List, [], ◌∷◌, ◌++◌, length, refl, ap, ◌∙◌, inl, inr, arith, length-append}
use Rattle.std.proofs.lemmas.Bool.{cases_Bool, both_ways, false_from_ne_true}
use Rattle.std.proofs.lemmas.List.Folds.{list_any-append}
use Rattle.std.proofs.lemmas.List.Elements.{filter-append}
use Rattle.base_words.specs.declared.names.Key.{Key}
use Rattle.core_timeline.specs.Rising.{StandsBefore, LastStandsBefore, stands_before, same_key, EachKey, IsRising, LacksQueue, IsOfQueues, has_key, has_queue, inserted, removed}
use Rattle.core_timeline.specs.Tree.{KeyTree, IsFilled, IsLow}
use Rattle.core_timeline.specs.Led.{levels, led_keys, led, IsLed}
use Rattle.core_timeline.proofs.Before.{Decides-stands_before, StandsBefore-trans}
use Rattle.core_timeline.proofs.Rising.{EachKey-front, EachKey-back, EachKey-weaker, inserted-before, inserted-behind, AreOthers, removed-others}
use Rattle.core_timeline.proofs.Before.{Decides-same_key, same_key-before}
use Rattle.core_timeline.proofs.Heights.{IsLow-from_filled}
use Rattle.core_timeline.proofs.Queues.{length-inserted}

pub IsRising-later : (first later : List Key) → IsRising (first ++ later) → IsRising later
IsRising-later [] later rising = rising
IsRising-later (next ∷ more) later rising = IsRising-later more later rising.1

-- a key that stands behind all of the front goes among those of the tree

behind_last : (one key : Key) (keys : List Key) → EachKey (StandsBefore one) keys → LastStandsBefore keys key → StandsBefore one key
behind_last one key [] all last = absurd last
behind_last one key (next ∷ []) all last = StandsBefore-trans one next key all.0 last
behind_last one key (next ∷ other ∷ later) all last = behind_last one key (other ∷ later) all.1 last

not_before-behind : (one key : Key) → StandsBefore one key → stands_before key one ≡ false
not_before-behind one key before = false_from_ne_true _ (λ e. let early = (Decides-stands_before key one).0 e in grind arith)

pub inserted-behind_front : (key : Key) (first later : List Key) → LastStandsBefore first key → IsRising (first ++ later) → inserted key (first ++ later) ≡ first ++ inserted key later
inserted-behind_front key [] later last rising = absurd last
inserted-behind_front key (next ∷ []) later last rising = inserted-behind key next later (not_before-behind next key last)
inserted-behind_front key (next ∷ other ∷ more) later last rising =
    let before = behind_last next key (other ∷ more) (EachKey-front (StandsBefore next) (other ∷ more) later rising.0) last in
    inserted-behind key next ((other ∷ more) ++ later) (not_before-behind next key before)
    ∙ ap (λ keys. next ∷ keys) (inserted-behind_front key (other ∷ more) later last rising.1)

-- any other key goes among those of the front

-- of keys of two queues, one that doesn't stand behind the other stands before it
stands_before-other : (last key : Key) → last.queue ≢ key.queue → ¬ StandsBefore last key → StandsBefore key last
stands_before-other last key differs not_behind = grind arith

pub before_later : (key : Key) (first later : List Key) → first ≢ [] → ¬ LastStandsBefore first key → LacksQueue key.queue (first ++ later) → IsRising (first ++ later) → EachKey (StandsBefore key) later
before_later key [] later some not_behind lacks rising = absurd (some refl)
before_later key (last ∷ []) later some not_behind lacks rising =
    let before = stands_before-other last key lacks.0 not_behind in
    EachKey-weaker _ _ (λ other behind. StandsBefore-trans key last other before behind) later rising.0
before_later key (one ∷ next ∷ more) later some not_behind lacks rising =
    before_later key (next ∷ more) later (λ e. absurd (omega (arith, ap (λ (keys : List Key). length keys) e))) not_behind lacks.1 rising.1

inserted-least : (key : Key) (keys : List Key) → EachKey (StandsBefore key) keys → inserted key keys ≡ key ∷ keys
inserted-least key [] before = refl
inserted-least key (next ∷ later) before = inserted-before key next later ((Decides-stands_before key next).1 before.0)

pub inserted-in_front : (key : Key) (first later : List Key) → EachKey (StandsBefore key) later → inserted key (first ++ later) ≡ inserted key first ++ later
inserted-in_front key [] later before = inserted-least key later before
inserted-in_front key (next ∷ more) later before =
    elim (cases_Bool (stands_before key next)) [
      | inl sooner ↦ rw sooner refl
      | inr behind ↦ rw behind (ap (λ keys. next ∷ keys) (inserted-in_front key more later before))
    ]

-- the last key of the front gives way: it becomes the first of the tree
pub inserted-given_way : (last : Key) (front later : List Key) → IsRising ((front ++ last ∷ []) ++ later) → front ++ inserted last later ≡ (front ++ last ∷ []) ++ later
inserted-given_way last [] later rising = inserted-least last later rising.0
inserted-given_way last (next ∷ more) later rising = ap (λ keys. next ∷ keys) (inserted-given_way last more later rising.1)

-- and the key that comes stands before it too
pub before_given_way : (key last : Key) (front later : List Key) → ¬ LastStandsBefore (front ++ last ∷ []) key → LacksQueue key.queue ((front ++ last ∷ []) ++ later) → IsRising ((front ++ last ∷ []) ++ later) → EachKey (StandsBefore key) (inserted last later)
before_given_way key last [] later not_behind lacks rising =
    let before = stands_before-other last key lacks.0 not_behind in
    rw (inserted-least last later rising.0) (before, EachKey-weaker _ _ (λ other behind. StandsBefore-trans key last other before behind) later rising.0)
before_given_way key last (next ∷ []) later not_behind lacks rising = before_given_way key last [] later not_behind lacks.1 rising.1
before_given_way key last (next ∷ other ∷ more) later not_behind lacks rising = before_given_way key last (other ∷ more) later not_behind lacks.1 rising.1

pub inserted-some : (key : Key) (keys : List Key) → inserted key keys ≢ []
inserted-some key keys e = absurd (omega (arith, ap (λ (keys : List Key). length keys) e, length-inserted key keys))

-- a key that is in the front isn't in the tree

pub later_others : (key : Key) (first later : List Key) → has_key key first ≡ true → IsRising (first ++ later) → AreOthers key later
later_others key [] later among rising = absurd (both_ways false refl among)
later_others key (next ∷ more) later among rising =
    elim (cases_Bool (same_key key next)) [
      | inl same ↦
          let parts = (Decides-same_key key next).0 same in
          EachKey-weaker _ _ (λ other behind. same_key-before key other (grind arith)) later (EachKey-back (StandsBefore next) more later rising.0)
      | inr differs ↦ later_others key more later (rw differs at among) rising.1
    ]

pub removed-from_front : (key : Key) (first later : List Key) → has_key key first ≡ true → IsRising (first ++ later) → removed key (first ++ later) ≡ removed key first ++ later
removed-from_front key first later among rising =
    filter-append (λ other. not (same_key key other)) first later
    ∙ ap (λ keys. removed key first ++ keys) (removed-others key later (later_others key first later among rising))

pub removed-from_tree : (key : Key) (first later : List Key) → removed key first ≡ first → removed key (first ++ later) ≡ first ++ removed key later
removed-from_tree key first later none = filter-append (λ other. not (same_key key other)) first later ∙ ap (λ keys. keys ++ removed key later) none

pub has_key-of_both : (key : Key) (first later : List Key) → has_key key (first ++ later) ≡ (has_key key first || has_key key later)
has_key-of_both key first later = list_any-append (same_key key) first later

pub has_queue-of_both : (queue : ℕ) (first later : List Key) → has_queue queue (first ++ later) ≡ (has_queue queue first || has_queue queue later)
has_queue-of_both queue first later = list_any-append (λ key. key.queue == queue) first later

-- where there are keys, the front has some
pub some_first : (first : List Key) (later : KeyTree) → IsLed first later → 0 < length (led_keys first later) → first ≢ []
some_first [] later is some none = absurd (omega (arith, some, ap (λ (tree : KeyTree). length tree.keys) (is refl)))
some_first (next ∷ more) later is some none = absurd (omega (arith, ap (λ (keys : List Key). length keys) none))

-- the levels of the front are few

levels-le : (count : ℕ) → levels count ≤ 6
levels-le count = grind arith

levels-low : (count digits : ℕ) → count + 1 < 2 ^ digits → levels count ≤ 2 * digits
levels-low count zero below = absurd (omega arith)
levels-low count (suc zero) below = let none : count ≡ 0 = omega arith in rw none (omega arith)
levels-low count (suc (suc zero)) below = grind arith
levels-low count (suc (suc (suc digits))) below = omega (arith, levels-le count)

pub IsLow-led : (first : List Key) (later : KeyTree) → IsFilled later → IsLow (led first later)
IsLow-led first later filled = λ digits below.
    let all = length-append first later.keys in
    let front = levels-low (length first) digits (omega (arith, all)) in
    let tree = IsLow-from_filled later filled digits (omega (arith, all)) in
    omega (arith, front, tree)

-- what a node that is taken out asks of the front and of the tree
pub ruleset of_both = (removed-from_tree, has_key-of_both)

-- the only key is in the front, and stands elsewhere from then on
none-left : (keys : List Key) → length keys ≡ 0 → keys ≡ []
none-left [] none = refl
none-left (key ∷ later) none = absurd (omega arith)

pub moved-only : (first moved : List Key) (later : KeyTree) (vr count : ℕ) → count ≡ 1 → IsOfQueues (led_keys first later) × (count ≡ length (led_keys first later)) × IsLed first later →
    ((key : Key) → first ≡ key ∷ [] → moved ≡ (record { vr = vr; queue = key.queue }) ∷ []) → IsOfQueues (led_keys moved later) × (count ≡ length (led_keys moved later)) × IsLed moved later
moved-only [] moved later vr count one was moves =
    let none = ap (λ (tree : KeyTree). length tree.keys) (was.2 refl) in
    absurd (omega (arith, was.1, one, none))
moved-only (key ∷ more) moved later vr count one was moves =
    let parts : length (more ++ later.keys) ≡ length more + length later.keys = length-append more later.keys in
    let front : more ≡ [] = none-left more (omega (arith, was.1, one, parts)) in
    let tree : later.keys ≡ [] = none-left later.keys (omega (arith, was.1, one, parts)) in
    let is : moved ≡ (record { vr = vr; queue = key.queue }) ∷ [] = moves key (ap (λ keys. key ∷ keys) front) in
    rw (is, tree) (record { rising = (tt, tt); distinct = (tt, tt); numbered = (was.0.numbered.0, tt) }, one, λ none. cc)
