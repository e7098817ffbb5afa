-- The order of keys, and the test of it.
use Rattle.std.proofs.Common.{◌≡◌, true, false, sym, inl, inr, arith, Decides}
use Rattle.std.proofs.lemmas.Bool.{false_from_ne_true, both_ways, cases_order}
use Rattle.std.proofs.lemmas.Bool.Decides.{Decides-and, Decides-or, Decides-ltb, Decides-eqb, not_from_Decides}
use Rattle.base_words.specs.declared.names.Key.{Key}
use Rattle.core_timeline.specs.Rising.{StandsBefore, stands_before, same_key}

pub Decides-stands_before : (one other : Key) → Decides (stands_before one other) (StandsBefore one other)
Decides-stands_before one other =
    Decides-or _ _ (Decides-ltb one.vr other.vr) (Decides-and _ _ (Decides-eqb one.vr other.vr) (Decides-ltb one.queue other.queue))

pub Decides-same_key : (one other : Key) → Decides (same_key one other) ((one.vr ≡ other.vr) × (one.queue ≡ other.queue))
Decides-same_key one other = Decides-and _ _ (Decides-eqb one.vr other.vr) (Decides-eqb one.queue other.queue)

pub StandsBefore-trans : (a b c : Key) → StandsBefore a b → StandsBefore b c → StandsBefore a c
StandsBefore-trans a b c first second = grind arith

pub StandsBefore-irrefl : (a : Key) → StandsBefore a a → ⊥
StandsBefore-irrefl a before = grind arith

-- a key that is not before another is not before an earlier one
pub not_before_earlier : (key middle earlier : Key) → stands_before key middle ≡ false → StandsBefore earlier middle → stands_before key earlier ≡ false
not_before_earlier key middle earlier late early =
    false_from_ne_true _ (λ e. both_ways _ late ((Decides-stands_before key middle).1 (StandsBefore-trans key earlier middle ((Decides-stands_before key earlier).0 e) early)))

-- of two keys that stand apart neither is the other
pub same_key-before : (key other : Key) → StandsBefore key other → same_key key other ≡ false
same_key-before key other before =
    false_from_ne_true _ (λ e. let same = (Decides-same_key key other).0 e in grind arith)

pub same_key-behind : (key other : Key) → StandsBefore other key → same_key key other ≡ false
same_key-behind key other behind =
    false_from_ne_true _ (λ e. let same = (Decides-same_key key other).0 e in grind arith)

same_parts : (key other : Key) → ¬ StandsBefore key other → ¬ StandsBefore other key → (key.vr ≡ other.vr) × (key.queue ≡ other.queue)
same_parts key other not_before not_behind =
    elim (cases_order key.vr other.vr) [
      | inl even ↦
          elim (cases_order key.queue other.queue) [
            | inl same ↦ (even, same)
            | inr (inl lower) ↦ absurd (not_before (inr (even, lower)))
            | inr (inr higher) ↦ absurd (not_behind (inr (sym even, higher)))
          ]
      | inr (inl lower) ↦ absurd (not_before (inl lower))
      | inr (inr higher) ↦ absurd (not_behind (inl higher))
    ]

-- keys of which neither stands before the other are one
pub same_key-between : (key other : Key) → stands_before key other ≡ false → stands_before other key ≡ false → same_key key other ≡ true
same_key-between key other late early =
    let not_before = not_from_Decides _ (Decides-stands_before key other) late in
    let not_behind = not_from_Decides _ (Decides-stands_before other key) early in
    (Decides-same_key key other).1 (same_parts key other not_before not_behind)
