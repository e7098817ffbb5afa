-- What a collection, a redemption and a detachment do to a lane.
use Rattle.std.proofs.Common.{◌≡◌, ◌≢◌, inl, inr, ℕ, ◌+◌, ◌<◌, ◌≤◌, true, List, Some, None, refl, sym, ap, subst, ◌∙◌, arith}
use Rattle.std.specs.Prelude.{slice_get}
use Rattle.std.proofs.lemmas.Bool.Decides.{eqb_tells, leb_tells}
use Rattle.base_words.specs.declared.order.Order.{Order}
use Rattle.base_words.specs.declared.order.Outcome.{Outcome}
use Rattle.link_ends.specs.declared.ends.Outward.{Outward}
use Rattle.base_words.specs.Assembly.{IsPrefix}
use Rattle.link_ends.specs.Ends.{AreOf, SoundOut}
use Rattle.link_ends.proofs.EndFacts.{SoundOut-credit}
use Rattle.link_ends.proofs.Lists.{slice_get-starts}
use Rattle.actor_desk.specs.Held.{at, Removes, Becomes}
use Rattle.actor_desk.specs.Lanes.{Lane, is_collected, IsSent, IsGot, FitsSent, Stands, IsLaneOf}
use Rattle.actor_desk.specs.declared.entry.Entry.{Entry}
use Rattle.actor_desk.proofs.Taken.{taken-get, AreOf-taken}
use Rattle.actor_desk.specs.declared.entry.Entry.TheVariants.{Pending, Detached, Collected}

module _ {J T : Type 0} (fits : Order J → Outcome J T → Type 0) (lane : Lane J T) (out : Outward J T) (credited : ℕ) (l : IsLaneOf fits lane out credited) where
  -- an outcome that waits is one that was collected, and its order's
  pub collected-got : (number : ℕ) (outcome : Outcome J T) → at lane.entries number ≡ Some (Collected outcome) → IsGot out number outcome
  collected-got number outcome there = (l.standing number (Collected outcome) there).1

  pub collected-fits : (number : ℕ) (outcome : Outcome J T) → at lane.entries number ≡ Some (Collected outcome) → FitsSent fits out number outcome
  collected-fits number outcome there = let got : IsGot out number outcome = collected-got number outcome there in (l.named.0 got.place (number, outcome) (taken-get out.got out.seen got.place (number, outcome) got.got got.is)).1

  -- it has a credit that was not given back
  pub collected-earned : (new : List (ℕ × Entry J T)) (number : ℕ) (outcome : Outcome J T) → Removes lane.entries new number (Collected outcome) → credited < out.got
  collected-earned new number outcome removes = omega (arith, l.kept, removes.tallies is_collected)

  -- an outcome that waited is gone, and its place is free
  pub IsLaneOf-redeemed : (new : Lane J T) (number : ℕ) (outcome : Outcome J T) → Removes lane.entries new.entries number (Collected outcome)
      → new.room ≡ lane.room → new.count ≡ lane.count → new.last ≡ lane.last → IsLaneOf fits new out (credited + 1)
  IsLaneOf-redeemed new number outcome removes room count last = record {
    room = room ∙ l.room;
    count = count ∙ l.count;
    last = λ some. omega (arith, l.last (omega arith));
    sound = SoundOut-credit out credited l.sound (collected-earned new.entries number outcome removes);
    named = l.named;
    standing = λ n. λ entry. λ there. elim (eqb_tells n number) [
      | inl same ↦ absurd (let e : at new.entries n ≡ None = ap (at new.entries) same.1 ∙ removes.gone in cc)
      | inr other ↦ l.standing n entry (sym (removes.others n other.1) ∙ there)
    ];
    gone = λ n. λ sent. λ none. elim (eqb_tells n number) [
      | inl same ↦ (outcome, collected-got n outcome (ap (at lane.entries) same.1 ∙ removes.was))
      | inr other ↦ l.gone n sent (sym (removes.others n other.1) ∙ none)
    ];
    outstanding = omega (arith, l.outstanding, removes.tallies (λ value. true));
    kept = omega (arith, l.kept, removes.tallies is_collected);
  }

  -- a submission that waits for its outcome is detached
  pub IsLaneOf-detached : (new : Lane J T) (number : ℕ) → Becomes lane.entries new.entries number Pending Detached
      → new.room ≡ lane.room → new.count ≡ lane.count → new.last ≡ lane.last → IsLaneOf fits new out credited
  IsLaneOf-detached new number becomes room count last = record {
    room = room ∙ l.room;
    count = count ∙ l.count;
    last = λ some. omega (arith, l.last (omega arith));
    sound = l.sound;
    named = l.named;
    standing = λ n. λ entry. λ there. elim (eqb_tells n number) [
      | inl same ↦
          let entry_is : Detached ≡ entry = let e : at new.entries n ≡ Some Detached = ap (at new.entries) same.1 ∙ becomes.here in cc in
          subst (Stands out n) entry_is (l.standing n Pending (ap (at lane.entries) same.1 ∙ becomes.was))
      | inr other ↦ l.standing n entry (sym (becomes.others n other.1) ∙ there)
    ];
    gone = λ n. λ sent. λ none. elim (eqb_tells n number) [
      | inl same ↦ absurd (let e : at new.entries n ≡ Some Detached = ap (at new.entries) same.1 ∙ becomes.here in cc)
      | inr other ↦ l.gone n sent (sym (becomes.others n other.1) ∙ none)
    ];
    outstanding = omega (arith, l.outstanding, becomes.tallies (λ value. true));
    kept = omega (arith, l.kept, becomes.tallies is_collected);
  }

  -- a collection that finds nothing may still see more
  module _ (seen : List (ℕ × Outcome J T)) (longer : IsPrefix out.seen seen) (named : AreOf fits out.base out.sent seen) where
    seen_is : (i : ℕ) → i < out.got → slice_get seen i ≡ slice_get out.seen i
    seen_is i low = slice_get-starts seen out.seen i longer (omega (arith, l.sound.behind))

    IsGot-more : (got : ℕ) (number : ℕ) (outcome : Outcome J T) → out.got ≤ got → IsGot out number outcome → IsGot (record out { seen = seen; got = got }) number outcome
    IsGot-more got number outcome more found = record { place = found.place; got = omega (arith, found.got); is = seen_is found.place found.got ∙ found.is }

    -- what stands at another number than those that were got later
    Stands-more : (got : ℕ) (number : ℕ) (entry : Entry J T) → out.got ≤ got
        → ((i : ℕ) (found : ℕ × Outcome J T) → out.got ≤ i → i < got → slice_get seen i ≡ Some found → ¬ (found.0 ≡ number))
        → Stands out number entry → Stands (record out { seen = seen; got = got }) number entry
    Stands-more got number Pending more apart stands = (
      stands.0,
      λ i. λ found. λ low. λ is.
          elim (leb_tells out.got i) [ inl late ↦ apart i found late.1 low is | inr early ↦ stands.1 i found early.1 (sym (seen_is i early.1) ∙ is) ],
    )
    Stands-more got number Detached more apart stands = (
      stands.0,
      λ i. λ found. λ low. λ is.
          elim (leb_tells out.got i) [ inl late ↦ apart i found late.1 low is | inr early ↦ stands.1 i found early.1 (sym (seen_is i early.1) ∙ is) ],
    )
    Stands-more got number (Collected outcome) more apart stands = (stands.0, IsGot-more got number outcome more stands.1)

    pub IsLaneOf-seen : SoundOut (record out { seen = seen }) credited → IsLaneOf fits lane (record out { seen = seen }) credited
    IsLaneOf-seen sound = record {
      room = l.room;
      count = l.count;
      last = l.last;
      sound = sound;
      named = AreOf-taken fits out.base out.sent seen out.got named;
      standing = λ n. λ entry. λ there. Stands-more out.got n entry (omega arith) (λ i. λ found. λ late. λ low. absurd (omega arith)) (l.standing n entry there);
      gone = λ n. λ sent. λ none. let had = l.gone n sent none in (had.0, IsGot-more out.got n had.0 (omega arith) had.1);
      outstanding = l.outstanding;
      kept = l.kept;
    }

    module _ (number : ℕ) (outcome : Outcome J T) (next : slice_get seen out.got ≡ Some (number, outcome)) where
      abbrev later : Outward J T
      later = record out { seen = seen; got = out.got + 1 }

      next_got : IsGot later number outcome
      next_got = record { place = out.got; got = omega arith; is = next }

      next_sent : IsSent out number
      next_sent = let n = named.0 out.got (number, outcome) next in (n.0, n.2)

      -- the number of the next outcome was not collected before
      not_got : (other : Outcome J T) → IsGot out number other → ⊥
      not_got other got =
          let low : got.place < out.got = got.got in
          let same : got.place ≡ out.got = named.1 got.place out.got (number, other) (number, outcome) (seen_is got.place got.got ∙ got.is) next refl in omega arith

      -- so it waits, detached or not
      pub next_not_none : ¬ (at lane.entries number ≡ None)
      next_not_none none = let had = l.gone number next_sent none in not_got had.0 had.1

      pub next_not_collected : (other : Outcome J T) → ¬ (at lane.entries number ≡ Some (Collected other))
      next_not_collected other there = not_got other (collected-got number other there)

      others_stand : (n : ℕ) (entry : Entry J T) → n ≢ number → Stands out n entry → Stands later n entry
      others_stand n entry apart stands =
          Stands-more (out.got + 1) n entry (omega arith) (λ i. λ found. λ late. λ low. λ is. λ equal.
          let at_got : i ≡ out.got = omega arith in
          let found_is : (number, outcome) ≡ found = let e : slice_get seen i ≡ Some (number, outcome) = ap (slice_get seen) at_got ∙ next in cc in
          apart (sym equal ∙ ap (λ (f : ℕ × Outcome J T). f.0) (sym found_is))) stands

      pub IsLaneOf-kept : SoundOut later credited → (new : Lane J T) → Becomes lane.entries new.entries number Pending (Collected outcome)
          → new.room ≡ lane.room → new.count ≡ lane.count → new.last ≡ lane.last → IsLaneOf fits new later credited
      IsLaneOf-kept sound new becomes room count last = record {
        room = room ∙ l.room;
        count = count ∙ l.count;
        last = λ some. omega (arith, l.last (omega arith));
        sound = sound;
        named = AreOf-taken fits out.base out.sent seen (out.got + 1) named;
        standing = λ n. λ entry. λ there. elim (eqb_tells n number) [
          | inl same ↦
              let entry_is : Collected outcome ≡ entry = let e : at new.entries n ≡ Some (Collected outcome) = ap (at new.entries) same.1 ∙ becomes.here in cc in
              subst (Stands later n) entry_is (subst (λ m. Stands later m (Collected outcome)) (sym same.1) (next_sent, next_got))
          | inr other ↦ others_stand n entry other.1 (l.standing n entry (sym (becomes.others n other.1) ∙ there))
        ];
        gone = λ n. λ sent. λ none. elim (eqb_tells n number) [
          | inl same ↦ absurd (let e : at new.entries n ≡ Some (Collected outcome) = ap (at new.entries) same.1 ∙ becomes.here in cc)
          | inr other ↦ let had = l.gone n sent (sym (becomes.others n other.1) ∙ none) in (had.0, IsGot-more (out.got + 1) n had.0 (omega arith) had.1)
        ];
        outstanding = omega (arith, l.outstanding, becomes.tallies (λ value. true));
        kept = omega (arith, l.kept, becomes.tallies is_collected);
      }

      pub IsLaneOf-dropped : SoundOut later credited → credited < out.got + 1 → (new : Lane J T) → Removes lane.entries new.entries number Detached
          → new.room ≡ lane.room → new.count ≡ lane.count → new.last ≡ lane.last → IsLaneOf fits new later (credited + 1)
      IsLaneOf-dropped sound earned new removes room count last = record {
        room = room ∙ l.room;
        count = count ∙ l.count;
        last = λ some. omega (arith, l.last (omega arith));
        sound = SoundOut-credit later credited sound earned;
        named = AreOf-taken fits out.base out.sent seen (out.got + 1) named;
        standing = λ n. λ entry. λ there. elim (eqb_tells n number) [
          | inl same ↦ absurd (let e : at new.entries n ≡ None = ap (at new.entries) same.1 ∙ removes.gone in cc)
          | inr other ↦ others_stand n entry other.1 (l.standing n entry (sym (removes.others n other.1) ∙ there))
        ];
        gone = λ n. λ sent. λ none. elim (eqb_tells n number) [
          | inl same ↦ (outcome, subst (λ m. IsGot later m outcome) (sym same.1) next_got)
          | inr other ↦ let had = l.gone n sent (sym (removes.others n other.1) ∙ none) in (had.0, IsGot-more (out.got + 1) n had.0 (omega arith) had.1)
        ];
        outstanding = omega (arith, l.outstanding, removes.tallies (λ value. true));
        kept = omega (arith, l.kept, removes.tallies is_collected);
      }
