-- What a lane knows of its numbers, and that a send keeps it.
use Rattle.std.proofs.Common.{◌≡◌, Bool, ◌≢◌, ◌⊎◌, inl, inr, ℕ, ◌+◌, ◌<◌, ◌≤◌, true, false, is_some, List, [], ◌∷◌, ◌++◌, length, length-append, Option, Some, None, Ok, Err, refl, sym, ap, subst, ◌∙◌, arith}
use Rattle.std.specs.Prelude.{slice_get, take}
use Rattle.std.proofs.lemmas.Bool.Decides.{eqb_tells}
use Rattle.std.proofs.lemmas.List.{take-append-le}
use Rattle.base_words.specs.declared.order.Order.{Order}
use Rattle.base_words.specs.declared.order.Outcome.{Outcome}
use Rattle.base_words.specs.declared.order.SendError.{SendError}
use Rattle.base_words.specs.declared.order.SendError.TheVariants.{Closed, Full, Spent, NoCore}
use Rattle.link_ends.specs.declared.ends.Outward.{Outward}
use Rattle.link_ends.specs.Calls.{Sends}
use Rattle.base_words.specs.Assembly.{IsPrefix}
use Rattle.link_ends.specs.Ends.{AreOf, SoundOut}
use Rattle.link_ends.proofs.EndFacts.{SoundOut-Sends}
use Rattle.base_words.proofs.Prefixes.{IsPrefix-self}
use Rattle.link_ends.proofs.Lists.{slice_get-starts}
use Rattle.link_ends.proofs.Numbers.{AreOf-starts}
use Rattle.actor_desk.specs.Held.{at, Adds}
use Rattle.actor_desk.specs.Rolls.{IsAbove}
use Rattle.actor_desk.specs.Lanes.{Lane, is_collected, IsSent, IsGot, Stands, IsLaneOf, IsUnused, fresh_lane}
use Rattle.actor_desk.specs.declared.entry.Entry.{Entry}
use Rattle.actor_desk.proofs.Taken.{taken-get, take-nothing}
use Rattle.actor_desk.specs.declared.entry.Entry.TheVariants.{Pending, Detached, Collected}

-- an option is nothing or something
pub option_cases : {A : Type 0} (option : Option A) → (option ≡ None) ⊎ ((a : A) × (option ≡ Some a))
option_cases None = inl refl
option_cases (Some a) = inr (a, refl)

module _ {J T : Type 0} where
  pub Stands-sent : (out : Outward J T) (number : ℕ) (entry : Entry J T) → Stands out number entry → IsSent out number
  Stands-sent out number Pending stands = stands.0
  Stands-sent out number Detached stands = stands.0
  Stands-sent out number (Collected outcome) stands = stands.0

  -- more orders sent change nothing of a number
  Stands-longer : (out : Outward J T) (orders : List (Order J)) (number : ℕ) (entry : Entry J T) → length out.sent ≤ length orders
      → Stands out number entry → Stands (record out { sent = orders }) number entry
  Stands-longer out orders number Pending more stands = let low : out.base < number = stands.0.0 in let high : number ≤ out.base + length out.sent = stands.0.1 in ((low, omega arith), stands.1)
  Stands-longer out orders number Detached more stands = let low : out.base < number = stands.0.0 in let high : number ≤ out.base + length out.sent = stands.0.1 in ((low, omega arith), stands.1)
  Stands-longer out orders number (Collected outcome) more stands =
      let low : out.base < number = stands.0.0 in let high : number ≤ out.base + length out.sent = stands.0.1 in
      ((low, omega arith), record { place = stands.1.place; got = stands.1.got; is = stands.1.is })

module _ {J T : Type 0} (fits : Order J → Outcome J T → Type 0) where
  -- the next number is above all that have an entry
  pub next_above : (lane : Lane J T) (out : Outward J T) (credited number : ℕ) → IsLaneOf fits lane out credited
      → number ≡ out.base + length out.sent + 1 → IsAbove lane.entries number
  next_above lane out credited number l next n there =
      elim (option_cases (at lane.entries n)) [
        | inl none ↦ absurd (let e : true ≡ false = sym there ∙ ap is_some none in cc)
        | inr some ↦ let sent : IsSent out n = Stands-sent out n some.0 (l.standing n some.0 some.1) in let high : n ≤ out.base + length out.sent = sent.1 in omega arith
      ]

  -- a send that is accepted
  pub IsLaneOf-sent : (lane new : Lane J T) (out later : Outward J T) (credited : ℕ) (order : Order J) (number : ℕ) → IsLaneOf fits lane out credited
      → Sends out credited order later (Ok number) → Adds lane.entries new.entries number Pending
      → new.room ≡ lane.room → new.count ≡ lane.count + 1 → new.last ≡ number → IsLaneOf fits new later credited
  IsLaneOf-sent lane new out later credited order number l sends adds room count last =
      let longer : length (out.sent ++ order ∷ []) ≡ length out.sent + 1 = length-append out.sent (order ∷ []) in
      let next : number ≡ out.base + length out.sent + 1 = sends.2 in
      subst (λ o. IsLaneOf fits new o credited) (sym sends.4) record {
        room = room ∙ l.room;
        count = omega (arith, l.count);
        last = λ _. omega (arith, l.count);
        sound = subst (λ o. SoundOut o credited) sends.4 (SoundOut-Sends out later credited order (Ok number) l.sound sends);
        named = AreOf-starts fits out.base out.sent (out.sent ++ order ∷ []) (take out.got out.seen) (order ∷ [], refl) l.named;
        standing = λ n. λ entry. λ there. elim (eqb_tells n number) [
          | inl same ↦
              let is : n ≡ number = same.1 in
              let entry_is : Pending ≡ entry = let e : at new.entries n ≡ Some Pending = ap (at new.entries) is ∙ adds.here in cc in
              subst (Stands (record out { sent = out.sent ++ order ∷ [] }) n) entry_is (
                (omega arith, omega arith),
                λ i. λ found. λ low. λ found_is. λ equal.
                    let named = l.named.0 i found (taken-get out.got out.seen i found low found_is) in let high : found.0 ≤ out.base + length out.sent = named.2 in absurd (omega arith),
              )
          | inr other ↦ Stands-longer out (out.sent ++ order ∷ []) n entry (omega arith) (l.standing n entry (sym (adds.others n other.1) ∙ there))
        ];
        gone = λ n. λ sent. λ none. elim (eqb_tells n number) [
          | inl same ↦ absurd (let e : at new.entries n ≡ Some Pending = ap (at new.entries) same.1 ∙ adds.here in cc)
          | inr other ↦
              let low : out.base < n = sent.0 in let high : n ≤ out.base + length (out.sent ++ order ∷ []) = sent.1 in let apart : n ≢ number = other.1 in
              let had = l.gone n (low, omega arith) (sym (adds.others n other.1) ∙ none) in
              (had.0, record { place = had.1.place; got = had.1.got; is = had.1.is })
        ];
        outstanding = omega (arith, l.outstanding, adds.tallies (λ value. true));
        kept = omega (arith, l.kept, adds.tallies is_collected);
      }

  -- the same, as the call tells of its end and of the lane as it read it
  pub IsLaneOf-accepted : {was lane : Lane J T} → was ≡ lane → {out later : Outward J T} {credited after : ℕ} → IsLaneOf fits lane out credited → after ≡ credited → (order : Order J) {number : ℕ} → Sends out credited order later (Ok number)
      → {entries : List (ℕ × Entry J T)} → Adds was.entries entries number Pending → {room : ℕ} → room ≡ was.room → IsLaneOf fits (record { entries = entries; room = room; count = was.count + 1; last = number }) later after
  IsLaneOf-accepted {was} is {out} {later} {credited} {after} l same order {number} sends {entries} adds {room} room_is =
      let new : Lane J T = record { entries = entries; room = room; count = was.count + 1; last = number } in
      subst (λ k. IsLaneOf fits new later k) (sym same) (IsLaneOf-sent was new out later credited order number (subst (λ lane. IsLaneOf fits lane out credited) (sym is) l) sends adds room_is refl refl)

  -- to see more outcomes, or the gate shut, changes nothing of a lane
  pub IsLaneOf-more : (lane : Lane J T) (out : Outward J T) (credited : ℕ) (seen : List (ℕ × Outcome J T)) (closed : Bool) → IsPrefix out.seen seen
      → IsLaneOf fits lane out credited → IsLaneOf fits lane (record out { seen = seen; closed = closed }) credited
  IsLaneOf-more lane out credited seen closed longer l = record {
    room = l.room;
    count = l.count;
    last = l.last;
    sound = record {
      numbered = l.sound.numbered;
      room = l.sound.room;
      credits = l.sound.credits;
      behind = omega (arith, l.sound.behind, ap length longer.1, length-append out.seen longer.0);
      within = l.sound.within;
    };
    named = subst (AreOf fits out.base out.sent) (sym (ap (take out.got) longer.1 ∙ take-append-le out.got out.seen longer.0 l.sound.behind)) l.named;
    standing = λ n. λ entry. λ there. Stands-more n entry (l.standing n entry there);
    gone = λ n. λ sent. λ none. let had = l.gone n sent none in (had.0, IsGot-more n had.0 had.1);
    outstanding = l.outstanding;
    kept = l.kept;
  }
    where
      same_there : (i : ℕ) → i < out.got → slice_get seen i ≡ slice_get out.seen i
      same_there i low = slice_get-starts seen out.seen i longer (omega (arith, low, l.sound.behind))

      IsGot-more : (n : ℕ) (outcome : Outcome J T) → IsGot out n outcome → IsGot (record out { seen = seen; closed = closed }) n outcome
      IsGot-more n outcome found = record { place = found.place; got = found.got; is = same_there found.place found.got ∙ found.is }

      Stands-more : (n : ℕ) (entry : Entry J T) → Stands out n entry → Stands (record out { seen = seen; closed = closed }) n entry
      Stands-more n Pending stands = (stands.0, λ i. λ found. λ low. λ is. stands.1 i found low (sym (same_there i low) ∙ is))
      Stands-more n Detached stands = (stands.0, λ i. λ found. λ low. λ is. stands.1 i found low (sym (same_there i low) ∙ is))
      Stands-more n (Collected outcome) stands = (stands.0, IsGot-more n outcome stands.1)

  -- a send that is refused
  pub IsLaneOf-refused : (lane : Lane J T) (out later : Outward J T) (credited : ℕ) (order : Order J) (error : SendError J) → IsLaneOf fits lane out credited
      → Sends out credited order later (Err error) → IsLaneOf fits lane later credited
  IsLaneOf-refused lane out later credited order (Closed back final) l sends =
      subst (λ o. IsLaneOf fits lane o credited) (sym sends.2) (IsLaneOf-more lane out credited out.seen true (IsPrefix-self out.seen) l)
  IsLaneOf-refused lane out later credited order (Full back) l sends = subst (λ o. IsLaneOf fits lane o credited) (sym sends.3) l
  IsLaneOf-refused lane out later credited order (Spent back) l sends = subst (λ o. IsLaneOf fits lane o credited) (sym sends.4) l
  IsLaneOf-refused lane out later credited order (NoCore back) l sends = absurd sends

  -- a lane just opened, beside an end on which nothing was done
  pub IsLaneOf-fresh : (capacity : ℕ) (out : Outward J T) (credited : ℕ) → IsUnused capacity out credited → IsLaneOf fits (fresh_lane capacity) out credited
  IsLaneOf-fresh capacity out credited unused =
      let none_sent : length out.sent ≡ 0 = ap length unused.1 in
      let none_got : out.got ≡ 0 = unused.3 in
      let none_credited : credited ≡ 0 = unused.4 in
      record {
        room = sym unused.0;
        count = sym none_sent;
        last = λ some. absurd (omega arith);
        sound = unused.5;
        named = subst (AreOf fits out.base out.sent) (sym (ap (take out.got) unused.2 ∙ take-nothing out.got)) ((λ i. λ x. λ is. absurd (nothing_there i x is)), (λ i. λ j. λ x. λ y. λ is. absurd (nothing_there i x is)));
        standing = λ n. λ entry. λ there. absurd cc;
        gone = λ n. λ sent. λ none. let low : out.base < n = sent.0 in let high : n ≤ out.base + length out.sent = sent.1 in absurd (omega arith);
        outstanding = omega arith;
        kept = omega arith;
      }
    where
      nothing_there : (i : ℕ) (x : ℕ × Outcome J T) → slice_get {X = ℕ × Outcome J T} [] i ≡ Some x → ⊥
      nothing_there i x is = cc
